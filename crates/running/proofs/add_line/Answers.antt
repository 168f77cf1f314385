use borrow.Author.Rules.{rules}
use mathlib.Core.Path.{◌≡◌}
use Prim.Native.Nat.{ℕ, ◌+◌, ◌*◌}
use native.Mathlib.Nat.{mul-zero}
use native.Mathlib.Omega.{arith}
use lib.ListN.{length}
use Rattle.rules.specs.Bits.{bit}
use Rattle.rules.proofs.TableLaws.{line_read}
use Rattle.laws.proofs.Adds.{adds_none}
use Rattle.laws.proofs.Runs.{run_none}
use Rattle.running.proofs.Blocks.{has_fewer, line_more, line_all}
use Rattle.running.proofs.add_line.Goals as goal

pub loop-i-init : goal.loop-i-init
loop-i-init c = (search rules, adds_none _ _ (λ n. rw (mul-zero c.args.size) (run_none _ _ n)))

pub add_entry-requires : goal.add_entry-requires
add_entry-requires c =
    let read = line_read c.args.line.now c.loop-i.i (omega arith) c.add_entry-arg-in-loop-i-1.given in (
      has_fewer (omega arith) c.loop-i.invariant.1.length_same c.requires.0,
      c.requires.1,
      rw read (c.requires.3 c.loop-i.i),
    )

pub loop-i-preserved : goal.loop-i-preserved
loop-i-preserved c =
    let a = c.args in
    let read = line_read a.line.now c.loop-i.i (omega arith) c.add_entry-arg-in-loop-i-1.given in
    let x : ℕ → ℕ = λ t. bit a.word.now (a.size * a.j + t) in (
      search rules,
      line_more a.size c.requires.2 a.line.now x c.loop-i.i c.loop-i.invariant.1
          (rw read at c.add_entry.ensures),
    )

pub returns : goal.returns
returns c =
    let a = c.args in
    let e : c.loop-i.i ≡ length a.line.now = omega arith in
    line_all a.size c.requires.2 a.line.now _ (rw e at c.loop-i.invariant.1)
