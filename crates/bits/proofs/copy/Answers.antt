use borrow.Author.Rules.{rules, read_below}
use borrow.Author.Count.{below_none, below_more}
use Prim.Native.Nat.{ℕ}
use native.Mathlib.Omega.{arith}
use lib.ListN.{get_or}
use lib.Seq.{get_or-set_same, ext_get_or}
use Rattle.bits.proofs.copy.Goals as goal

pub loop-i-init : goal.loop-i-init
loop-i-init c = (search rules, search rules, below_none _)

pub loop-i-preserved : goal.loop-i-preserved
loop-i-preserved c =
    let l = c.loop-i in
    let from = c.args.from.now in (
      search rules,
      search rules,
      below_more _ l.i (λ k h. read_below ℕ l.to l.i k _ 0 (get_or from k 0) h (l.invariant.2 k h))
          (get_or-set_same l.to l.i _ 0 (omega arith)),
    )

pub returns : goal.returns
returns c =
    let l = c.loop-i in
    ext_get_or 0 l.to c.args.from.now l.invariant.1 (λ k h. l.invariant.2 k (omega arith))
