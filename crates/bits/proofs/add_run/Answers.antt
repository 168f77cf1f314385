use borrow.Author.Rules.{rules}
use mathlib.Core.Path.{◌≡◌}
use Prim.Native.Nat.{◌+◌, ◌*◌, ◌/◌, ◌%◌}
use native.Mathlib.Omega.{arith}
use Rattle.laws.proofs.Runs.{placed_none}
use Rattle.laws.proofs.Adds.{adds_none}
use Rattle.bits.proofs.Moving.{at_place, adds_number}
use Rattle.bits.proofs.add_run.Goals as goal

pub loop-k-init : goal.loop-k-init
loop-k-init c = (search rules, search rules, adds_none _ _ (placed_none _ _))

pub loop-k-preserved : goal.loop-k-preserved
loop-k-preserved c =
    let a = c.args in
    let k = c.loop-k.k in
    let next : 64 * k + 64 ≡ 64 * (k + 1) = omega arith in
    let here = at_place a.from.now a.start k c.number_at-number.ensures in (
      search rules,
      search rules,
      rw next at
          (adds_number _ a.at k 64 (omega arith) c.loop-k.invariant.2 here c.add_number.ensures),
    )

pub returns : goal.returns
returns c =
    let a = c.args in
    let whole = a.count / 64 in
    let passed : c.loop-k.k ≡ whole = omega arith in
    let all : 64 * whole + a.count % 64 ≡ a.count = omega arith in
    let here = at_place a.from.now a.start whole c.rest_at-number.ensures in
    rw all at
    (adds_number _ a.at whole (a.count % 64) (omega arith) (rw passed at c.loop-k.invariant.2) here
    c.add_rest.ensures)
