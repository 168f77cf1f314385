-- `try_cuttings` meets its contract. The invariants: the cuttings passed told two facts each, after the three by the
-- reversed lists.
use Prim.Native.Nat.{◌+◌, ◌*◌, ◌≤◌}
use Rattle.cuttings.specs.Tallies.{Tells}
use Rattle.cuttings.proofs.try_cuttings.Given as goal

abbrev pub invariant-loop-size : goal.invariant-loop-size
invariant-loop-size g l = (l.size-index ≤ 3) × Tells (2 * l.size-index) l.fn.tally l.tally

abbrev pub invariant-loop-size-2 : goal.invariant-loop-size-2
invariant-loop-size-2 g l = (l.size-index ≤ 7) × Tells (6 + 2 * l.size-index) l.fn.tally l.tally
