-- `lists::mark` meets its contract. The invariant: the first t entries have left their marks.
use Prim.Native.Nat.{◌-◌, ◌≤◌}
use Rattle.lists.specs.Picked.{Marked}
use Rattle.lists.proofs.mark.Given as goal

abbrev pub invariant-loop-t : goal.invariant-loop-t
invariant-loop-t l = (l.t ≤ l.places) × Marked l.t l.places l.list l.marks

abbrev pub decreases-loop-t : goal.decreases-loop-t
decreases-loop-t l = l.places - l.t
