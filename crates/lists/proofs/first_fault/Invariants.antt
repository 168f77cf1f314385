-- `lists::first_fault` meets its contract. The invariant: the first t entries have left their marks, the place after
-- all has one, and none of the first t entries is at fault.
use mathlib.Core.Path.{◌≡◌}
use Prim.Native.Nat.{ℕ, ◌-◌, ◌≤◌, ◌<◌}
use lib.ListN.{get_or}
use Rattle.lists.specs.Picked.{Marked, AtFault}
use Rattle.lists.proofs.first_fault.Given as goal

abbrev pub invariant-loop-t : goal.invariant-loop-t
invariant-loop-t l =
    (l.t ≤ l.places)
    × Marked l.t l.places l.list l.marks
    × (get_or l.marks l.places 0 ≡ 1)
    × ((s : ℕ) → s < l.t → AtFault l.places l.list s → ⊥)

abbrev pub decreases-loop-t : goal.decreases-loop-t
decreases-loop-t l = l.places - l.t
