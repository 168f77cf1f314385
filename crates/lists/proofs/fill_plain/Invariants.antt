-- `lists::fill_plain` meets its contract. The invariant: the first t entries are made.
use mathlib.Core.Path.{◌≡◌}
use Prim.Native.Nat.{ℕ, ◌-◌, ◌*◌, ◌≤◌, ◌<◌}
use lib.ListN.{length}
use Rattle.rules.specs.Lists.{entry_of}
use Rattle.lists.proofs.fill_plain.Given as goal

abbrev pub invariant-loop-t : goal.invariant-loop-t
invariant-loop-t l =
    (l.t ≤ l.places) × (length l.list ≡ 2 * l.places) × ((s : ℕ) → s < l.t → entry_of l.list s ≡ s)

abbrev pub decreases-loop-t : goal.decreases-loop-t
decreases-loop-t l = l.places - l.t
