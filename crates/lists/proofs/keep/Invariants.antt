-- `lists::keep` meets its contract. The invariant: the first i bytes are joined, and the others as they were.
use mathlib.Core.Path.{◌≡◌}
use Prim.Native.Nat.{ℕ, min, ◌*◌, ◌≤◌, ◌<◌}
use lib.ListN.{length, get_or}
use Rattle.rules.specs.Bits.{bit}
use Rattle.lists.proofs.keep.Given as goal

abbrev pub invariant-loop-i : goal.invariant-loop-i
invariant-loop-i l =
    (l.i ≤ length l.initial.mask)
    × (length l.mask ≡ length l.initial.mask)
    × ((n : ℕ) → n < 8 * l.i → bit l.mask n ≡ min (bit l.initial.mask n) (bit l.word n))
    × ((k : ℕ) → l.i ≤ k → get_or l.mask k 0 ≡ get_or l.initial.mask k 0)
