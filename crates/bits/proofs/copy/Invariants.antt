-- `bits::copy` meets its contract. The invariant: the first i bytes are those of `from`.
use mathlib.Core.Path.{◌≡◌}
use Prim.Native.Nat.{ℕ, ◌≤◌, ◌<◌}
use lib.ListN.{length, get_or}
use Rattle.bits.proofs.copy.Given as goal

abbrev pub invariant-loop-i : goal.invariant-loop-i
invariant-loop-i l =
    (l.i ≤ length l.from) × (length l.to ≡ length l.from) × ((k : ℕ) → k < l.i → get_or l.to k 0 ≡ get_or l.from k 0)
