-- `lists::pick` meets its contract. The invariant: the bits of the first i bytes are picked.
use mathlib.Core.Path.{◌≡◌}
use Prim.Native.Nat.{ℕ, ◌*◌, ◌≤◌, ◌<◌}
use lib.ListN.{length}
use Rattle.rules.specs.Bits.{bit}
use Rattle.rules.specs.Lists.{entry_of}
use Rattle.lists.proofs.pick.Given as goal

abbrev pub invariant-loop-i : goal.invariant-loop-i
invariant-loop-i l =
    (l.i ≤ length l.initial.to)
    × (length l.to ≡ length l.initial.to)
    × ((n : ℕ) → n < 8 * l.i → bit l.to n ≡ bit l.from (entry_of l.list n))
