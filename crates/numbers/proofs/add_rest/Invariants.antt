-- `numbers::add_rest` meets its contract. The invariant: the first i bytes are added to.
use mathlib.Core.Path.{◌≡◌}
use Prim.Native.Nat.{◌+◌, ◌-◌, ◌*◌, ◌/◌, ◌≤◌}
use Rattle.rules.specs.Bits.{placed, Adds}
use Rattle.numbers.proofs.Storing.{later}
use Rattle.numbers.proofs.add_rest.Given as goal

abbrev pub invariant-loop-i : goal.invariant-loop-i
invariant-loop-i l =
    (1 ≤ l.i) × (l.i ≤ l.i-end) × (l.i-end ≡ (l.weight + l.count + 7) / 8)
    × Adds l.initial.s l.s (placed (8 * l.byte + l.weight + (8 - l.weight)) (8 * l.i - 8) (later l.weight l.kept))
