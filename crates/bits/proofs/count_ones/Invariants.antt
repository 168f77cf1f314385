-- `bits::count_ones` meets its contract. The invariant: the ones of the first k numbers are counted.
use mathlib.Core.Path.{◌≡◌}
use Prim.Native.Nat.{◌-◌, ◌*◌, ◌/◌, ◌≤◌}
use lib.ListN.{length}
use Rattle.rules.specs.Bits.{bit}
use Rattle.rules.specs.Matrix.{total}
use Rattle.bits.proofs.count_ones.Given as goal

abbrev pub invariant-loop-k : goal.invariant-loop-k
invariant-loop-k l = (l.k ≤ l.whole) × (l.whole ≡ length l.s / 8) × (l.count ≡ total (64 * l.k) (bit l.s))

abbrev pub decreases-loop-k : goal.decreases-loop-k
decreases-loop-k l = l.whole - l.k
