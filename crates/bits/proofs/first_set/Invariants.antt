-- `bits::first_set` meets its contract. The invariant: the bits of the first k numbers are 0.
use mathlib.Core.Path.{◌≡◌}
use Prim.Native.Nat.{◌+◌, ◌-◌, ◌*◌, ◌/◌, ◌≤◌}
use Rattle.rules.specs.Bits.{bit}
use Rattle.bits.proofs.Searching.{Clear}
use Rattle.bits.proofs.first_set.Given as goal

abbrev pub invariant-loop-k : goal.invariant-loop-k
invariant-loop-k l = (l.k ≤ l.whole) × (l.whole ≡ (l.to - l.from) / 64) × Clear (λ n. bit l.s (l.from + n)) (64 * l.k)

abbrev pub decreases-loop-k : goal.decreases-loop-k
decreases-loop-k l = l.whole - l.k
