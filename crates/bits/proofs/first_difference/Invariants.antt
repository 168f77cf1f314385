-- `bits::first_difference` meets its contract. The invariant: the first k numbers of both are alike.
use mathlib.Core.Path.{◌≡◌}
use Prim.Native.Nat.{◌+◌, ◌-◌, ◌*◌, ◌/◌, ◌≤◌}
use Rattle.rules.specs.Bits.{bit, sum}
use Rattle.bits.proofs.Searching.{Clear}
use Rattle.bits.proofs.first_difference.Given as goal

abbrev pub invariant-loop-k : goal.invariant-loop-k
invariant-loop-k l =
    (l.k ≤ l.whole) × (l.whole ≡ l.count / 64)
    × Clear (sum (λ n. bit l.s (l.at + n)) (λ n. bit l.other (l.start + n))) (64 * l.k)

abbrev pub decreases-loop-k : goal.decreases-loop-k
decreases-loop-k l = l.whole - l.k
