-- `bits::add_run` meets its contract. The invariant: the first k numbers are added.
use mathlib.Core.Path.{◌≡◌}
use Prim.Native.Nat.{◌+◌, ◌-◌, ◌*◌, ◌/◌, ◌≤◌}
use Rattle.rules.specs.Bits.{bit, placed, Adds}
use Rattle.bits.proofs.add_run.Given as goal

abbrev pub invariant-loop-k : goal.invariant-loop-k
invariant-loop-k l =
    (l.k ≤ l.whole) × (l.whole ≡ l.count / 64)
    × Adds l.initial.s l.s (placed l.at (64 * l.k) (λ t. bit l.from (l.start + t)))

abbrev pub decreases-loop-k : goal.decreases-loop-k
decreases-loop-k l = l.whole - l.k
