-- `lists::byte_named` meets its contract. The invariant: the first k bits are joined.
use Prim.Native.Nat.{ℕ, ◌+◌, ◌*◌, ◌<◌}
use mathlib.Core.Path.{◌≡◌}
use Rattle.rules.specs.Bits.{bit, zeros, run}
use Rattle.rules.specs.Lists.{entry_of}
use Rattle.rules.specs.Words.{digit}
use Rattle.lists.proofs.byte_named.Given as goal

abbrev pub invariant-loop-k : goal.invariant-loop-k
invariant-loop-k l =
    (t : ℕ) → t < 8 → digit l.byte t ≡ run l.k (λ t. bit l.from (entry_of l.list (8 * l.i + t))) zeros t
