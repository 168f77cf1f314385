-- `lists::byte_named` meets its contract.
use mathlib.Core.Path.{◌≡◌, ap, ◌∙◌}
use Prim.Native.Nat.{ℕ, ◌+◌, ◌*◌}
use native.Mathlib.Nat.{zero-div}
use native.Mathlib.Omega.{arith}
use Rattle.rules.specs.Bits.{bit, zeros}
use Rattle.rules.specs.Lists.{entry_of}
use Rattle.laws.proofs.Bits.{bit<}
use Rattle.laws.proofs.Runs.{run_low, run_none}
use Rattle.lists.proofs.Picking.{bit_more}
use Rattle.lists.proofs.byte_named.Goals as goal

pub loop-k-init : goal.loop-k-init
loop-k-init c = λ t h. rw (zero-div, run_none _ zeros t)

pub loop-k-preserved : goal.loop-k-preserved
loop-k-preserved c =
    let a = c.args in
    let f : ℕ → ℕ = λ t. bit a.from.now (entry_of a.list.now (8 * a.i + t)) in
    let e : c.bit_at.result ≡ f c.loop-k.k = c.bit_at.ensures ∙ ap (bit a.from.now) c.entry.ensures in
    bit_more f (λ t. bit< a.from.now _) c.loop-k.byte c.bit_at.result c.loop-k.k
    (rw e (bit< a.from.now (entry_of a.list.now (8 * a.i + c.loop-k.k)))) e c.loop-k.invariant

pub returns : goal.returns
returns c =
    let k : c.loop-k.k ≡ 8 = omega arith in
    record { each = λ t h. rw k at (c.loop-k.invariant t h) ∙ run_low 8 _ zeros t h }
