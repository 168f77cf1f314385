-- `turning::add_block_within` meets its contract: the bytes that began as zeros hold the block.
use mathlib.Core.Path.{◌≡◌, ap, ◌∙◌}
use mathlib.Core.List.{List}
use Prim.Native.Nat.{ℕ, ◌+◌, ◌-◌, ◌<◌}
use native.Mathlib.Nat.{mod-lt}
use native.Mathlib.Omega.{arith}
use lib.ListN.{replicate}
use Rattle.rules.specs.Bits.{bit, placed, Adds}
use Rattle.laws.proofs.Bits.{bit<, bit_zeros}
use Rattle.laws.proofs.Runs.{placed_in, placed_same}
use Rattle.laws.proofs.Adds.{adds_as}
use Rattle.turning.proofs.add_block_within.Goals as goal

-- what is added to zeros stands there
held : (s t : List ℕ) (k f z : ℕ) → Adds (replicate k 0) t (placed 0 z (λ n. bit s (f + n))) → (n : ℕ) → n < z
    → bit t (0 + n) ≡ bit s (f + n)
held s t k f z added n h =
    let e : n - 0 ≡ n = omega arith in
    ap (bit t) (omega arith)
    ∙ added.each n
    ∙ rw (placed_in 0 z (λ n. bit s (f + n)) n (omega arith) (omega arith), bit_zeros k n, e)
    (omega (arith, bit< s (f + n)))

pub returns : goal.returns
returns c =
    let put = c.add_block in
    let a = c.args in
    let s = a.s.now in
    adds_as
    (placed_same a.to a.size _ _ (λ t h.
    held s _ 64 a.from a.size c.add_run.ensures _ (mod-lt (t + a.turn) (omega arith))))
    put.ensures
