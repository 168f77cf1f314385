-- Laws of the ones of bytes, counted by numbers.
--
--   ones_more     the ones of one number more
--   ones_all      where the last number reaches past the end of s, all are counted
--   ones_below    bits have no more ones than places
use mathlib.Core.Path.{◌≡◌, sym, ap, ap₂, ◌∙◌}
use mathlib.Core.List.{List}
use Prim.Native.Nat.{ℕ, ◌+◌, ◌-◌, ◌*◌, ◌≤◌}
use native.Mathlib.Omega.{arith}
use lib.ListN.{length}
use Rattle.rules.specs.Bits.{bit}
use Rattle.rules.specs.Matrix.{total}
use Rattle.rules.specs.Words.{digit}
use Rattle.rules.proofs.Sums.{total_same, total_below, total_from, total_none}
use Rattle.laws.proofs.Bits.{bit<, bit_past}
use Rattle.numbers.specs.Numbers.{Holds}

module _ (s : List ℕ) where
  pub ones_more : (k m b : ℕ) {x v : ℕ} → m ≡ total (64 * k) (bit s) → b ≡ 64 * k → Holds x (λ i. bit s (b + i))
      → v ≡ total 64 (digit x) → m + v ≡ total (64 * (k + 1)) (bit s)
  ones_more k m b {x} e place h o =
      let next : 64 * k + 64 ≡ 64 * (k + 1) = omega arith in
      ap₂ ◌+◌ e (o ∙ total_same 64 (digit x) (λ i. bit s (64 * k + i)) (λ i l. h.each i l ∙ ap (bit s) (omega arith)))
      ∙ sym (total_from (64 * k) 64 (bit s))
      ∙ ap (λ (n : ℕ). total n (bit s)) next

  pub ones_all : (n : ℕ) → 8 * length s ≤ n → total n (bit s) ≡ total (8 * length s) (bit s)
  ones_all n l =
      let e : n ≡ 8 * length s + (n - 8 * length s) = omega arith in
      ap (λ (n : ℕ). total n (bit s)) e
      ∙ total_from (8 * length s) (n - 8 * length s) (bit s)
      ∙ omega (
        arith,
        total_none (n - 8 * length s) (λ i. bit s (8 * length s + i))
            (λ i h. bit_past s (8 * length s + i) (omega arith)),
      )

  pub ones_below : (n : ℕ) → total n (bit s) ≤ n
  ones_below n = total_below n (bit s) (bit< s)
