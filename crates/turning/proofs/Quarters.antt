-- Laws of quarters: 64 bits of a part as one number.
--
--   quarter_turned    quarter j of a turned part is read across two of the part
--   part_summed       the quarters of sums, with those of a part added
--   part_stored       four quarters stored, one after the other
use mathlib.Core.Path.{◌≡◌, refl, sym, ap, ◌∙◌}
use mathlib.Core.List.{List}
use Prim.Native.Nat.{ℕ, ◌+◌, ◌-◌, ◌*◌, ◌/◌, ◌%◌}
use native.Mathlib.Omega.{arith}
use lib.Bits.{bit_xor}
use lib.ListN.{drop}
use Rattle.rules.specs.Bits.{bit, run}
use Rattle.rules.specs.Words.{digit}
use Rattle.laws.proofs.Bits.{bit_drop}
use Rattle.laws.proofs.Runs.{run_each}
use Rattle.numbers.specs.Numbers.{Holds, Replaced}
use Rattle.numbers.proofs.Reading.{number_sum}
use Rattle.numbers.proofs.Storing.{replaced_none, replaced_as, replaced_more}
use Rattle.turning.specs.declared.Part.{Part}
use Rattle.turning.specs.Quarters.{HoldsAll}
use Rattle.turning.specs.Turning.{turned, part_bits}

module _ (b : List ℕ) (f a j : ℕ) {low high : ℕ}
    (p : Holds low (λ t. bit b (8 * (f + 8 * ((64 * j + a) / 64 % 4)) + t)))
    (q : Holds high (λ t. bit b (8 * (f + 8 * (((64 * j + a) / 64 + 1) % 4)) + t))) where
  -- a bit of the part is one of the bytes from f on
  at_part : {n : ℕ} (t : ℕ) → n ≡ 8 * f + t → bit b n ≡ bit (drop f b) t
  at_part t e = ap (bit b) e ∙ sym (bit_drop b f t)

  pub quarter_turned : {x : ℕ} → Holds x (λ k. run 64 (digit low) (digit high) (k + (64 * j + a) % 64))
      → Holds x (λ k. turned part_bits (drop f b) a (64 * j + k))
  quarter_turned w = record {
    each = λ k h.
        let n = k + (64 * j + a) % 64 in
        w.each k h
        ∙ run_each 64 (digit low) (digit high) n (λ v. v ≡ turned part_bits (drop f b) a (64 * j + k))
        (λ l. p.each n l ∙ at_part _ (omega arith))
        (λ l. q.each (n - 64) (omega arith) ∙ at_part _ (omega arith));
  }

-- a quarter of sums, with one of a part added
quarter_sum : (s : List ℕ) (a b c : ℕ) (g : ℕ → ℕ) {x y : ℕ} → 8 * c ≡ 8 * a + b → Holds x (λ k. bit s (8 * c + k))
    → Holds y (λ k. g (b + k)) → Holds (bit_xor x y) (λ k. (bit s (8 * a + (b + k)) + g (b + k)) % 2)
quarter_sum s a b c g e p q =
    number_sum record { each = λ k h. p.each k h ∙ ap (bit s) (omega arith) } q

-- one more quarter stored
quarter_stored : {s t u : List ℕ} {a b : ℕ} {f : ℕ → ℕ} {x : ℕ} → Replaced s t a b f → (c : ℕ)
    → Replaced t u c 64 (digit x)
    → 8 * c ≡ 8 * a + b → Holds x (λ k. f (b + k)) → Replaced s u a (b + 64) f
quarter_stored p c q e h = replaced_more p c 64 (replaced_as h.each q) e (λ k. refl)

module _ (s : List ℕ) (a : ℕ) (g : ℕ → ℕ) {x₀ x₁ x₂ x₃ y₀ y₁ y₂ y₃ : ℕ} where
  pub part_summed : Holds x₀ (λ k. bit s (8 * a + k)) → Holds y₀ (λ k. g (0 + k))
      → Holds x₁ (λ k. bit s (8 * (a + 8) + k)) → Holds y₁ (λ k. g (64 + k))
      → Holds x₂ (λ k. bit s (8 * (a + 16) + k)) → Holds y₂ (λ k. g (128 + k))
      → Holds x₃ (λ k. bit s (8 * (a + 24) + k)) → Holds y₃ (λ k. g (192 + k))
      → HoldsAll record { first = bit_xor x₀ y₀; second = bit_xor x₁ y₁; third = bit_xor x₂ y₂; fourth = bit_xor x₃ y₃ }
      (λ n. (bit s (8 * a + n) + g n) % 2)
  part_summed p₀ q₀ p₁ q₁ p₂ q₂ p₃ q₃ = record {
    first = quarter_sum s a 0 a g (omega arith) p₀ q₀;
    second = quarter_sum s a 64 (a + 8) g (omega arith) p₁ q₁;
    third = quarter_sum s a 128 (a + 16) g (omega arith) p₂ q₂;
    fourth = quarter_sum s a 192 (a + 24) g (omega arith) p₃ q₃;
  }

module _ {s t u v w : List ℕ} (a : ℕ) (q : Part) where
  pub part_stored : Replaced s t a 64 (digit q.first) → Replaced t u (a + 8) 64 (digit q.second)
      → Replaced u v (a + 16) 64 (digit q.third) → Replaced v w (a + 24) 64 (digit q.fourth)
      → (f : ℕ → ℕ) → HoldsAll q f → Replaced s w a part_bits f
  part_stored r₀ r₁ r₂ r₃ f h =
      quarter_stored
      (quarter_stored
      (quarter_stored
      (quarter_stored (replaced_none s a f) a r₀ (omega arith) h.first) (a + 8) r₁ (omega arith) h.second)
      (a + 16) r₂
      (omega arith) h.third) (a + 24) r₃ (omega arith) h.fourth
