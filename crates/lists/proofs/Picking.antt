-- Laws of bits that are picked by a list, and of a mask.
--
--   bit_more       one bit more of a number
--   kept_byte      a byte of a mask that is joined by an and
--   shortened      the first 1 of the shortened places, picked into inner order and kept where w is 1
use mathlib.Core.Path.{◌≡◌, refl, ap, ◌∙◌}
use mathlib.Core.List.{List}
use Prim.Native.Nat.{ℕ, min, ◌+◌, ◌-◌, ◌*◌, ◌%◌, ◌^◌, ◌≤◌, ◌<◌}
use native.Mathlib.Decide.{dec_lt}
use native.Mathlib.Nat.{div-one}
use native.Mathlib.Omega.{arith}
use lib.Bits.{bit_and, bit_or}
use lib.ListN.{length, get_or, replicate, length-replicate}
use Rattle.rules.specs.Bits.{bit, zeros, run, placed, Adds}
use Rattle.rules.specs.Lists.{entry_of}
use Rattle.rules.specs.Words.{digit}
use Rattle.laws.proofs.Bits.{bit<, bit_and_law, bit_digit, bit_ones}
use Rattle.laws.proofs.Numbers.{digit_high, digit_left, digit_joined}
use Rattle.laws.proofs.Runs.{run_same, run_each, placed_in, placed_above}
use Rattle.bits.specs.Searches.{FirstSet}
use Rattle.lists.specs.Picked.{Names, Picked, Kept, FirstShortened}

digit_first : (b : ℕ) → b < 2 → digit b 0 ≡ b
digit_first b h = rw div-one (omega arith)

-- a number of k bits, and one bit b more
module _ (f : ℕ → ℕ) (bits : (t : ℕ) → f t < 2) (x b k : ℕ) (small : b < 2) where
  above : (t : ℕ) → b ≡ f k → t < 8 → digit (b * 2 ^ k % 2 ^ 8) t ≡ placed k 1 (λ i. f (k + i)) t
  above t e h =
      digit_left b k 8 t h
      ∙ run_same k zeros (digit b) zeros (run 1 (λ i. f (k + i)) zeros) (λ n l. refl)
      (λ n. run_each 1 (λ i. f (k + i)) zeros n (λ v. digit b n ≡ v)
      (λ l. let first : n ≡ 0 = omega arith in
      rw first (digit_first b small ∙ e ∙ ap f (omega arith)))
      (λ l. digit_high b 1 n small l)) t

  pub bit_more : b ≡ f k → ((t : ℕ) → t < 8 → digit x t ≡ run k f zeros t)
      → (t : ℕ) → t < 8 → digit (bit_or x (b * 2 ^ k % 2 ^ 8)) t ≡ run (k + 1) f zeros t
  bit_more e before t h = digit_joined x _ k 1 f bits t (before t h) (above t e h)

-- x is byte i of s as it was
pub kept_byte : (s w : List ℕ) (i x : ℕ) → x ≡ get_or s i 0 → (t : ℕ) → t < 8
    → digit (bit_and x (get_or w i 0)) t ≡ min (bit s (8 * i + t)) (bit w (8 * i + t))
kept_byte s w i x e t h =
    rw (bit_digit s i t h, bit_digit w i t h, e) (bit_and_law (get_or s i 0) (get_or w i 0) t)

-- bytes of ones: o are those with the first K bits cleared, p is picked from o by a, and q is what is kept of p in w
module _ (b K : ℕ) {a w o p q : List ℕ} (names : Names a (8 * b) (8 * b))
    (clears : Adds (replicate b 255) o (placed 0 K (λ t. bit (replicate b 255) (0 + t))))
    (picked : Picked a o (replicate b 255) p)
    (kept : Kept w p q) where
  long : length (replicate {A = ℕ} b 255) ≡ b
  long = length-replicate {A = ℕ} b 255

  cleared : (n : ℕ) → n < 8 * b → n < K → bit o n ≡ 0
  cleared n h l =
      let one = bit_ones b (0 + (n - 0)) (omega arith) in
      clears.each n
      ∙ rw (placed_in 0 K (λ t. bit (replicate b 255) (0 + t)) n (omega arith) (omega arith), one, bit_ones b n h)

  left : (n : ℕ) → n < 8 * b → K ≤ n → bit o n ≡ 1
  left n h l =
      clears.each n
      ∙ rw (placed_above 0 K (λ t. bit (replicate b 255) (0 + t)) n (omega arith), bit_ones b n h)

  both : (t : ℕ) → t < 8 * b → bit q t ≡ min (bit o (entry_of a t)) (bit w t)
  both t h =
      kept.each t (omega (arith, picked.length_same, long))
      ∙ rw (picked.each t (omega (arith, long)))

  from : (t : ℕ) → t < 8 * b → bit q t ≡ 1 → K ≤ entry_of a t
  from t h e = elim (dec_lt (entry_of a t) K) [
    | yes l ↦ absurd (omega (arith, both t h, cleared (entry_of a t) (names.below t h) l))
    | no l ↦ omega arith
  ]

  pub shortened : {r : ℕ} → FirstSet q 0 (8 * b) r → FirstShortened (8 * b) K a w r
  shortened {r} f = record {
    high = f.high;
    clear = λ t h k.
        let i : t < 8 * b = omega (arith, f.high) in
        omega (arith, f.clear t (omega arith) h, both t i, left (entry_of a t) (names.below t i) k);
    set = λ h. (from r h (f.set h), omega (arith, f.set h, both r h, bit< w r));
  }
