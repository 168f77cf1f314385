-- Laws of numbers read from bytes.
--
--   number_part     eight bytes joined to a number
--   padded          fewer bytes, with zero bytes after them
--   number_sum      the exclusive or of two numbers
--   number_across   the 64 bits from t on of two numbers
--   number_inside   the 64 bits from a place inside a byte on: those of eight bytes, and of a ninth
--   number_moved    bytes up to the end of s, from a place inside the first byte on: past the end every bit is 0
use mathlib.Core.Path.{◌≡◌, refl, sym, ap, ◌∙◌}
use mathlib.Core.List.{List, ◌++◌}
use Prim.Native.Nat.{ℕ, zero, suc, ◌+◌, ◌-◌, ◌*◌, ◌/◌, ◌%◌, ◌^◌, ◌≤◌, ◌<◌}
use native.Mathlib.Decide.{dec_lt}
use native.Mathlib.Nat.{pow-suc, mul-suc, zero-add, mul-le-mul_left}
use native.Mathlib.Omega.{arith}
use lib.Bits.{bit_or, bit_xor}
use lib.Pow.{pow-add}
use lib.ListN.{length, get_or, drop, replicate, get_or-append, get_or-eq_default}
use lib.Seq.{get_or-drop, get_or-append-add}
use Rattle.std.specs.Int.{w64, from_le_bytes, sum_through, byte_worth}
use Rattle.std.proofs.lemmas.Nat.Bits.{bit_at_cat_low, bit_at_cat_high}
use Rattle.rules.specs.Bits.{Bytes, bit, run, sum}
use Rattle.rules.specs.Words.{digit}
use Rattle.laws.proofs.Bits.{bit_past, byte_zeros, bit_drop, bit_digit, bit_xor_law}
use Rattle.laws.proofs.Numbers.{digit_high, digit_right, digit_across}
use Rattle.laws.proofs.Runs.{run_each}
use Rattle.numbers.specs.Numbers.{Holds}

-- 256 to the power n is 2 to the power 8 n
pub powers : (n : ℕ) → 256 ^ n ≡ 2 ^ (8 * n)
powers zero = refl
powers (suc n) =
    let e : 8 * suc n ≡ 8 * n + 8 = omega arith in
    rw (e, pow-add, pow-suc) (ap (λ (v : ℕ). v * 256) (powers n))

-- the first n + 1 bytes of s, joined to a number
module _ (s : List ℕ) (fits : Bytes s) where
  abbrev first : ℕ → ℕ
  first n = sum_through (λ i. byte_worth i (get_or s i 0)) n

  next : (n : ℕ) → first (suc n) ≡ get_or s (suc n) 0 * 2 ^ (8 * suc n) + first n
  next n = rw (← powers (suc n)) (omega arith)

  first_below : (n : ℕ) → first n < 2 ^ (8 * suc n)
  first_below zero = fits 0
  first_below (suc n) =
      let p = 2 ^ (8 * suc n) in
      let e : 8 * suc (suc n) ≡ 8 * suc n + 8 = omega arith in
      rw (next n, e, pow-add)
      (omega (arith, first_below n, mul-le-mul_left p (fits (suc n)), mul-suc p (get_or s (suc n) 0)))

  first_digits : (n k : ℕ) → k < 8 * suc n → digit (first n) k ≡ bit s k
  first_digits zero k h = sym (bit_digit s 0 k h) ∙ ap (bit s) (zero-add k)
  first_digits (suc n) k h = elim (dec_lt k (8 * suc n)) [
    | yes l ↦ rw next (bit_at_cat_low (get_or s (suc n) 0) (8 * suc n) (first n) k l) ∙ first_digits n k l
    | no l ↦
        let e : 8 * suc n + (k - 8 * suc n) ≡ k = omega arith in
        rw next (bit_at_cat_high (get_or s (suc n) 0) (8 * suc n) (first n) k (first_below n) (omega arith))
        ∙ sym (bit_digit s (suc n) (k - 8 * suc n) (omega arith))
        ∙ ap (bit s) e
  ]

alike : (f g : ℕ → ℕ) (n : ℕ) → ((i : ℕ) → i < suc n → f i ≡ g i) → sum_through f n ≡ sum_through g n
alike f g zero same = same 0 (omega arith)
alike f g (suc n) same = rw (alike f g n (λ i h. same i (omega arith)), same (suc n) (omega arith)) refl

pub number_part : {x : ℕ} (s p : List ℕ) (a : ℕ) → Bytes s → x ≡ from_le_bytes w64 p
    → ((i : ℕ) → i < 8 → get_or p i 0 ≡ get_or (drop a s) i 0) → Holds x (λ k. bit s (8 * a + k))
number_part s p a fits e same =
    let all = e ∙ alike (λ i. byte_worth i (get_or p i 0)) (λ i. byte_worth i (get_or (drop a s) i 0)) 7
    (λ i h. ap (byte_worth i) (same i h)) in
    record {
      each = λ k h. rw all (first_digits (drop a s) (λ i. rw get_or-drop (fits (a + i))) 7 k h) ∙ bit_drop s a k;
    }

-- where there are fewer than eight, zero bytes follow
pub padded : (p : List ℕ) (n i : ℕ) → length p ≡ n → get_or (p ++ drop n (replicate 8 0)) i 0 ≡ get_or p i 0
padded p n i long = elim (dec_lt i (length p)) [
  | yes h ↦ get_or-append p _ 0 i h
  | no h ↦
      let j = i - length p in
      let e : i ≡ length p + j = omega arith in
      rw e
      (get_or-append-add p _ j 0
      ∙ get_or-drop n _ j 0
      ∙ byte_zeros 8 (n + j)
      ∙ sym (get_or-eq_default p 0 (omega arith)))
]

pub number_sum : {x y : ℕ} {f g : ℕ → ℕ} → Holds x f → Holds y g → Holds (bit_xor x y) (sum f g)
number_sum {x} {y} p q = record { each = λ k h. bit_xor_law x y k ∙ rw (p.each k h, q.each k h) }

pub number_across : (low high t : ℕ) → low < 2 ^ 64 → t < 64
    → Holds (bit_or (low / 2 ^ t) ((high * 2 ^ 1) % 2 ^ 64 * 2 ^ (63 - t) % 2 ^ 64))
    (λ k. run 64 (digit low) (digit high) (k + t))
number_across low high t small less = record { each = digit_across 64 low high t small less }

module _ (s : List ℕ) (i w : ℕ) {low high x : ℕ} where
  pub number_inside : w < 8 → Holds low (λ k. bit s (8 * i + k)) → high ≡ get_or s (i + (w + 63) / 8) 0
      → Holds x (λ k. run 64 (digit low) (digit high) (k + w)) → Holds x (λ k. bit s (8 * i + w + k))
  number_inside less p e q = record {
    each = λ k h.
        q.each k h
        ∙ run_each 64 (digit low) (digit high) (k + w) (λ v. v ≡ bit s (8 * i + w + k))
        (λ l. p.each (k + w) l ∙ ap (bit s) (omega arith))
        (λ l. ninth k (omega arith) l);
  }
    where
      ninth : (k : ℕ) → k < 64 → 64 ≤ k + w → digit high (k + w - 64) ≡ bit s (8 * i + w + k)
      ninth k h l =
          let last : i + (w + 63) / 8 ≡ i + 8 = omega arith in
          ap (λ (v : ℕ). digit v (k + w - 64)) (e ∙ ap (λ (j : ℕ). get_or s j 0) last)
          ∙ sym (bit_digit s (i + 8) (k + w - 64) (omega arith))
          ∙ ap (bit s) (omega arith)

module _ (s : List ℕ) (i : ℕ) {x : ℕ} where
  pub number_moved : (w : ℕ) → x < 2 ^ 64 → length s ≤ i + 8 → Holds x (λ k. bit s (8 * i + k))
      → Holds (x / 2 ^ w) (λ k. bit s (8 * i + w + k))
  number_moved w small l p = record {
    each = λ k h. digit_right x w k ∙ elim (dec_lt (k + w) 64) [
      | yes m ↦ p.each (k + w) m ∙ ap (bit s) (omega arith)
      | no m ↦ digit_high x 64 (k + w) small (omega arith) ∙ sym (bit_past s (8 * i + w + k) (omega arith))
    ];
  }
