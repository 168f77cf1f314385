-- Laws of the bits of a number, over any width.
--
--   digit<          a digit is below 2
--   digit_high      a number below 2 to the power n has no digit from n on
--   digit_right     a shift to the right by s: digit k is the one at k + s
--   digit_left      a shift to the left by s, of which n digits are kept: s zeros, then the digits
--   digit_left_2    two shifts to the left are one by their sum
--   digit_low       a number's n lowest digits are kept by mod 2 to the power n
--   digit_kept      the n lowest digits, and no other
--   digit_joined    a number of b bits, and m bits that another has at the places from b on, joined by an or
--   digit_across    the n digits from t on of two numbers of n digits, one after the other; the second moves by 1, then
--                   by n - 1 - t
--   ones_digits     the ones of a number of n bits are its n digits added up
--   trailing_clear  the digits below the lowest 1 of a number's n lowest are 0
--   trailing_set    and that one is 1, if it is there
use mathlib.Core.Path.{◌≡◌, sym, ap, ◌∙◌}
use Prim.Native.Nat.{ℕ, zero, suc, ◌+◌, ◌-◌, ◌*◌, ◌/◌, ◌%◌, ◌^◌, ◌≤◌, ◌<◌}
use native.Mathlib.Decide.{dec_lt}
use native.Mathlib.Nat.{mod-lt, div-one, div-eq_of_lt, mul_assoc, not-suc-le-zero, le_of_suc-le-suc}
use native.Mathlib.Numerals.{add-one}
use native.Mathlib.Omega.{arith}
use lib.Bits.{bit_or}
use lib.Count.{ones, under, count_trailing_zeros, ones_step, ones-le}
use lib.Dec.{lit<}
use lib.Pow.{pow_pos, pow-add, pow_mono, shr_lt, shr-shr, shl-shr, field, mod-mod-pow}
use Rattle.rules.specs.Bits.{zeros, run, placed}
use Rattle.rules.specs.Matrix.{total}
use Rattle.rules.specs.Words.{digit}
use Rattle.rules.proofs.Sums.{total_same, total_from}
use Rattle.laws.proofs.Bits.{bit_or_law}
use Rattle.laws.proofs.Runs.{run_low, run_high, run_each, run_below, run_run, run_join, placed_below, placed_in}

pub digit< : (x k : ℕ) → digit x k < 2
digit< x k = mod-lt _ (lit< tt)

pub digit_right : (x s k : ℕ) → digit (x / 2 ^ s) k ≡ digit x (k + s)
digit_right x s k = let e : s + k ≡ k + s = omega arith in rw (shr-shr, e)

pub digit_high : (x n k : ℕ) → x < 2 ^ n → n ≤ k → digit x k ≡ 0
digit_high x n k h l = let e : x / 2 ^ k ≡ 0 = div-eq_of_lt (omega (arith, pow_mono l)) in rw e

pub digit_low : (x n k : ℕ) → k < n → digit (x % 2 ^ n) k ≡ digit x k
digit_low x n k h =
    let e : n ≡ (n - k - 1 + 1) + k = omega arith in
    rw (e, field x (n - k - 1 + 1) k) (mod-mod-pow (x / 2 ^ k) (n - k - 1) 1)

pub digit_kept : (x n k : ℕ) → digit (x % 2 ^ n) k ≡ run n (digit x) zeros k
digit_kept x n k =
    run_each n (digit x) zeros k (λ v. digit (x % 2 ^ n) k ≡ v) (digit_low x n k)
    (digit_high (x % 2 ^ n) n k (mod-lt x (pow_pos n)))

shifted_twice : (x i j : ℕ) → x * 2 ^ (i + j) ≡ x * 2 ^ i * 2 ^ j
shifted_twice x i j = rw pow-add (sym (mul_assoc x (2 ^ i) (2 ^ j)))

-- the digits of a shift to the left, all of them
digit_moved : (x s k : ℕ) → digit (x * 2 ^ s) k ≡ run s zeros (digit x) k
digit_moved x s k = elim (dec_lt k s) [
  | yes h ↦
      let e : s ≡ (s - k - 1 + 1) + k = omega arith in
      let moved : x * 2 ^ s / 2 ^ k ≡ x * 2 ^ (s - k - 1) * 2 ^ 1 =
      ap (λ (n : ℕ). x * 2 ^ n / 2 ^ k) e
      ∙ ap (λ (n : ℕ). n / 2 ^ k) (shifted_twice x (s - k - 1 + 1) k)
      ∙ shl-shr (x * 2 ^ (s - k - 1 + 1)) k
      ∙ shifted_twice x (s - k - 1) 1 in
      rw (moved, run_low s zeros (digit x) k h) (omega arith)
  | no h ↦
      let e : k ≡ s + (k - s) = omega arith in
      let moved : x * 2 ^ s / 2 ^ k ≡ x / 2 ^ (k - s) =
      ap (λ (n : ℕ). x * 2 ^ s / 2 ^ n) e
      ∙ sym (shr-shr (x * 2 ^ s) s (k - s))
      ∙ ap (λ (n : ℕ). n / 2 ^ (k - s)) (shl-shr x s) in
      rw (moved, run_high s zeros (digit x) k (omega arith))
]

pub digit_left : (x s n k : ℕ) → k < n → digit ((x * 2 ^ s) % 2 ^ n) k ≡ run s zeros (digit x) k
digit_left x s n k h = digit_low (x * 2 ^ s) n k h ∙ digit_moved x s k

pub digit_left_2 : (x s r n k : ℕ) → k < n
    → digit ((x * 2 ^ s) % 2 ^ n * 2 ^ r % 2 ^ n) k ≡ run (r + s) zeros (digit x) k
digit_left_2 x s r n k h =
    digit_left ((x * 2 ^ s) % 2 ^ n) r n k h
    ∙ run_each r zeros (digit ((x * 2 ^ s) % 2 ^ n)) k (λ v. v ≡ run (r + s) zeros (digit x) k)
    (λ l. sym (run_low (r + s) zeros (digit x) k (omega arith)))
    (λ l.
    digit_left x s n (k - r) (omega arith)
    ∙ sym (run_high r zeros (run s zeros (digit x)) k l)
    ∙ run_run r s (digit x) k)

module _ (x y b m : ℕ) (f : ℕ → ℕ) (bits : (k : ℕ) → f k < 2) where
  pub digit_joined : (k : ℕ) → digit x k ≡ run b f zeros k → digit y k ≡ placed b m (λ t. f (b + t)) k
      → digit (bit_or x y) k ≡ run (b + m) f zeros k
  digit_joined k p q =
      bit_or_law x y k
      ∙ rw (p, q, run_join b m f k)
      (omega (arith, run_join b m f k, run_below (b + m) f zeros (λ n h. bits n) (λ n. lit< tt) k))

module _ (n low high t : ℕ) (small : low < 2 ^ n) (less : t < n) where
  both : ℕ → ℕ
  both k = run n (digit low) (digit high) (k + t)

  first : (k : ℕ) → digit (low / 2 ^ t) k ≡ run (n - t) both zeros k
  unfolding both
  first k =
      digit_right low t k
      ∙ run_each (n - t) both zeros k (λ v. digit low (k + t) ≡ v)
      (λ l. sym (run_low n (digit low) (digit high) (k + t) (omega arith)))
      (λ l. digit_high low n (k + t) small (omega arith))

  second : (k : ℕ) → k < n
      → digit ((high * 2 ^ 1) % 2 ^ n * 2 ^ (n - 1 - t) % 2 ^ n) k ≡ placed (n - t) t (λ i. both (n - t + i)) k
  unfolding both
  second k h =
      let e : n - 1 - t + 1 ≡ n - t = omega arith in
      digit_left_2 high 1 (n - 1 - t) n k h
      ∙ rw e
      (run_each (n - t) zeros (digit high) k (λ v. v ≡ placed (n - t) t (λ i. both (n - t + i)) k)
      (λ l. sym (placed_below (n - t) t _ k l))
      (λ l.
      sym
      (placed_in (n - t) t (λ i. both (n - t + i)) k l (omega arith)
      ∙ run_high n (digit low) (digit high) (n - t + (k - (n - t)) + t) (omega arith)
      ∙ ap (digit high) (omega arith))))

  bits : (k : ℕ) → both k < 2
  unfolding both
  bits k = run_below n (digit low) (digit high) (λ i l. digit< low i) (digit< high) (k + t)

  pub digit_across : (k : ℕ) → k < n
      → digit (bit_or (low / 2 ^ t) ((high * 2 ^ 1) % 2 ^ n * 2 ^ (n - 1 - t) % 2 ^ n)) k ≡ run n (digit low)
      (digit high) (k + t)
  unfolding both
  digit_across k h =
      digit_joined _ _ (n - t) t both bits k (first k) (second k h) ∙ run_low (n - t + t) both zeros k (omega arith)

halves : (x k : ℕ) → digit (x / 2) k ≡ digit x (suc k)
halves x k = let e : k + 1 ≡ suc k = omega arith in digit_right x 1 k ∙ ap (digit x) e

first_digit : (x : ℕ) → x % 2 ≡ digit x 0
first_digit x = rw div-one

pub ones_digits : (n x : ℕ) → x < 2 ^ n → ones x ≡ total n (digit x)
unfolding total
ones_digits zero x h = omega (arith, ones-le 0 x h)
ones_digits (suc n) x h =
    let one : suc n ≡ 1 + n = omega arith in
    let half : x / 2 < 2 ^ n = shr_lt n 1 (rw add-one h) in
    let above : (k : ℕ) → digit (x / 2) k ≡ digit x (1 + k) =
    λ k. let e : suc k ≡ 1 + k = omega arith in halves x k ∙ ap (digit x) e in
    ones_step x
    ∙ ap (λ (v : ℕ). x % 2 + v)
    (ones_digits n (x / 2) half ∙ total_same n (digit (x / 2)) (λ k. digit x (1 + k)) (λ k l. above k))
    ∙ sym (ap (λ (m : ℕ). total m (digit x)) one ∙ total_from 1 n (digit x) ∙ omega (arith, first_digit x))

-- the lowest digit of a number tells whether it is the lowest 1
under_clear : (d t k : ℕ) (x : ℕ → ℕ) → d ≡ x 0 → ((i : ℕ) → i < t → x (suc i) ≡ 0) → k < under d t → x k ≡ 0
under_clear zero t zero x e h l = sym e
under_clear zero t (suc k) x e h l = h k (le_of_suc-le-suc l)
under_clear (suc d) t k x e h l = absurd (not-suc-le-zero l)

under_set : (d t n : ℕ) (x : ℕ → ℕ) → d ≡ x 0 → d < 2 → (t < n → x (suc t) ≡ 1) → under d t < suc n → x (under d t) ≡ 1
under_set zero t n x e b h l = h (le_of_suc-le-suc l)
under_set (suc d) t n x e b h l = omega arith

pub trailing_clear : (n x k : ℕ) → k < count_trailing_zeros n x → digit x k ≡ 0
unfolding count_trailing_zeros
trailing_clear zero x k h = absurd (not-suc-le-zero h)
trailing_clear (suc n) x k h =
    under_clear (x % 2) (count_trailing_zeros n (x / 2)) k (digit x) (first_digit x)
    (λ i l. sym (halves x i) ∙ trailing_clear n (x / 2) i l) h

pub trailing_set : (n x : ℕ) → count_trailing_zeros n x < n → digit x (count_trailing_zeros n x) ≡ 1
unfolding count_trailing_zeros
trailing_set zero x h = absurd (not-suc-le-zero h)
trailing_set (suc n) x h =
    under_set (x % 2) (count_trailing_zeros n (x / 2)) n (digit x) (first_digit x) (mod-lt x (lit< tt))
    (λ l. sym (halves x (count_trailing_zeros n (x / 2))) ∙ trailing_set n (x / 2) l) h
