-- Laws of numbers in decimal digits.
--
--   few_digits         no number below 2^64 has more than 20 digits
--   digits_decimal     the fewest digits that hold a number are the ones its text has
use mathlib.Core.Path.{◌≡◌, refl, ap}
use mathlib.Core.Bool.{true, false}
use mathlib.Core.List.{[], ◌∷◌, ◌++◌}
use Prim.Native.Nat.{ℕ, zero, suc, ◌+◌, ◌/◌, ◌%◌, ◌^◌, ◌≤◌, ◌<◌}
use native.Mathlib.Numerals.{unary_clauses}
use native.Mathlib.Nat.{pow-suc, one-le-pow, pow-le-pow_right}
use native.Mathlib.Decide.{dec_lt}
use native.Mathlib.Omega.{arith}
use borrow.Author.Tests.{lt-ltb, le-ltb}
use lib.Dec.{ltb}
use Rattle.io.specs.Digits.{last_digits, hex_digit_ascii, IsDigitCount}
use Rattle.lines.specs.Texts.{digits_of}

-- a digit below 10
digit : (n : ℕ) → hex_digit_ascii (n % 10) ≡ 48 + n % 10
digit n = let e : ltb (n % 10) 10 ≡ true = lt-ltb (n % 10) 10 (omega arith) in rw e refl

-- what more than one digit say of the number
low : (k n : ℕ) → IsDigitCount 10 1 n (suc (suc k)) → 10 ^ suc k ≤ n
low k n f = rw pow-suc (simp unary_clauses at (f.2 (omega arith)))

-- the fewest digits of a tenth are one less
tenth : (k n : ℕ) → IsDigitCount 10 1 n (suc (suc k)) → IsDigitCount 10 1 (n / 10) (suc k)
tenth k n f =
    let more : 10 ^ k ≤ n / 10 = omega (arith, low k n f, pow-suc 10 k) in
    (omega arith, omega (arith, f.1, pow-suc 10 (suc k)), λ h. simp unary_clauses more)

pub few_digits : (k n : ℕ) → n < 2 ^ 64 → IsDigitCount 10 1 n k → k ≤ 20
few_digits zero n l f = omega arith
few_digits (suc zero) n l f = omega arith
few_digits (suc (suc k)) n l f = elim (dec_lt 20 (suc (suc k))) [
  | yes h ↦
      let some : 0 < 10 = omega arith in
      let least : 20 ≤ suc k = omega arith in
      let more : 10 ^ 20 ≤ 10 ^ suc k = pow-le-pow_right some least in
      absurd (omega (arith, low k n f))
  | no h ↦ omega (arith, h)
]

pub digits_decimal : (most k n : ℕ) → IsDigitCount 10 1 n k → k ≤ most → last_digits 10 k n ≡ digits_of most n
unfolding digits_of
digits_decimal zero k n f h = absurd (omega (arith, f.0))
digits_decimal (suc most) zero n f h = absurd (omega (arith, f.0))
digits_decimal (suc most) (suc zero) n f h =
    let e : ltb n 10 ≡ true = lt-ltb n 10 (omega (arith, f.1)) in
    rw (e, digit n) refl
digits_decimal (suc most) (suc (suc k)) n f h =
    let e : ltb n 10 ≡ false = le-ltb n 10 (omega (arith, low k n f, pow-suc 10 k, one-le-pow k 10 (omega arith))) in
    let rest : last_digits 10 (suc k) (n / 10) ≡ digits_of most (n / 10) =
    digits_decimal most (suc k) (n / 10) (tenth k n f) (omega arith) in
    rw (e, digit n) (ap (λ front. front ++ (48 + n % 10) ∷ []) rest)
