-- Laws of `total n f`, the sum f 0 + .. + f (n - 1).
--
--   total_same     equal terms give equal sums
--   total_none     terms that are all 0 add up to 0
--   total_below    terms that are each below 2 add up to no more than their number
--   total_part     no term is above the sum
--   total_add      the sum of two sums, term by term
--   total_mod      a sum mod 2 needs its terms mod 2 only
--   total_one      where one term alone is not 0, the sum is that term
--   total_from     a sum of m + n terms: the first m, and the n after them
--   total_blocks   a sum of z * m terms is a sum of m sums of z terms
--   total_more     one term more
use mathlib.Core.Path.{◌≡◌, refl, ap, ap₂, ◌∙◌}
use Prim.Native.Nat.{ℕ, zero, suc, ◌+◌, ◌*◌, ◌%◌, ◌≤◌, ◌<◌, zero-le}
use native.Mathlib.Nat.{not-suc-le-zero, add-suc, add-zero, mul-suc, mul-zero}
use native.Mathlib.Numerals.{add-one}
use native.Mathlib.Decide.{ℕ_discrete}
use native.Mathlib.Omega.{arith}
use Rattle.rules.specs.Matrix.{total}

pub total_same : (n : ℕ) (f g : ℕ → ℕ) → ((p : ℕ) → p < n → f p ≡ g p) → total n f ≡ total n g
unfolding total
total_same zero f g h = refl
total_same (suc n) f g h = ap₂ ◌+◌ (total_same n f g (λ p l. h p (omega arith))) (h n (omega arith))

pub total_none : (n : ℕ) (f : ℕ → ℕ) → ((p : ℕ) → p < n → f p ≡ 0) → total n f ≡ 0
unfolding total
total_none zero f h = refl
total_none (suc n) f h = omega (arith, total_none n f (λ p l. h p (omega arith)), h n (omega arith))

pub total_below : (n : ℕ) (f : ℕ → ℕ) → ((p : ℕ) → f p < 2) → total n f ≤ n
unfolding total
total_below zero f h = zero-le
total_below (suc n) f h = omega (arith, total_below n f h, h n)

pub total_part : (n : ℕ) (f : ℕ → ℕ) (k : ℕ) → k < n → f k ≤ total n f
unfolding total
total_part zero f k l = absurd (not-suc-le-zero l)
total_part (suc n) f k l = elim (ℕ_discrete n k) [
  | yes e ↦ omega (arith, ap f e)
  | no d ↦ omega (arith, total_part n f k (omega arith))
]

pub total_add : (n : ℕ) (f g : ℕ → ℕ) → total n (λ p. f p + g p) ≡ total n f + total n g
unfolding total
total_add zero f g = refl
total_add (suc n) f g = omega (arith, total_add n f g)

pub total_mod : (n : ℕ) (f : ℕ → ℕ) → total n (λ p. f p % 2) % 2 ≡ total n f % 2
unfolding total
total_mod zero f = refl
total_mod (suc n) f = omega (arith, total_mod n f)

pub total_one : (n : ℕ) (f : ℕ → ℕ) (k : ℕ) → k < n → ((p : ℕ) → p < n → (p ≡ k → ⊥) → f p ≡ 0) → total n f ≡ f k
unfolding total
total_one zero f k l h = absurd (not-suc-le-zero l)
total_one (suc n) f k l h = elim (ℕ_discrete n k) [
  | yes e ↦ omega (arith, total_none n f (λ p q. h p (omega arith) (λ d. omega arith)), ap f e)
  | no d ↦ omega (arith, total_one n f k (omega arith) (λ p q. h p (omega arith)), h n (omega arith) d)
]

pub total_from : (m n : ℕ) (f : ℕ → ℕ) → total (m + n) f ≡ total m f + total n (λ p. f (m + p))
unfolding total
total_from m zero f = rw (add-zero m) (omega arith)
total_from m (suc n) f = rw (add-suc m n) (omega (arith, total_from m n f))

pub total_blocks : (z m : ℕ) (f : ℕ → ℕ) → total (z * m) f ≡ total m (λ j. total z (λ t. f (z * j + t)))
unfolding total
total_blocks z zero f = rw (mul-zero z)
total_blocks z (suc m) f =
    rw (mul-suc z m)
    (total_from (z * m) z f ∙ ap (λ (n : ℕ). n + total z (λ t. f (z * m + t))) (total_blocks z m f))

pub total_more : (f : ℕ → ℕ) (n s : ℕ) → s ≡ total n f → s + f n ≡ total (n + 1) f
unfolding total
total_more f n s e = rw (add-one n) (ap (λ (t : ℕ). t + f n) e)
