-- Laws of going round a block of z, that is, of remainders by z.
--
--   around_swap      two turns, the one or the other first
--   around_cancel    what is added to both of two numbers can be left out
--   around_meet      where s + x and t + y come to the same, and s + u and t + v too, x and y are as far apart as u
--                    and v
--   around_back      there is a row from which x further on is column t
use mathlib.Core.Path.{◌≡◌, sym, ap, ap₂, ◌∙◌}
use Prim.Native.Nat.{ℕ, suc, ◌+◌, ◌-◌, ◌*◌, ◌%◌, ◌<◌}
use native.Mathlib.Nat.{add-mod, mod-add-mod, mod-lt, mod-eq_of_lt, mul-suc, add-mul-mod_self_right}
use native.Mathlib.Omega.{arith}

pub around_swap : (z r x y : ℕ) → ((r + x) % z + y) % z ≡ ((r + y) % z + x) % z
around_swap z r x y = mod-add-mod (r + x) z y ∙ ap (λ (n : ℕ). n % z) (omega arith) ∙ sym (mod-add-mod (r + y) z x)

module _ (z : ℕ) (some : 0 < z) where
  -- k and z - 1 times k are z times k, which goes round and ends where it began
  whole : (a k : ℕ) → (a + k + k * (z - 1)) % z ≡ a % z
  whole a k = ap (λ (n : ℕ). n % z) (omega (arith, rounds)) ∙ add-mul-mod_self_right a k z
    where
      rounds : k * z ≡ k * (z - 1) + k
      rounds = let e : z ≡ suc (z - 1) = omega arith in ap (λ (n : ℕ). k * n) e ∙ mul-suc k (z - 1)

  pub around_cancel : (a b k : ℕ) → (a + k) % z ≡ (b + k) % z → a % z ≡ b % z
  around_cancel a b k e = sym (back a) ∙ ap (λ (n : ℕ). (n + k * (z - 1)) % z) e ∙ back b
    where
      back : (a : ℕ) → ((a + k) % z + k * (z - 1)) % z ≡ a % z
      back a = mod-add-mod (a + k) z (k * (z - 1)) ∙ whole a k

  pub around_meet : (s t x y u v : ℕ) → (s + x) % z ≡ (t + y) % z → (s + u) % z ≡ (t + v) % z
      → (x + v) % z ≡ (u + y) % z
  around_meet s t x y u v e f =
      around_cancel (x + v) (u + y) (s + t)
      (ap (λ (n : ℕ). n % z) (omega arith)
      ∙ add-mod (s + x) (t + v) z
      ∙ ap₂ (λ (m n : ℕ). (m + n) % z) e (sym f)
      ∙ sym (add-mod (t + y) (s + u) z)
      ∙ ap (λ (n : ℕ). n % z) (omega arith))

  pub around_back : (t x : ℕ) → t < z → (r : ℕ) × (r < z) × ((r + x) % z ≡ t)
  around_back t x h = (
    (t + x * (z - 1)) % z,
    mod-lt (t + x * (z - 1)) some,
    mod-add-mod (t + x * (z - 1)) z x ∙ ap (λ (n : ℕ). n % z) (omega arith) ∙ whole t x ∙ mod-eq_of_lt h,
  )
