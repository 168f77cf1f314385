-- Laws of running checks: bytes to which the checks of words are added, over any code.
--
--   checks_as      equal words add the same checks
--   checks_none    a word of zeros adds none
--   checks_join    b bits placed at h, and then the m bits after them, add the checks of b + m bits
--   checks_again   running checks that began as zeros have the checks of the word added
use mathlib.Core.Path.{◌≡◌, ◌∙◌}
use mathlib.Core.List.{List}
use Prim.Native.Nat.{ℕ, ◌+◌, ◌<◌}
use native.Mathlib.Omega.{arith}
use lib.ListN.{replicate}
use Rattle.rules.specs.Bits.{bit, zeros, placed, sum, Adds}
use Rattle.rules.specs.Matrix.{Code, places, check}
use Rattle.rules.proofs.Checks.{check_below, check_same, check_zeros, check_sum}
use Rattle.laws.proofs.Adds.{adds_as, adds_mod, adds_none, adds_then}
use Rattle.laws.proofs.Bits.{bit_zeros}
use Rattle.laws.proofs.Runs.{placed_bits, placed_join}

module _ (c : Code) where
  pub checks_as : {x y : ℕ → ℕ} {s t : List ℕ} → ((n : ℕ) → n < places c → x n ≡ y n) → Adds s t (λ n. check c n x)
      → Adds s t (λ n. check c n y)
  checks_as {x} {y} e a = adds_as (λ n. check_same c n x y e) a

  pub checks_none : (x : ℕ → ℕ) (s : List ℕ) → ((n : ℕ) → n < places c → x n ≡ 0) → Adds s s (λ n. check c n x)
  checks_none x s e = adds_none s _ (λ n. check_same c n x zeros e ∙ check_zeros c n)

  pub checks_join : (h b m : ℕ) (x : ℕ → ℕ) {s t u : List ℕ} → ((k : ℕ) → x k < 2)
      → Adds s t (λ n. check c n (placed h b x)) → Adds t u (λ n. check c n (placed (h + b) m (λ k. x (b + k))))
      → Adds s u (λ n. check c n (placed h (b + m) x))
  checks_join h b m x bits p q =
      let y = placed h b x in
      let z = placed (h + b) m (λ k. x (b + k)) in
      checks_as {x = sum y z} (λ n l. omega (arith, placed_join h b m x n, placed_bits h (b + m) x bits n))
      (adds_mod (λ n. omega (arith, check_sum c n y z)) (adds_then p q))

  pub checks_again : (x : ℕ → ℕ) (k : ℕ) {s : List ℕ} → Adds (replicate k 0) s (λ n. check c n x) → (n : ℕ)
      → bit s n ≡ check c n x
  checks_again x k a n = a.each n ∙ omega (arith, bit_zeros k n, check_below c n x)
