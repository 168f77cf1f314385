-- Laws of `how_many b f`, how many numbers below b pass the test f.
--
--   how_many_same_law     equal tests count alike
--   how_many_none_law     where none passes, the count is 0
--   how_many_some_law     where one passes, the count is above 0
--   how_many_below_law    the count is no more than b
--   how_many_more_law     one number more
use mathlib.Core.Path.{◌≡◌, sym, ap, ◌∙◌}
use mathlib.Core.Bool.{Bool, true, false}
use Prim.Native.Nat.{ℕ, ◌+◌, ◌≤◌, ◌<◌}
use native.Mathlib.Omega.{arith}
use Rattle.rules.specs.Verdicts.{how_many}
use Rattle.rules.proofs.Tests.{as_bit, as_bit_below_law}
use Rattle.rules.proofs.Sums.{total_same, total_none, total_below, total_part, total_more}

pub how_many_same_law : (b : ℕ) (f g : ℕ → Bool) → ((n : ℕ) → n < b → f n ≡ g n) → how_many b f ≡ how_many b g
how_many_same_law b f g h = total_same b _ _ (λ n l. ap as_bit (h n l))

pub how_many_none_law : (b : ℕ) (f : ℕ → Bool) → ((n : ℕ) → n < b → f n ≡ false) → how_many b f ≡ 0
how_many_none_law b f h = total_none b _ (λ n l. ap as_bit (h n l))

pub how_many_some_law : (b : ℕ) (f : ℕ → Bool) (n : ℕ) → n < b → f n ≡ true → 0 < how_many b f
how_many_some_law b f n l e = omega (arith, total_part b (λ n. as_bit (f n)) n l, ap as_bit e)

pub how_many_below_law : (b : ℕ) (f : ℕ → Bool) → how_many b f ≤ b
how_many_below_law b f = total_below b _ (λ n. as_bit_below_law (f n))

pub how_many_more_law : (b m : ℕ) (f : ℕ → Bool) (v : Bool) → m ≡ how_many b f → f b ≡ v
    → m + as_bit v ≡ how_many (b + 1) f
how_many_more_law b m f v e h = ap (λ (v : Bool). m + as_bit v) (sym h) ∙ total_more (λ n. as_bit (f n)) b m e
