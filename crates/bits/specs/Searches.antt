-- What the searches of bits promise.
--
--   FirstSet s from to r       r is the lowest place from `from` on that is 1, or `to` where there is none below it
--   FirstDifference x y b r    r is the lowest place at which x and y differ, or b where they are alike below b
--
-- Nothing here is proved.
use Rattle.std.specs.Prelude.{◌≡◌, List, ℕ, ◌≤◌, ◌<◌}
use Rattle.rules.specs.Bits.{bit}

pub record FirstSet (s : List ℕ) (from to r : ℕ) : Type 0 where
  pub low : from ≤ r
  pub high : r ≤ to
  pub clear : (n : ℕ) → from ≤ n → n < r → bit s n ≡ 0
  pub set : r < to → bit s r ≡ 1

pub record FirstDifference (x y : ℕ → ℕ) (b r : ℕ) : Type 0 where
  pub high : r ≤ b
  pub same : (n : ℕ) → n < r → x n ≡ y n
  pub differs : r < b → x r ≡ y r → ⊥
