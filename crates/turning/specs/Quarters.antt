-- What the functions on quarters promise. A quarter is 64 of a part's bits, as one number, the first bit lowest.
--
--   HoldsAll q f    the quarters of the part q hold the bits of f
--
-- Nothing here is proved.
use Rattle.std.specs.Prelude.{ℕ, ◌+◌}
use Rattle.numbers.specs.Numbers.{Holds}
use Rattle.turning.specs.declared.Part.{Part}

pub record HoldsAll (q : Part) (f : ℕ → ℕ) : Type 0 where
  pub first : Holds q.first (λ k. f (0 + k))
  pub second : Holds q.second (λ k. f (64 + k))
  pub third : Holds q.third (λ k. f (128 + k))
  pub fourth : Holds q.fourth (λ k. f (192 + k))
