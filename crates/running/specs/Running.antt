-- The blocks of a word that reach the running checks, for blocks of z bits.
--
--   HasBlocks z m s    the bytes s have m blocks, and a usize counts their places
--   blocks_of z w a e  the blocks of the bytes w from block a on and below block e, at their places, and 0 elsewhere
--
-- Nothing here is proved.
use Rattle.std.specs.Prelude.{List, ℕ, ◌+◌, ◌-◌, ◌*◌, ◌^◌, ◌≤◌, ◌<◌, length}
use Rattle.rules.specs.Bits.{bit, placed}

pub record HasBlocks (z m : ℕ) (s : List ℕ) : Type 0 where
  pub bits : z * m ≤ 8 * length s
  pub counted : z * m < 2 ^ 64

abbrev pub blocks_of : ℕ → List ℕ → ℕ → ℕ → ℕ → ℕ
blocks_of z w a e = placed (z * a) (z * (e - a)) (λ t. bit w (z * a + t))
