-- What the functions on numbers promise. A number is 64 bits, the first one lowest.
--
--   Holds x f            the 64 bits of the number x are those of f
--   Replaced s t a b f   t is s with its b bits from byte a on replaced by those of f
--   LowestOne x r        r is the lowest place of the number x that is 1, or 64 where none is
--
-- Nothing here is proved.
use Rattle.std.specs.Prelude.{◌≡◌, List, ℕ, ◌+◌, ◌*◌, ◌≤◌, ◌<◌, length}
use Rattle.rules.specs.Bits.{bit}
use Rattle.rules.specs.Words.{digit}

pub record Holds (x : ℕ) (f : ℕ → ℕ) : Type 0 where
  pub each : (k : ℕ) → k < 64 → digit x k ≡ f k

pub record Replaced (s t : List ℕ) (a b : ℕ) (f : ℕ → ℕ) : Type 0 where
  pub length_same : length t ≡ length s
  pub below : (n : ℕ) → n < 8 * a → bit t n ≡ bit s n
  pub within : (k : ℕ) → k < b → bit t (8 * a + k) ≡ f k
  pub above : (n : ℕ) → 8 * a + b ≤ n → bit t n ≡ bit s n

pub record LowestOne (x r : ℕ) : Type 0 where
  pub high : r ≤ 64
  pub clear : (k : ℕ) → k < r → digit x k ≡ 0
  pub set : r < 64 → digit x r ≡ 1
