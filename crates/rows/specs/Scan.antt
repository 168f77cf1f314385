-- What the scan of a full word's check rows finds.
--
--   Scanned c w r    r is the lowest failing row of w, or the number of checks, which is no row, where none fails
--
-- Nothing here is proved.
use Rattle.std.specs.Prelude.{◌≡◌, ℕ, ◌≤◌, ◌<◌}
use Rattle.rules.specs.Matrix.{Code, checks, check}

pub record Scanned (c : Code) (w : ℕ → ℕ) (r : ℕ) : Type 0 where
  pub within : r ≤ checks c
  pub hold : (n : ℕ) → n < r → check c n w ≡ 0
  pub fails : r < checks c → check c r w ≡ 1
