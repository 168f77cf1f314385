-- A delimiter as bytes.
--
--   digit_bytes d    the two bytes whose bits are the lowest sixteen of the delimiter d, the low one first
--
-- Nothing here is proved.
use Rattle.std.specs.Prelude.{List, [], ◌∷◌, ℕ, ◌/◌, ◌%◌}

abbrev pub digit_bytes : ℕ → List ℕ
digit_bytes d = d % 256 ∷ d / 256 % 256 ∷ []
