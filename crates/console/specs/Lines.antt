-- How much of a slice a line word fills.
--
--   bytes_of_line f K room  the bytes of the line word of K payload bits, but at most the room; 0 where K is above the
--                           most
--
-- Nothing here is proved.
use Rattle.std.specs.Prelude.{cond, ℕ, min, ltb}
use Rattle.rules.specs.Bits.{need}
use Rattle.rules.specs.Formats.{Format}
use Rattle.rules.specs.Words.{line_bits}

abbrev pub bytes_of_line : Format → ℕ → ℕ → ℕ
bytes_of_line f K room = cond (ltb f.most K) 0 (min (need (line_bits f K)) room)
