-- Paper 01, 'Numbers' and 'The matrix', and W2 and W9 of paper 02: what the theorems ask of a format's sizes.
--
--   Sized f     the sizes of the format f go together:
--     rows        there are no more block rows than block columns
--     whole       the payload places fill whole bytes
--     some        a payload has at least one bit
--     most        the longest payload fits the payload places
--     sent        no more parity places are sent than there are
--     kept        the first reordering is one of the payload places: it keeps all from there on
--     lines       each line of the table has an entry for each block row, and no more
--
-- Believe this file beside the paper. Fibre proves it of the fibre code's format, and Coax of the coax codes'.
use Rattle.std.specs.Prelude.{◌≡◌, [], ℕ, ◌%◌, ◌≤◌, ◌<◌, length, get_or}
use Rattle.rules.specs.Matrix.{checks, places_of_payload}
use Rattle.rules.specs.Formats.{Format}

pub record Sized (f : Format) : Type 0 where
  pub rows : f.code.rows ≤ f.code.columns
  pub whole : places_of_payload f.code % 8 ≡ 0
  pub some : 0 < f.least
  pub most : f.most ≤ places_of_payload f.code
  pub sent : f.sent ≤ checks f.code
  pub kept : (t : ℕ) → places_of_payload f.code ≤ t → f.first t ≡ t
  pub lines : (j : ℕ) → j < f.code.columns → length (get_or f.code.table j []) ≡ f.code.rows
