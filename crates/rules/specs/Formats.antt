-- Paper 01, 'Numbers', and W2, W4 and W9 of paper 02: what a code fixes beside its matrix, with what its interleavers
-- do, and the numbers of the fibre code.
--
--   Format            a code, and what else it fixes:
--     code              its matrix
--     number            the number by which a stream says that it serves this code
--     first             the padded-payload place that goes to an inner place
--     second            the inner parity place that becomes an outgoing parity bit
--     lists             the lists that a call is lent, which say the first and the second
--     least, most       the least and the most payload bits K
--     data_block         the bits of a data block; a payload is whole data blocks
--     sent              the outgoing parity bits that are sent, the first ones; the others are punctured
--     delimiter         the delimiter's bits
--   delimiter_most f  the largest delimiter
--   fibre_by r s v    the fibre code, with first r, second s and lists v: number 1; 1 to 14,392 payload bits, in data
--                     blocks of 257; 2,560 of its 3,072 outgoing parity bits are sent, and the last 512 punctured; a
--                     delimiter of 10 bits, a number 0 to 1,023
--   fibre_format a b  the fibre code by two lists that are lent: the first a, of its payload places, and the second b,
--                     of its parity places
--   fibre_kept        the fibre code as paper 01 has it: both interleavers keep the order of the bits
--
-- Believe this file beside the paper; nothing here is proved.
use Rattle.std.specs.Prelude.{List, ℕ, ◌-◌, ◌^◌}
use Rattle.rules.specs.Matrix.{Code, checks, places_of_payload}
use Rattle.rules.specs.Lists.{place_in, Lists, none, pair}
use Rattle.rules.specs.Table.{fibre}

pub record Format : Type 0 where
  pub code : Code
  pub number : ℕ
  pub first : ℕ → ℕ
  pub second : ℕ → ℕ
  pub lists : Lists
  pub least : ℕ
  pub most : ℕ
  pub data_block : ℕ
  pub sent : ℕ
  pub delimiter : ℕ

abbrev pub delimiter_most : Format → ℕ
delimiter_most f = 2 ^ f.delimiter - 1

abbrev pub fibre_by : (ℕ → ℕ) → (ℕ → ℕ) → Lists → Format
fibre_by r s v =
    record {
      code = fibre;
      number = 1;
      first = r;
      second = s;
      lists = v;
      least = 1;
      most = 14392;
      data_block = 257;
      sent = 2560;
      delimiter = 10;
    }

abbrev pub fibre_format : List ℕ → List ℕ → Format
fibre_format a b = fibre_by (place_in (places_of_payload fibre) a) (place_in (checks fibre) b) (pair a b)

abbrev pub fibre_kept : Format
fibre_kept = fibre_by (λ t. t) (λ t. t) none
