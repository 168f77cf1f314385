-- Paper 01, 'Refusal numbers', and W2, W4 and W9 of paper 02, read the other way round: what each operation asks of
-- its inputs.
--
--   ListsFit f                 each list that is lent is a reordering of its places
--   WholeBlocks f K            K bits are whole data blocks, from the least to the most
--   Serves f t                 the stream t is one of this code: it has its number, no more bits than the most, and
--                              no 1 past the checks in use
--   EncodeAsks f K u d room    encode a payload u of K bits, with the delimiter d, to so many bytes
--   CompleteAsks f K w         complete the full word w
--   PieceAsks f t b s          take a piece s of b bits
--   FinishAsks f t d room      finish, with the delimiter d, to so many bytes
--   WordAsks f K w             check the full word w
--   LineAsks f K l d           check the line word l, with the delimiter d
--
-- Believe this file beside the paper. The laws of the same name show that exactly these inputs are not refused.
use Rattle.std.specs.Prelude.{◌≡◌, List, ℕ, ◌+◌, ◌%◌, ◌≤◌, length}
use Rattle.rules.specs.Bits.{bit, need, UnusedSet, Packed}
use Rattle.rules.specs.Matrix.{places, checks, places_of_payload}
use Rattle.rules.specs.Lists.{AreListed}
use Rattle.rules.specs.Formats.{Format, delimiter_most}
use Rattle.rules.specs.Words.{line_bits, tail_bits}
use Rattle.rules.specs.Verdicts.{Nowhere, ShortenedSet}
use Rattle.rules.specs.declared.Stream.{Stream}

abbrev pub ListsFit : Format → Type 0
ListsFit f = AreListed (places_of_payload f.code) (checks f.code) f.lists

pub record WholeBlocks (f : Format) (K : ℕ) : Type 0 where
  pub least : f.least ≤ K
  pub most : K ≤ f.most
  pub whole : K % f.data_block ≡ 0

pub record Serves (f : Format) (t : Stream) : Type 0 where
  pub number : t.number ≡ f.number
  pub held : t.held ≤ f.most
  pub unused : UnusedSet t.checks (checks f.code) → ⊥

pub record EncodeAsks (f : Format) (K : ℕ) (u : List ℕ) (d room : ℕ) : Type 0 where
  pub lists : ListsFit f
  pub count : WholeBlocks f K
  pub payload : Packed K u
  pub delimiter : d ≤ delimiter_most f
  pub fits : need (line_bits f K) ≤ room

pub record CompleteAsks (f : Format) (K : ℕ) (w : List ℕ) : Type 0 where
  pub lists : ListsFit f
  pub count : WholeBlocks f K
  pub bytes : length w ≡ need (places f.code)
  pub shortened : Nowhere (ShortenedSet f K (bit w))

pub record PieceAsks (f : Format) (t : Stream) (b : ℕ) (s : List ℕ) : Type 0 where
  pub lists : ListsFit f
  pub stream : Serves f t
  pub piece : Packed b s
  pub most : t.held + b ≤ f.most

pub record FinishAsks (f : Format) (t : Stream) (d room : ℕ) : Type 0 where
  pub lists : ListsFit f
  pub stream : Serves f t
  pub count : WholeBlocks f t.held
  pub delimiter : d ≤ delimiter_most f
  pub fits : need (tail_bits f) ≤ room

pub record WordAsks (f : Format) (K : ℕ) (w : List ℕ) : Type 0 where
  pub lists : ListsFit f
  pub count : WholeBlocks f K
  pub bytes : length w ≡ need (places f.code)

pub record LineAsks (f : Format) (K : ℕ) (l : List ℕ) (d : ℕ) : Type 0 where
  pub lists : ListsFit f
  pub count : WholeBlocks f K
  pub line : Packed (line_bits f K) l
  pub delimiter : d ≤ delimiter_most f
