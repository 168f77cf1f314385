-- Paper 01, 'Refusal numbers', and W2, W4 and W9 of paper 02: when each is given, and the order of each operation. 0
-- stands for no refusal. A code's format has the limits.
--
--   Refusal       its number, and when it applies
--   refusal k A   the refusal numbered k, which applies where A holds
--   tells o r     r is the number of the first refusal of the order o that applies, or 0 where none does
--   BadList n l   the list l has another length than n entries take, or these are no reordering of n places
--   of_lists f    the refusal of the lists that are lent, 16; where none are, none
--   of_count f K  the refusals of a payload's count: 1, 10
--   of_stream f t the refusals of a stream's state: 12, 7
--   of_piece f .. the refusals of a piece alone: 12, 7, 2, 3, 6
--   xOrder       the order of operation x
--
-- Believe this file beside the paper; nothing here is proved.
use Rattle.std.specs.Prelude.{◌≡◌, ◌⊎◌, List, [], ◌∷◌, ◌++◌, ℕ, ◌+◌, ◌*◌, ◌%◌, ◌<◌, length}
use Rattle.rules.specs.Bits.{bit, need, UnusedSet}
use Rattle.rules.specs.Matrix.{places, checks, places_of_payload}
use Rattle.rules.specs.Lists.{Reordering, entry_of, Lists, none, pair}
use Rattle.rules.specs.Formats.{Format, delimiter_most}
use Rattle.rules.specs.Words.{line_bits, tail_bits}
use Rattle.rules.specs.Verdicts.{ShortenedSet}
use Rattle.rules.specs.declared.Stream.{Stream}

pub record Refusal : Type 1 where
  pub number : ℕ
  pub applies : Type 0

abbrev pub refusal : ℕ → Type 0 → Refusal
refusal k A = record { number = k; applies = A }

abbrev pub tells : List Refusal → ℕ → Type 0
tells [] r = r ≡ 0
tells (t ∷ o) r = (t.applies × (r ≡ t.number)) ⊎ ((t.applies → ⊥) × tells o r)

-- 1: the count of payload bits is below the least, or above the most
abbrev pub bad_count : Format → ℕ → Refusal
bad_count f K = refusal 1 ((K < f.least) ⊎ (f.most < K))

-- 2: the bytes given are not exactly the number that b bits need
abbrev pub wrong_bytes : List ℕ → ℕ → Refusal
wrong_bytes s b = refusal 2 (length s ≡ need b → ⊥)

-- 3: an unused high bit is 1
abbrev pub with_unused_set : List ℕ → ℕ → Refusal
with_unused_set s b = refusal 3 (UnusedSet s b)

-- 4: the delimiter is above the largest
abbrev pub bad_delimiter : Format → ℕ → Refusal
bad_delimiter f d = refusal 4 (delimiter_most f < d)

-- 5: the output is shorter than b bits need
abbrev pub no_room : ℕ → ℕ → Refusal
no_room room b = refusal 5 (room < need b)

-- 6: with b bits more, the stream would hold more than the most
abbrev pub too_many_with : Format → ℕ → ℕ → Refusal
too_many_with f held b = refusal 6 (f.most < held + b)

-- 7: the stream claims more bits than the most, or a 1 stands past the checks in use
abbrev pub bad_state : Format → Stream → Refusal
bad_state f t = refusal 7 ((f.most < t.held) ⊎ UnusedSet t.checks (checks f.code))

-- 8: a shortened place is 1
abbrev pub some_shortened : Format → ℕ → List ℕ → Refusal
some_shortened f K w = refusal 8 ((n : ℕ) × ShortenedSet f K (bit w) n)

-- 10: the count of payload bits is not a multiple of a data block's
abbrev pub broken_block : Format → ℕ → Refusal
broken_block f K = refusal 10 (K % f.data_block ≡ 0 → ⊥)

-- 12: the stream serves another code, or none: its number is another than the code's
abbrev pub other_code : Format → Stream → Refusal
other_code f t = refusal 12 (t.number ≡ f.number → ⊥)

-- 16: a list has another length, or is no reordering of its places
abbrev pub BadList : ℕ → List ℕ → Type 0
BadList n l = (length l ≡ 2 * n → ⊥) ⊎ (Reordering n (entry_of l) → ⊥)

abbrev pub bad_lists : ℕ → ℕ → Lists → List Refusal
bad_lists n m none = []
bad_lists n m (pair a b) = refusal 16 (BadList n a ⊎ BadList m b) ∷ []

abbrev pub of_lists : Format → List Refusal
of_lists f = bad_lists (places_of_payload f.code) (checks f.code) f.lists

abbrev pub of_count : Format → ℕ → List Refusal
of_count f K = bad_count f K ∷ broken_block f K ∷ []

abbrev pub of_stream : Format → Stream → List Refusal
of_stream f t = other_code f t ∷ bad_state f t ∷ []

abbrev pub of_piece : Format → Stream → ℕ → List ℕ → List Refusal
of_piece f t b s = of_stream f t ++ wrong_bytes s b ∷ with_unused_set s b ∷ too_many_with f t.held b ∷ []

-- encode: 16, 1, 10, 2, 3, 4, 5
abbrev pub encode_order : Format → ℕ → List ℕ → ℕ → ℕ → List Refusal
encode_order f K u d room =
    of_lists f
    ++ (of_count f K ++ wrong_bytes u K ∷ with_unused_set u K ∷ bad_delimiter f d ∷ no_room room (line_bits f K) ∷ [])

-- piece: 16, 12, 7, 2, 3, 6
abbrev pub piece_order : Format → Stream → ℕ → List ℕ → List Refusal
piece_order f t b s = of_lists f ++ of_piece f t b s

-- finish: 16, 12, 7, 1, 10, 4, 5
abbrev pub finish_order : Format → Stream → ℕ → ℕ → List Refusal
finish_order f t d room =
    of_lists f ++ (of_stream f t ++ (of_count f t.held ++ bad_delimiter f d ∷ no_room room (tail_bits f) ∷ []))

-- complete: 16, 1, 10, 2, 8
abbrev pub complete_order : Format → ℕ → List ℕ → List Refusal
complete_order f K w = of_lists f ++ (of_count f K ++ wrong_bytes w (places f.code) ∷ some_shortened f K w ∷ [])

-- full-word check: 16, 1, 10, 2
abbrev pub word_order : Format → ℕ → List ℕ → List Refusal
word_order f K w = of_lists f ++ (of_count f K ++ wrong_bytes w (places f.code) ∷ [])

-- line check: 16, 1, 10, 2, 3, 4
abbrev pub line_order : Format → ℕ → List ℕ → ℕ → List Refusal
line_order f K l d =
    of_lists f
    ++ (of_count f K ++ wrong_bytes l (line_bits f K) ∷ with_unused_set l (line_bits f K) ∷ bad_delimiter f d ∷ [])
