-- W8 and W9 of paper 02: the two coax codes, by Tables 101-3 and 101-4 of source document 001. Nothing is shortened and
-- nothing punctured, there are no lists and no delimiter, and a payload fills the payload places.
--
--   coax_code k                the code k: blocks of 360 or of 180, five block rows, 45 or 33 block columns
--                              (coax_size, coax_columns), and its table's lines (coax_lines)
--   coax_format k              its format: number 2 or 3 (coax_number); payloads of exactly the payload places, 14,400
--                              or 5,040; all parity is sent
--   coax_encode_order f K u m  the order of encode, to m bytes
--   coax_word_order f K w      of complete and of the check
--   coax_finish_order f t m    of a stream's finish, to m bytes; that of a piece is piece_order
--   Counted f K                K is from the least to the most; of a coax code these are one number
--   Coax..Asks                 the same orders read the other way round: what each operation asks; a piece, PieceAsks
--   CoaxEncoded k ..           encode: the word is the payload, then all of its parity
--   CoaxCompleted k ..         complete
--   CoaxChecked k ..           check
--   CoaxFinished k ..          a stream's finish: it writes the parity alone; of a piece, PieceTaken says it
--
-- Believe this file beside the paper; nothing here is proved.
use Rattle.std.specs.Prelude.{◌≡◌, List, [], ◌∷◌, ◌++◌, ℕ, ◌≤◌, ℤ, length}
use Rattle.rules.specs.Bits.{bit, need, Packed}
use Rattle.rules.specs.Matrix.{Code, places, checks, places_of_payload}
use Rattle.rules.specs.CoaxTables.{long_lines, short_lines}
use Rattle.rules.specs.Lists.{none}
use Rattle.rules.specs.Formats.{Format}
use Rattle.rules.specs.Words.{line_bits, tail_bits}
use Rattle.rules.specs.Verdicts.{WordVerdict}
use Rattle.rules.specs.Streams.{fresh}
use Rattle.rules.specs.Refusals.{Refusal, bad_count, wrong_bytes, with_unused_set, no_room, of_stream}
use Rattle.rules.specs.Asked.{Serves}
use Rattle.rules.specs.Promises.{Promise, Checked, Completion, LineWritten, TailWritten}
use Rattle.rules.specs.Answers.{Answer}
use Rattle.rules.specs.Judgements.{Judgement}
use Rattle.rules.specs.declared.Stream.{Stream}
use Rattle.rules.specs.Answers.{Outcome}
use Rattle.rules.specs.declared.CoaxCode.{CoaxCode}
use Rattle.rules.specs.declared.CoaxCode.TheVariants.{Long, Short}

abbrev pub coax_size : CoaxCode → ℕ
coax_size Long = 360
coax_size Short = 180

abbrev pub coax_columns : CoaxCode → ℕ
coax_columns Long = 45
coax_columns Short = 33

abbrev pub coax_lines : CoaxCode → List (List ℤ)
coax_lines Long = long_lines
coax_lines Short = short_lines

abbrev pub coax_code : CoaxCode → Code
coax_code k = record { size = coax_size k; rows = 5; columns = coax_columns k; table = coax_lines k }

abbrev pub coax_number : CoaxCode → ℕ
coax_number Long = 2
coax_number Short = 3

abbrev pub coax_format : CoaxCode → Format
coax_format k =
    record {
      code = coax_code k;
      number = coax_number k;
      first = λ t. t;
      second = λ t. t;
      lists = none;
      least = places_of_payload (coax_code k);
      most = places_of_payload (coax_code k);
      data_block = 1;
      sent = checks (coax_code k);
      delimiter = 0;
    }

-- encode: 1, 2, 5
abbrev pub coax_encode_order : Format → ℕ → List ℕ → ℕ → List Refusal
coax_encode_order f K u room = bad_count f K ∷ wrong_bytes u K ∷ no_room room (line_bits f K) ∷ []

-- complete and check: 1, 2, 3
abbrev pub coax_word_order : Format → ℕ → List ℕ → List Refusal
coax_word_order f K w = bad_count f K ∷ wrong_bytes w (places f.code) ∷ with_unused_set w (places f.code) ∷ []

-- finish: 12, 7, 1, 5
abbrev pub coax_finish_order : Format → Stream → ℕ → List Refusal
coax_finish_order f t room = of_stream f t ++ bad_count f t.held ∷ no_room room (tail_bits f) ∷ []

pub record Counted (f : Format) (K : ℕ) : Type 0 where
  pub least : f.least ≤ K
  pub most : K ≤ f.most

pub record CoaxEncodeAsks (f : Format) (K : ℕ) (u : List ℕ) (room : ℕ) : Type 0 where
  pub count : Counted f K
  pub bytes : length u ≡ need K
  pub fits : need (line_bits f K) ≤ room

pub record CoaxWordAsks (f : Format) (K : ℕ) (w : List ℕ) : Type 0 where
  pub count : Counted f K
  pub word : Packed (places f.code) w

pub record CoaxFinishAsks (f : Format) (t : Stream) (room : ℕ) : Type 0 where
  pub stream : Serves f t
  pub count : Counted f t.held
  pub fits : need (tail_bits f) ≤ room

abbrev pub CoaxEncoded : CoaxCode → ℕ → List ℕ → List ℕ → Answer → List ℕ → Type 0
CoaxEncoded k K u o a o' =
    Promise (coax_encode_order (coax_format k) K u (length o)) a (LineWritten (coax_format k) K u 0 o o') (o' ≡ o)

abbrev pub CoaxCompleted : CoaxCode → ℕ → List ℕ → Answer → List ℕ → Type 0
CoaxCompleted k K w a w' =
    Promise (coax_word_order (coax_format k) K w) a (Completion (coax_code k) w w') (w' ≡ w)

abbrev pub CoaxChecked : CoaxCode → ℕ → List ℕ → Judgement → Type 0
CoaxChecked k K w = Checked (coax_word_order (coax_format k) K w) (WordVerdict (coax_format k) K (bit w))

abbrev pub CoaxFinished : CoaxCode → Stream → List ℕ → Outcome → List ℕ → Type 0
CoaxFinished k t o r o' =
    Promise (coax_finish_order (coax_format k) t (length o)) r.answer
    ((r.stream ≡ fresh (coax_number k)) × TailWritten (coax_format k) t.checks 0 o o')
    ((r.stream ≡ t) × (o' ≡ o))
