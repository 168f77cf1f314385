-- What each public operation promises: its answer and the later contents of all that it was lent, for every input.
-- A refusal leaves everything as it was.
--
--   refusal_of a              the refusal's number of an answer, 0 for none
--   refusal_in j              the same of a check's answer
--   by a A B                  A where the answer a is Done, B where it is a refusal
--   judged P j                P of the verdict that j gives
--   Promise o a A B           the answer a is by the order o; A holds where it is Done, B where it is a refusal
--   Checked o P j             the same of a check: P holds of its verdict
--   Completion c w w'         the parity's bytes of w' are the parity of the payload places of w; those before are
--                             w's. For codes whose payload places fill whole bytes
--   LineWritten f K u d o o'  o' begins with the line word of u
--   TailWritten f s d o o'    o' begins with the tail of the parity whose own checks are the bits of s
--   Completed f K w a w'      complete
--   WordChecked f K w j       check a full word
--   Encoded f K u d o a o'    encode
--   LineChecked f K l d j     check a line word
--   PieceTaken f b s t r      a stream's piece
--   Finished f d t o r o'     a stream's finish: it writes the tail, and the stream is a fresh one of the same code
--
-- Believe this file beside the paper; nothing here is proved.
use Rattle.std.specs.Prelude.{◌≡◌, List, ◌++◌, ℕ, ◌/◌, ◌<◌, length, take}
use Rattle.rules.specs.Bits.{bit, Written}
use Rattle.rules.specs.Matrix.{Code, places_of_payload}
use Rattle.rules.specs.Formats.{Format}
use Rattle.rules.specs.Words.{padded, reordered, Parity, OwnChecks, tail, tail_bits, line_word, line_bits}
use Rattle.rules.specs.Verdicts.{WordVerdict, LineVerdict}
use Rattle.rules.specs.Streams.{fresh, Fed}
use Rattle.rules.specs.Refusals.{Refusal, tells}
use Rattle.rules.specs.Refusals.{encode_order, piece_order, finish_order, complete_order, word_order, line_order}
use Rattle.rules.specs.declared.Verdict.{Verdict}
use Rattle.rules.specs.Answers.{Answer}
use Rattle.rules.specs.Answers.{Done, Refused}
use Rattle.rules.specs.Judgements.{Judgement}
use Rattle.rules.specs.Judgements as judgement
use Rattle.rules.specs.declared.Stream.{Stream}
use Rattle.rules.specs.Answers.{Outcome}

abbrev pub refusal_of : Answer → ℕ
refusal_of Done = 0
refusal_of (Refused n) = n

abbrev pub refusal_in : Judgement → ℕ
refusal_in (judgement.Judged v) = 0
refusal_in (judgement.Refused n) = n

-- A holds where the answer is Done; where it is a refusal, whose number is above 0, B does
abbrev pub by : Answer → Type 0 → Type 0 → Type 0
by Done A B = A
by (Refused n) A B = (0 < n) × B

-- P holds of the verdict, where there is one
abbrev pub judged : (Verdict → Type 0) → Judgement → Type 0
judged P (judgement.Judged v) = P v
judged P (judgement.Refused n) = 0 < n

pub record Promise (o : List Refusal) (a : Answer) (A B : Type 0) : Type 0 where
  pub told : tells o (refusal_of a)
  pub effect : by a A B

pub record Checked (o : List Refusal) (P : Verdict → Type 0) (j : Judgement) : Type 0 where
  pub told : tells o (refusal_in j)
  pub verdict : judged P j

abbrev pub Completion : Code → List ℕ → List ℕ → Type 0
Completion c w w' = (p : List ℕ) × Parity c (bit w) p × (w' ≡ take (places_of_payload c / 8) w ++ p)

abbrev pub LineWritten : Format → ℕ → List ℕ → ℕ → List ℕ → List ℕ → Type 0
LineWritten f K u d o o' =
    (p : List ℕ) × Parity f.code (reordered f (padded K (bit u))) p
    × Written (line_bits f K) (line_word f K (bit u) p d) o o'

abbrev pub TailWritten : Format → List ℕ → ℕ → List ℕ → List ℕ → Type 0
TailWritten f s d o o' = (p : List ℕ) × OwnChecks f.code s p × Written (tail_bits f) (tail f p d) o o'

abbrev pub Completed : Format → ℕ → List ℕ → Answer → List ℕ → Type 0
Completed f K w a w' = Promise (complete_order f K w) a (Completion f.code w w') (w' ≡ w)

abbrev pub WordChecked : Format → ℕ → List ℕ → Judgement → Type 0
WordChecked f K w = Checked (word_order f K w) (WordVerdict f K (bit w))

abbrev pub Encoded : Format → ℕ → List ℕ → ℕ → List ℕ → Answer → List ℕ → Type 0
Encoded f K u d o a o' = Promise (encode_order f K u d (length o)) a (LineWritten f K u d o o') (o' ≡ o)

abbrev pub LineChecked : Format → ℕ → List ℕ → ℕ → Judgement → Type 0
LineChecked f K l d = Checked (line_order f K l d) (LineVerdict f K l d)

abbrev pub PieceTaken : Format → ℕ → List ℕ → Stream → Outcome → Type 0
PieceTaken f b s t r =
    Promise (piece_order f t b s) r.answer (Fed f b s t r.stream) (r.stream ≡ t)

abbrev pub Finished : Format → ℕ → Stream → List ℕ → Outcome → List ℕ → Type 0
Finished f d t o r o' =
    Promise (finish_order f t d (length o)) r.answer
    ((r.stream ≡ fresh f.number) × TailWritten f t.checks d o o')
    ((r.stream ≡ t) × (o' ≡ o))
