-- Every answer of the program: the line that says it, and the exit status that goes with it.
--
--   line_of s            the line of the answer s
--   status_of s          0: as it should be; 1: a verdict other than accepted, or something wrong; 2: refused
--   lesson_line right n  the line of a lesson: right or wrong, and its name n
--   trouble, lost        statuses that go with no answer: wrong use, or trouble with a file; an answer was not written
--   Told s r             r is the status s, or lost
--   Says P s             the answer s is a judgement of which P holds
--
-- Believe this file; nothing here is proved.
use Rattle.std.specs.Prelude.{◌≡◌, Bool, cond, ◌⊎◌, List, ◌++◌, ℕ, eqb, Result}
use Rattle.rules.specs.declared.Cause.TheVariants.{Shortened, Check, Parity, Delimiter}
use Rattle.rules.specs.declared.Verdict.TheVariants.{Accepted, Rejected}
use Rattle.rules.specs.Judgements.{Judgement}
use Rattle.rules.specs.Judgements as judgement
use Rattle.rules.specs.Judgements.{judgement as judged}
use Rattle.rules.specs.Answers.{number}
use Rattle.rules.specs.declared.Refusal.{Refusal}
use Rattle.rules.specs.declared.Verdict.{Verdict}
use Rattle.answers.specs.declared.Said.{Said}
use Rattle.answers.specs.declared.Said.TheVariants.{Judged, Written, Refused, RefusedBy, Reordering, Held}
use Rattle.answers.specs.declared.Said.TheVariants.{PieceRefused, PieceRefusedBy, PiecesRefused}
use Rattle.answers.specs.declared.Said.TheVariants.{RightVector, WrongVector, WrongLine}
use Rattle.answers.specs.declared.Said.TheVariants.{NoVectors, Right, Wrong}
use Rattle.lines.specs.Texts.{text, new_line, fact, facts, tally}

abbrev pub judgement_line : Judgement → List ℕ
judgement_line (judgement.Judged Accepted) = text "accepted" ++ new_line
judgement_line (judgement.Judged (Rejected (Shortened place))) = fact (text "shortened ") place
judgement_line (judgement.Judged (Rejected (Check row count))) = facts (text "check ") row (text " fails ") count
judgement_line (judgement.Judged (Rejected (Parity place))) = fact (text "parity ") place
judgement_line (judgement.Judged (Rejected (Delimiter bit))) = fact (text "delimiter ") bit
judgement_line (judgement.Refused number) = fact (text "refusal ") number

abbrev pub line_of : Said → List ℕ
line_of (Judged told) = judgement_line (judged told)
line_of (Written bytes) = fact (text "written ") bytes
line_of (Refused why) = fact (text "refusal ") (number why)
line_of (RefusedBy number) = fact (text "refusal ") number
line_of Reordering = text "reordering" ++ new_line
line_of (Held piece bits) = facts (text "piece ") piece (text " held ") bits
line_of (PieceRefused piece why) = facts (text "piece ") piece (text " refusal ") (number why)
line_of (PieceRefusedBy piece number) = facts (text "piece ") piece (text " refusal ") number
line_of (PiecesRefused count) = fact (text "refused pieces ") count
line_of (RightVector number) = fact (text "right vector ") number
line_of (WrongVector number) = fact (text "wrong vector ") number
line_of (WrongLine line) = fact (text "wrong vectors, line ") line
line_of NoVectors = text "vectors: none" ++ new_line
line_of (Right count) = tally count (text " right")
line_of (Wrong count) = tally count (text " wrong")

abbrev pub status_of_judgement : Judgement → ℕ
status_of_judgement (judgement.Judged Accepted) = 0
status_of_judgement (judgement.Judged (Rejected cause)) = 1
status_of_judgement (judgement.Refused number) = 2

abbrev pub status_of : Said → ℕ
status_of (Judged told) = status_of_judgement (judged told)
status_of (Written bytes) = 0
status_of (Refused why) = 2
status_of (RefusedBy number) = 2
status_of Reordering = 0
status_of (Held piece bits) = 0
status_of (PieceRefused piece why) = 2
status_of (PieceRefusedBy piece number) = 2
status_of (PiecesRefused count) = 2
status_of (RightVector number) = 0
status_of (WrongVector number) = 1
status_of (WrongLine line) = 1
status_of NoVectors = 0
status_of (Right count) = 0
status_of (Wrong count) = cond (eqb count 0) 0 1

abbrev pub lesson_line : Bool → List ℕ → List ℕ
lesson_line right name = cond right (text "right ") (text "wrong ") ++ name ++ new_line

abbrev pub trouble : ℕ
trouble = 3

abbrev pub lost : ℕ
lost = 4

abbrev pub Told : ℕ → ℕ → Type 0
Told s r = (r ≡ s) ⊎ (r ≡ lost)

abbrev pub Says : (Judgement → Type 0) → Said → Type 0
Says P s = (told : Result Verdict Refusal) × P (judged told) × (s ≡ Judged told)
