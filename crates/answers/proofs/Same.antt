-- One line only fits an answer, and one answer only the line `accepted`. An answer by a refusal is that by its number.
--
--   line_same          two lines of the same text are as long, and alike
--   buffer_same        two buffers that hold the same text first: so many first bytes of each, and these alike
--   accepted_alone     the line `accepted` is said of nothing but what is accepted
--   accepted_status    so is exit status 0, of what a check answers
--   Alike s s'         the answers s and s' have one line and one exit status
--   refused_by         a refused operation's answer is alike the answer by its refusal's number
--   piece_refused_by   so is a refused piece's
--   check_refused_by   so is a refused check's, whatever its number
use mathlib.Core.Path.{◌≡◌, refl, sym, ap, ◌∙◌}
use mathlib.Core.List.{List}
use Prim.Native.Nat.{ℕ}
use native.Mathlib.Omega.{arith}
use lib.ListN.{length, take, get_or}
use Rattle.io.specs.Counts.{IsPrefixLen}
use Rattle.rules.specs.Answers.{number}
use Rattle.rules.specs.declared.Refusal.{Refusal}
use Rattle.rules.specs.declared.Cause.TheVariants.{Shortened, Check, Parity, Delimiter}
use Rattle.rules.specs.declared.Verdict.TheVariants.{Accepted, Rejected}
use Rattle.rules.specs.Judgements.{Judgement}
use Rattle.rules.specs.Judgements.{Judged, Refused}
use Rattle.lines.specs.Texts.{text}
use Rattle.answers.specs.declared.Said.{Said}
use Rattle.answers.specs.declared.Said.TheVariants as said
use Rattle.answers.specs.Answers.{judgement_line, line_of, status_of_judgement, status_of}

pub line_same : (t l l' : List ℕ) → l ≡ t → l' ≡ t → (length l ≡ length l') × (l ≡ l')
line_same t l l' e e' =
    let same = e ∙ sym e' in
    (ap length same, same)

pub buffer_same : (t : List ℕ) (r r' : ℕ) (l l' : List ℕ)
    → IsPrefixLen r l → take r l ≡ t
    → IsPrefixLen r' l' → take r' l' ≡ t
    → (r ≡ r') × (take r l ≡ take r' l')
buffer_same t r r' l l' c e c' e' =
    let same = line_same t (take r l) (take r' l') e e' in
    (c.1 ∙ same.0 ∙ sym c'.1, same.1)

-- the first letter of a line
first : List ℕ → ℕ
first l = get_or l 0 0

pub accepted_alone : (told : Judgement) → judgement_line told ≡ text "accepted\n" → told ≡ Judged Accepted
unfolding first
accepted_alone (Judged Accepted) e = refl
accepted_alone (Judged (Rejected (Shortened place))) e = absurd (omega (arith, ap first e))
accepted_alone (Judged (Rejected (Check row count))) e = absurd (omega (arith, ap first e))
accepted_alone (Judged (Rejected (Parity place))) e = absurd (omega (arith, ap first e))
accepted_alone (Judged (Rejected (Delimiter bit))) e = absurd (omega (arith, ap first e))
accepted_alone (Refused number) e = absurd (omega (arith, ap first e))

pub accepted_status : (told : Judgement) → status_of_judgement told ≡ 0 → told ≡ Judged Accepted
accepted_status (Judged Accepted) e = refl
accepted_status (Judged (Rejected cause)) e = absurd (omega arith)
accepted_status (Refused number) e = absurd (omega arith)

abbrev pub Alike : Said → Said → Type 0
Alike s s' = (line_of s ≡ line_of s') × (status_of s ≡ status_of s')

pub refused_by : (why : Refusal) → Alike (said.Refused why) (said.RefusedBy (number why))
refused_by why = (refl, refl)

pub piece_refused_by : (piece : ℕ) (why : Refusal)
    → Alike (said.PieceRefused piece why) (said.PieceRefusedBy piece (number why))
piece_refused_by piece why = (refl, refl)

pub check_refused_by : (n : ℕ)
    → (judgement_line (Refused n) ≡ line_of (said.RefusedBy n))
    × (status_of_judgement (Refused n) ≡ status_of (said.RefusedBy n))
check_refused_by n = (refl, refl)
