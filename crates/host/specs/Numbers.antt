-- The numbers that the C host is answered.
--
--   number_of_cause c      cause x 2^32 + count x 2^16 + place, with cause 1 shortened, 2 check, 3 parity, 4
--                          delimiter; the count is that of failing rows, and 0 for the other causes
--   number_of_verdict v    0 for accepted
--   number_of_judgement j  the refusal's number, or the verdict's
--   JudgementFits j        its place and its count are below 2^16, as those of every word are; a refusal is 1 to
--                          65,535
--   read_back r            the answer of a check that the number r tells, by the parts that the header names
--   Answered P r           P holds of an answer whose number is r
--   Judging P r            P holds of a check's answer whose number is r
--   NumberedBy C x r       r is 0 where the result x is done, and else a number that its refusal becomes by C
--   HostEncoded a b ..     what birdovesta_encode promises, by the lists a and b
--   HostWord a b ..        what birdovesta_check_word promises
--   HostLine a b ..        what birdovesta_check_line promises
--   HostCoaxEncoded k ..   what birdovesta_encode_16200 and birdovesta_encode_5940 promise, for each code k
--   HostCoaxChecked k ..   what birdovesta_check_16200 and birdovesta_check_5940 promise
--
-- Believe this file beside the paper; nothing here is proved.
use Rattle.std.specs.Prelude.{◌≡◌, cond, List, ℕ, ◌+◌, ◌*◌, ◌/◌, ◌%◌, ◌^◌, ◌<◌, eqb, ltb}
use Rattle.std.specs.Prelude.{Result, Ok, Err, ⊤}
use Rattle.rules.specs.Formats.{fibre_format}
use Rattle.rules.specs.Promises.{refusal_of, Encoded, WordChecked, LineChecked}
use Rattle.rules.specs.Coax.{CoaxEncoded, CoaxChecked}
use Rattle.rules.specs.Answers.{Answer}
use Rattle.rules.specs.declared.Cause.{Cause}
use Rattle.rules.specs.declared.Cause.TheVariants.{Shortened, Check, Parity, Delimiter}
use Rattle.rules.specs.declared.Verdict.{Verdict}
use Rattle.rules.specs.declared.Verdict.TheVariants.{Accepted, Rejected}
use Rattle.rules.specs.declared.CoaxCode.{CoaxCode}
use Rattle.rules.specs.Judgements.{Judgement}
use Rattle.rules.specs.Judgements.{Judged, Refused}

abbrev pub number_of_cause : Cause → ℕ
number_of_cause (Shortened n) = 1 * 2 ^ 32 + n
number_of_cause (Check n m) = 2 * 2 ^ 32 + m * 2 ^ 16 + n
number_of_cause (Parity n) = 3 * 2 ^ 32 + n
number_of_cause (Delimiter n) = 4 * 2 ^ 32 + n

abbrev pub number_of_verdict : Verdict → ℕ
number_of_verdict Accepted = 0
number_of_verdict (Rejected c) = number_of_cause c

abbrev pub number_of_judgement : Judgement → ℕ
number_of_judgement (Judged v) = number_of_verdict v
number_of_judgement (Refused n) = n

abbrev pub NumberedBy : {E : Type 0} → (E → ℕ → Type 0) → Result ⊤ E → ℕ → Type 0
NumberedBy C (Ok x) r = r ≡ 0
NumberedBy C (Err e) r = C e r

-- place and count are each below 2^16, as wide as their parts of the number
abbrev pub CauseFits : Cause → Type 0
CauseFits (Shortened n) = n < 2 ^ 16
CauseFits (Check n m) = (n < 2 ^ 16) × (m < 2 ^ 16)
CauseFits (Parity n) = n < 2 ^ 16
CauseFits (Delimiter n) = n < 2 ^ 16

abbrev pub VerdictFits : Verdict → Type 0
VerdictFits Accepted = Unit
VerdictFits (Rejected c) = CauseFits c

abbrev pub JudgementFits : Judgement → Type 0
JudgementFits (Judged v) = VerdictFits v
JudgementFits (Refused n) = (0 < n) × (n < 2 ^ 16)

-- the cause numbered c, 1 to 4, with a count m and a place n
abbrev pub read_cause : ℕ → ℕ → ℕ → Cause
read_cause c m n =
    cond (eqb c 1) (Shortened n) (cond (eqb c 2) (Check n m) (cond (eqb c 3) (Parity n) (Delimiter n)))

abbrev pub read_back : ℕ → Judgement
read_back r =
    cond (eqb r 0) (Judged Accepted)
    (cond (ltb r (2 ^ 16)) (Refused r) (Judged (Rejected (read_cause (r / 2 ^ 32) (r / 2 ^ 16 % 2 ^ 16) (r % 2 ^ 16)))))

pub record Answered (P : Answer → Type 0) (r : ℕ) : Type 0 where
  pub answer : Answer
  pub promised : P answer
  pub result : r ≡ refusal_of answer

pub record Judging (P : Judgement → Type 0) (r : ℕ) : Type 0 where
  pub judgement : Judgement
  pub checked : P judgement
  pub result : r ≡ number_of_judgement judgement

abbrev pub HostEncoded : List ℕ → List ℕ → ℕ → List ℕ → ℕ → List ℕ → ℕ → List ℕ → Type 0
HostEncoded a b K u d o r o' = Answered (λ x. Encoded (fibre_format a b) K u d o x o') r

abbrev pub HostWord : List ℕ → List ℕ → ℕ → List ℕ → ℕ → Type 0
HostWord a b K w = Judging (WordChecked (fibre_format a b) K w)

abbrev pub HostLine : List ℕ → List ℕ → ℕ → List ℕ → ℕ → ℕ → Type 0
HostLine a b K l d = Judging (LineChecked (fibre_format a b) K l d)

abbrev pub HostCoaxEncoded : CoaxCode → ℕ → List ℕ → List ℕ → ℕ → List ℕ → Type 0
HostCoaxEncoded k K u o r o' = Answered (λ a. CoaxEncoded k K u o a o') r

abbrev pub HostCoaxChecked : CoaxCode → ℕ → List ℕ → ℕ → Type 0
HostCoaxChecked k K w = Judging (CoaxChecked k K w)
