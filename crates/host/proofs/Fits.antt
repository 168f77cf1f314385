-- Every place that a verdict names, and every count, is below 2^16, and every refusal of a check is 1 to 65,535.
--
--   word_fits, line_fits, coax_check_fits    so are those of an answer to each check
use Prim.Native.Nat.{ℕ, ◌<◌, ◌^◌}
use mathlib.Core.List.{List}
use native.Mathlib.Omega.{arith}
use lib.Dec.{T, ltb, ltb→lt, lit<}
use Rattle.rules.specs.Bits.{bit}
use Rattle.rules.specs.Matrix.{checks, places_of_payload}
use Rattle.rules.specs.Formats.{Format, fibre_format}
use Rattle.rules.specs.Verdicts.{WordVerdict, LineVerdict}
use Rattle.rules.specs.Refusals.{Refusal, tells, word_order, line_order}
use Rattle.rules.specs.Promises.{refusal_in, judged, WordChecked, LineChecked}
use Rattle.rules.specs.Coax.{coax_format, coax_word_order, CoaxChecked}
use Rattle.rules.specs.declared.CoaxCode.{CoaxCode}
use Rattle.rules.specs.declared.Cause.TheVariants.{Shortened, Check, Parity, Delimiter}
use Rattle.rules.specs.declared.Verdict.{Verdict}
use Rattle.rules.specs.declared.Verdict.TheVariants.{Accepted, Rejected}
use Rattle.rules.specs.Judgements.{Judgement}
use Rattle.rules.specs.Judgements.{Judged, Refused}
use Rattle.rules.proofs.CoaxLaws.{coax_numbers}
use Rattle.laws.proofs.Told.{numbers_pass, told_passes}
use Rattle.laws.proofs.Judged.{count_range}
use Rattle.host.specs.Numbers.{VerdictFits, JudgementFits}

-- the number that an order tells is below 2^16, where each of its numbers is
pub told_short : (o : List Refusal) → T (numbers_pass (λ n. ltb n (2 ^ 16)) o) → (r : ℕ) → tells o r → r < 2 ^ 16
told_short o h r x = ltb→lt r (2 ^ 16) (told_passes (λ n. ltb n (2 ^ 16)) tt o h r x)

-- of any code with fewer payload places than 2^16, and fewer checks
word_verdict_law : (f : Format) → places_of_payload f.code < 2 ^ 16 → checks f.code < 2 ^ 16 → (K : ℕ) (w : ℕ → ℕ)
    (v : Verdict) → WordVerdict f K w v → VerdictFits v
word_verdict_law f few less K w Accepted h = tt
word_verdict_law f few less K w (Rejected (Shortened n)) h = omega (arith, h.0.1)
word_verdict_law f few less K w (Rejected (Check n m)) h =
    (omega (arith, h.1.0.0), omega (arith, (count_range f K w n m h).1))
word_verdict_law f few less K w (Rejected (Parity n)) h = absurd h
word_verdict_law f few less K w (Rejected (Delimiter n)) h = absurd h

-- of any format with fewer sent parity places than 2^16, and fewer delimiter bits
line_verdict : (f : Format) → f.sent < 2 ^ 16 → f.delimiter < 2 ^ 16 → (K : ℕ) (l : List ℕ) (d : ℕ) (v : Verdict)
    → LineVerdict f K l d v → VerdictFits v
line_verdict f few less K l d Accepted h = tt
line_verdict f few less K l d (Rejected (Shortened n)) h = absurd h.2
line_verdict f few less K l d (Rejected (Check n m)) h = absurd h.2
line_verdict f few less K l d (Rejected (Parity n)) h = omega (arith, h.2.0.0)
line_verdict f few less K l d (Rejected (Delimiter n)) h = omega (arith, h.2.1.0.0)

-- an answer fits where its verdict does, and its refusal is short
answer_fits : (P : Verdict → Type 0) → ((v : Verdict) → P v → VerdictFits v) → (j : Judgement) → judged P j
    → refusal_in j < 2 ^ 16 → JudgementFits j
answer_fits P f (Judged v) h s = f v h
answer_fits P f (Refused n) h s = (h, s)

module _ (a b : List ℕ) (K : ℕ) where
  abbrev f : Format
  f = fibre_format a b

  pub word_fits : (w : List ℕ) (j : Judgement) → WordChecked f K w j → JudgementFits j
  word_fits w j x =
      answer_fits (WordVerdict f K (bit w)) (word_verdict_law f (lit< tt) (lit< tt) K (bit w)) j x.verdict
      (told_short (word_order f K w) tt (refusal_in j) x.told)

  pub line_fits : (l : List ℕ) (d : ℕ) (j : Judgement) → LineChecked f K l d j → JudgementFits j
  line_fits l d j x =
      answer_fits (LineVerdict f K l d) (line_verdict f (lit< tt) (lit< tt) K l d) j x.verdict
      (told_short (line_order f K l d) tt (refusal_in j) x.told)

pub coax_check_fits : (k : CoaxCode) (K : ℕ) (w : List ℕ) (j : Judgement) → CoaxChecked k K w j → JudgementFits j
coax_check_fits k K w j x =
    let n = coax_numbers k in
    answer_fits (WordVerdict (coax_format k) K (bit w))
    (word_verdict_law (coax_format k) (omega (arith, n.payload)) (omega (arith, n.size)) K (bit w)) j x.verdict
    (told_short (coax_word_order (coax_format k) K w) tt (refusal_in j) x.told)
