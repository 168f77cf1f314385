-- The code's results, by what they answer: a result is told by its answer alone.
--
--   number_above    the number of a refusal is above 0
--   numbered r      the refusal numbered r, by a default where none is
--   number_single   two refusals with one number are one
--   answer_single   two results that answer alike are equal, where what is done is single
--   judgement_single  the same of a check's results
use mathlib.Core.Path.{◌≡◌, refl, sym, ap, ◌∙◌}
use mathlib.Core.Bool.{cond}
use Prim.Native.Nat.{ℕ, ◌<◌}
use native.Mathlib.Omega.{arith}
use lib.Dec.{eqb, lit<}
use Rattle.std.specs.Prelude.{Result, Ok, Err}
use Rattle.rules.specs.Answers.{number, answer}
use Rattle.rules.specs.Judgements.{Judgement, Judged, judgement}
use Rattle.rules.specs.Judgements as judgements
use Rattle.rules.specs.Promises.{refusal_of, refusal_in}
use Rattle.rules.specs.declared.Refusal.{Refusal}
use Rattle.rules.specs.declared.Refusal.TheVariants as refusal
use Rattle.rules.specs.declared.Verdict.{Verdict}

pub number_above : (r : Refusal) → 0 < number r
number_above refusal.Count = lit< tt
number_above refusal.Bytes = lit< tt
number_above refusal.UnusedBit = lit< tt
number_above refusal.Delimiter = lit< tt
number_above refusal.Room = lit< tt
number_above refusal.TooMany = lit< tt
number_above refusal.State = lit< tt
number_above refusal.Shortened = lit< tt
number_above refusal.Block = lit< tt
number_above refusal.OtherCode = lit< tt
number_above refusal.Lists = lit< tt

pub numbered : ℕ → Refusal
numbered n =
    cond (eqb n 1) refusal.Count (
    cond (eqb n 2) refusal.Bytes (
    cond (eqb n 3) refusal.UnusedBit (
    cond (eqb n 4) refusal.Delimiter (
    cond (eqb n 5) refusal.Room (
    cond (eqb n 6) refusal.TooMany (
    cond (eqb n 7) refusal.State (
    cond (eqb n 8) refusal.Shortened (
    cond (eqb n 10) refusal.Block (
    cond (eqb n 12) refusal.OtherCode (
    refusal.Lists))))))))))

numbered_law : (r : Refusal) → numbered (number r) ≡ r
unfolding numbered
numbered_law refusal.Count = refl
numbered_law refusal.Bytes = refl
numbered_law refusal.UnusedBit = refl
numbered_law refusal.Delimiter = refl
numbered_law refusal.Room = refl
numbered_law refusal.TooMany = refl
numbered_law refusal.State = refl
numbered_law refusal.Shortened = refl
numbered_law refusal.Block = refl
numbered_law refusal.OtherCode = refl
numbered_law refusal.Lists = refl

pub number_single : (r s : Refusal) → number r ≡ number s → r ≡ s
number_single r s e = sym (numbered_law r) ∙ ap numbered e ∙ numbered_law s

pub answer_single : {A : Type 0} → ((a b : A) → a ≡ b) → (x y : Result A Refusal) → answer x ≡ answer y → x ≡ y
answer_single one (Ok a) (Ok b) e = ap Ok (one a b)
answer_single one (Ok a) (Err r) e = absurd (omega (arith, ap refusal_of e, number_above r))
answer_single one (Err r) (Ok b) e = absurd (omega (arith, ap refusal_of e, number_above r))
answer_single one (Err r) (Err s) e = ap Err (number_single r s (ap refusal_of e))

abbrev verdict_or : Verdict → Judgement → Verdict
verdict_or d (Judged v) = v
verdict_or d (judgements.Refused n) = d

pub judgement_single : (x y : Result Verdict Refusal) → judgement x ≡ judgement y → x ≡ y
judgement_single (Ok v) (Ok w) e = ap Ok (ap (verdict_or v) e)
judgement_single (Ok v) (Err r) e = absurd (omega (arith, ap refusal_in e, number_above r))
judgement_single (Err r) (Ok w) e = absurd (omega (arith, ap refusal_in e, number_above r))
judgement_single (Err r) (Err s) e = ap Err (number_single r s (ap refusal_in e))
