-- What a check answers, by the numbers of paper 01, 'Refusal numbers' and 'Verdicts'; and what the code's result says
-- of that.
--
--   Judgement     what a check answers: its verdict, or a refusal's number
--   judgement x   what the result x of a check answers
--
-- Believe this file beside the paper; nothing here is proved.
use Rattle.std.specs.Prelude.{ℕ, Result, Ok, Err}
use Rattle.rules.specs.Answers.{number}
use Rattle.rules.specs.declared.Refusal.{Refusal}
use Rattle.rules.specs.declared.Verdict.{Verdict}

pub data Judgement : Type 0 where
  Judged : Verdict → Judgement
  Refused : ℕ → Judgement

abbrev pub judgement : Result Verdict Refusal → Judgement
judgement (Ok v) = Judged v
judgement (Err r) = Refused (number r)
