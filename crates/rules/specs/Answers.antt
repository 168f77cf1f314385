-- What an operation answers, by the numbers of paper 01, 'Refusal numbers'; and what the code's results say of that.
--
--   Answer        what an operation that writes answers: it is done, or it is refused by a number
--   number r      the paper's number of the refusal r
--   told x        the number of the refusal that a result is, 0 where it is none
--   answer x      what the result x of an operation that writes answers
--   Outcome       what a stream's operation answers, with the stream that it leaves
--   outcome x t   the outcome of the result x that leaves the stream t
--
-- Believe this file beside the papers; nothing here is proved.
use Rattle.std.specs.Prelude.{ℕ, Result, Ok, Err}
use Rattle.rules.specs.declared.Refusal.{Refusal}
use Rattle.rules.specs.declared.Refusal.TheVariants as refusal
use Rattle.rules.specs.declared.Stream.{Stream}

pub data Answer : Type 0 where
  Done : Answer
  Refused : ℕ → Answer

abbrev pub number : Refusal → ℕ
number refusal.Count = 1
number refusal.Bytes = 2
number refusal.UnusedBit = 3
number refusal.Delimiter = 4
number refusal.Room = 5
number refusal.TooMany = 6
number refusal.State = 7
number refusal.Shortened = 8
number refusal.Block = 10
number refusal.OtherCode = 12
number refusal.Lists = 16

abbrev pub told : {A : Type 0} → Result A Refusal → ℕ
told (Ok x) = 0
told (Err r) = number r

abbrev pub answer : {A : Type 0} → Result A Refusal → Answer
answer (Ok x) = Done
answer (Err r) = Refused (number r)

pub record Outcome : Type 0 where
  pub answer : Answer
  pub stream : Stream

abbrev pub outcome : {A : Type 0} → Result A Refusal → Stream → Outcome
outcome x t = record { answer = answer x; stream = t }
