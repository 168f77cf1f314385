-- Exit statuses by their numbers.
--
--   number_of s   the number of the status s. An answer's own are those of status_of; then come trouble and lost
--   worse a b     of two statuses the one of the greater number
--
-- Nothing here is proved.
use Rattle.std.specs.Prelude.{cond, ℕ, ltb}
use Rattle.answers.specs.Answers.{trouble, lost}
use Rattle.answers.specs.declared.Status.{Status}
use Rattle.answers.specs.declared.Status.TheVariants.{Fine, Wrong, Refused, Trouble, Lost}

abbrev pub number_of : Status → ℕ
number_of Fine = 0
number_of Wrong = 1
number_of Refused = 2
number_of Trouble = trouble
number_of Lost = lost

abbrev pub worse : Status → Status → Status
worse a b = cond (ltb (number_of a) (number_of b)) b a
