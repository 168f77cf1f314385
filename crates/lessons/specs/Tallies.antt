-- How many of what was tried is right, and how many wrong, as far as a usize can count; and the worst exit status of
-- the lines said on the way.
--
--   none           0 right and 0 wrong
--   one_more n     n + 1, but 2^64 - 1 stays
--   counted t b s  t with one more right where b is true, else with one more wrong; its line was said with status s
--
-- Nothing here is proved.
use Rattle.std.specs.Prelude.{Bool, true, false, cond, ℕ, ◌+◌, ◌-◌, ◌^◌, ltb}
use Rattle.answers.specs.Statuses.{worse}
use Rattle.answers.specs.declared.Status.{Status}
use Rattle.answers.specs.declared.Status.TheVariants.{Fine}
use Rattle.lessons.specs.declared.tally.Tally.{Tally}

abbrev pub none : Tally
none = record { right = 0; wrong = 0; status = Fine }

abbrev pub one_more : ℕ → ℕ
one_more n = cond (ltb n (2 ^ 64 - 1)) (n + 1) n

abbrev pub counted : Tally → Bool → Status → Tally
counted t true s = record { right = one_more t.right; wrong = t.wrong; status = worse t.status s }
counted t false s = record { right = t.right; wrong = one_more t.wrong; status = worse t.status s }
