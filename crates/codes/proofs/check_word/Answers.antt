-- The lists that the check is lent are those of the pair.
use Rattle.codes.proofs.check_word.Goals as goal

pub returns : goal.returns
returns c = rw (← c.split.ensures.first, ← c.split.ensures.second) c.check.ensures
