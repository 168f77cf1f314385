-- Two lists that change nothing were put at their places.
use Rattle.codes.proofs.Pairs.{plain_joined}
use Rattle.codes.proofs.pair.fill_plain.Goals as goal

pub returns-clause-prefix_len : goal.returns-clause-prefix_len
returns-clause-prefix_len c = (plain_joined _ _ _ _ c.fill_plain.ensures c.fill_plain-2.ensures).0

pub returns-clause-plain_pair : goal.returns-clause-plain_pair
returns-clause-plain_pair c = (plain_joined _ _ _ _ c.fill_plain.ensures c.fill_plain-2.ensures).1
