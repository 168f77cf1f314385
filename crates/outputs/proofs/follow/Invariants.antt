-- The path that the links have led to so far lies within its room.
use Rattle.io.specs.Counts.{IsPrefixLen}
use Rattle.outputs.proofs.follow.Given as goal

abbrev pub invariant-loop : goal.invariant-loop
invariant-loop g l = IsPrefixLen l.size l.path
