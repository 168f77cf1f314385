-- What the bytes passed so far spell.
use Rattle.console.proofs.Spelling.{Begun}
use Rattle.console.proofs.decimals.read.Given as goal

abbrev pub invariant-loop-byte : goal.invariant-loop-byte
invariant-loop-byte l = Begun l.byte-index l.text l.number
