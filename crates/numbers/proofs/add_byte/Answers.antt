-- `numbers::add_byte` meets its contract: an exclusive or of a byte adds its bits.
use Rattle.laws.proofs.Adds.{adds_byte}
use Rattle.numbers.proofs.add_byte.Goals as goal

pub returns : goal.returns
returns c =
    adds_byte c.args.s.now c.args.at c.args.number c.requires
