-- `numbers::ones_in` meets its contract.
use Rattle.laws.proofs.Numbers.{ones_digits}
use Rattle.numbers.proofs.ones_in.Goals as goal

pub returns : goal.returns
returns c = ones_digits 64 c.args.number c.ranges.number.fits
