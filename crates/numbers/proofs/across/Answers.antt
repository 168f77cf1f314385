-- `numbers::across` meets its contract: two shifts that join.
use Rattle.numbers.proofs.Reading.{number_across}
use Rattle.numbers.proofs.across.Goals as goal

pub returns : goal.returns
returns c =
    number_across c.args.low c.args.high c.args.turn c.ranges.low.fits c.requires
