-- `numbers::number_at` meets its contract.
use Rattle.numbers.proofs.Reading.{number_inside}
use Rattle.numbers.proofs.number_at.Goals as goal

pub returns : goal.returns
returns c =
    let a = c.args in
    number_inside a.s.now a.byte a.weight c.requires.1 c.load.ensures c.from.ensures
    c.across.ensures
