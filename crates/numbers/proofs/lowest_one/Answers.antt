-- `numbers::lowest_one` meets its contract.
use lib.Count.{trailing_le}
use Rattle.laws.proofs.Numbers.{trailing_clear, trailing_set}
use Rattle.numbers.proofs.lowest_one.Goals as goal

pub returns : goal.returns
returns c =
    let x = c.args.number in
    record { high = trailing_le 64 x; clear = trailing_clear 64 x; set = trailing_set 64 x }
