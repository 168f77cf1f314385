-- `turning::Part::sum` meets its contract: four quarters, each with its sum.
use Rattle.turning.proofs.Quarters.{part_summed}
use Rattle.turning.proofs.Part.sum.Goals as goal

pub returns : goal.returns
returns c =
    let a = c.args in
    part_summed a.sums.now a.at _ c.load.ensures c.quarter_at.ensures c.load-2.ensures
    c.quarter_at-2.ensures c.load-3.ensures c.quarter_at-3.ensures c.load-4.ensures
    c.quarter_at-4.ensures
