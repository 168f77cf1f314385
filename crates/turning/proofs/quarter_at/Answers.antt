-- `turning::quarter_at` meets its contract.
use Rattle.turning.proofs.Quarters.{quarter_turned}
use Rattle.turning.proofs.quarter_at.Goals as goal

pub returns : goal.returns
returns c =
    let a = c.args in
    quarter_turned a.s.now a.from a.turn a.index c.load-low.ensures
    c.load-high.ensures c.across.ensures
