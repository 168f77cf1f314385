-- `lists::first_shortened` meets its contract.
use Rattle.rules.specs.Bits.{need}
use Rattle.rules.specs.Matrix.{places_of_payload}
use Rattle.rules.specs.Table.{fibre}
use Rattle.lists.proofs.Picking.{shortened}
use Rattle.lists.proofs.first_shortened.Goals as goal

pub returns-clause-place : goal.returns-clause-place
returns-clause-place c =
    shortened (need (places_of_payload fibre)) c.args.count c.requires.2 c.add_run.ensures
    c.pick.ensures c.keep.ensures c.first_set.ensures.place
