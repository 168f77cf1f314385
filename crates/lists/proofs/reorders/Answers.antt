-- `lists::reorders` meets its contract.
use Rattle.lists.proofs.Marking.{tested}
use Rattle.lists.proofs.reorders.Goals as goal

pub returns : goal.returns
returns c =
    tested _ _ _ _ c.if-list-places.false c.mark.ensures c.all_marked.ensures
