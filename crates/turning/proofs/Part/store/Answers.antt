-- `turning::Part::store` meets its contract: four quarters stored, one after the other.
use Rattle.turning.proofs.Quarters.{part_stored}
use Rattle.turning.proofs.Part.store.Goals as goal

pub returns : goal.returns
returns c =
    let a = c.args in
    part_stored a.at a.self c.store.ensures c.store-2.ensures c.store-3.ensures
    c.store-4.ensures
