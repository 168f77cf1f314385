-- `running::add_entry` meets its contract: a zero block takes nothing, and any other is added, turned.
use mathlib.Core.Path.{refl}
use Rattle.rules.proofs.Turns.{zero_told}
use Rattle.laws.proofs.Adds.{adds_none}
use Rattle.running.proofs.Blocks.{spot_none}
use Rattle.running.proofs.add_entry.Goals as goal

pub returns-in_default : goal.returns-in_default
returns-in_default c =
    let a = c.args in
    adds_none _ _ (spot_none a.size a.i a.j a.word.now (zero_told c.ranges.a refl c.in_default.ensures).1)
