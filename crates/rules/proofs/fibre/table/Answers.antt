-- `rules::fibre::table` meets its contract: the constant of the code is the table of the definitions.
use Rattle.std.proofs.Common.{refl}
use Rattle.rules.specs.Table.{lines}
use Rattle.rules.proofs.fibre.table.Goals as goal

pub returns : goal.returns
unfolding lines
returns c = refl
