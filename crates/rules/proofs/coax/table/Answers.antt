-- `rules::coax::table` meets its contract: each constant of the code is the print, on its side.
use Rattle.std.proofs.Common.{refl}
use Rattle.rules.specs.CoaxTables.{long_lines, short_lines}
use Rattle.rules.proofs.coax.table.Goals as goal

pub returns-in-Long : goal.returns-in-Long
unfolding long_lines
returns-in-Long c = rw c.in-Long.is refl

pub returns-in-Short : goal.returns-in-Short
unfolding short_lines
returns-in-Short c = rw c.in-Short.is refl
