-- `rules::fibre::entry_at` meets its contract: it reads the table of the definitions.
use Rattle.std.proofs.Common.{arith}
use Rattle.rules.specs.Table.{fibre}
use Rattle.rules.proofs.TableLaws.{fibre_fits, entry_read}
use Rattle.rules.proofs.fibre.entry_at.Goals as goal

pub returns : goal.returns
returns c = rw c.table.ensures (entry_read fibre fibre_fits c.args.i c.args.j (omega arith) (omega arith))
