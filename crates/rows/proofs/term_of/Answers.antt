-- `rows::term_of` meets its contract: a zero block adds nothing, and any other the bit that its turn points to.
use mathlib.Core.Path.{◌∙◌}
use Rattle.rules.specs.Matrix.{entry}
use Rattle.rules.specs.Terms.{through}
use Rattle.rules.proofs.Turns.{turn_told, zero_told}
use Rattle.rows.proofs.term_of.Goals as goal

pub returns-in_default : goal.returns-in_default
unfolding through entry
returns-in_default c =
    rw (zero_told c.ranges.a c.requires.3 c.in_default.ensures).1

pub returns : goal.returns
unfolding through entry
returns c =
    c.bit_at.ensures ∙ rw (turn_told c.ranges.a c.requires.3 c.in-Ok.ensures)
