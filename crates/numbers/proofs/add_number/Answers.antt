-- `numbers::add_number` meets its contract: eight bytes stored, and a ninth added to.
use mathlib.Core.Path.{refl}
use Rattle.numbers.proofs.Reading.{number_sum}
use Rattle.numbers.proofs.Storing.{adds_inside}
use Rattle.numbers.proofs.add_number.Goals as goal

pub returns : goal.returns
returns c =
    let a = c.args in
    adds_inside a.s.now a.byte a.weight a.number c.requires.1 c.ranges.number.fits
    c.store.ensures
    (number_sum c.load.ensures record { each = λ k h. refl }) c.add_byte.ensures
