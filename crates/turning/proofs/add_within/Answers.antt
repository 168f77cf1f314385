-- `turning::add_within` meets its contract.
use mathlib.Core.Path.{refl}
use Rattle.numbers.proofs.Storing.{adds_replaced}
use Rattle.turning.specs.Turning.{part_bits}
use Rattle.turning.proofs.add_within.Goals as goal

pub returns : goal.returns
returns c =
    adds_replaced _ part_bits _ (c.store.ensures _ c.sum.ensures) (λ k l. refl)
