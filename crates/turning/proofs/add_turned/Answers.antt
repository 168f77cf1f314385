-- `turning::add_turned` meets its contract.
use mathlib.Core.Path.{refl}
use Rattle.rules.specs.Bits.{zeros}
use Rattle.laws.proofs.Runs.{run_none}
use Rattle.laws.proofs.Adds.{adds_as}
use Rattle.numbers.proofs.Storing.{adds_replaced}
use Rattle.turning.specs.Turning.{part_bits}
use Rattle.turning.proofs.add_turned.Goals as goal

pub returns : goal.returns
returns c =
    adds_as (run_none zeros _)
    (adds_replaced 0 part_bits _ (c.store.ensures _ c.sum.ensures) (λ k l. refl))
