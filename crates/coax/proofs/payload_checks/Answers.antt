-- `coax::payload_checks` meets its contract: the running checks of the payload's blocks are its checks.
use mathlib.Core.Path.{◌∙◌}
use Prim.Native.Nat.{◌-◌}
use Rattle.rules.specs.Coax.{coax_size, coax_columns, coax_code}
use Rattle.rules.proofs.Checks.{check_same}
use Rattle.laws.proofs.Running.{checks_again}
use Rattle.running.proofs.Blocks.{first_blocks}
use Rattle.coax.proofs.payload_checks.Goals as goal

pub returns : goal.returns
returns c n =
    let a = c.args in
    let k = coax_code a.code in
    checks_again k _ 225 (rw c.columns.ensures at c.add_blocks.ensures) n
    ∙ check_same k n _ _ (λ p l. first_blocks (coax_size a.code) a.payload.now (coax_columns a.code - 5) p)
