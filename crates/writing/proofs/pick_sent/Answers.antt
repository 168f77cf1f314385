-- `writing::pick_sent` meets its contract.
use mathlib.Core.Path.{sym, ap, ◌∙◌}
use native.Mathlib.Omega.{arith}
use Rattle.rules.specs.Bits.{bit}
use Rattle.rules.specs.Matrix.{checks}
use Rattle.rules.specs.Table.{fibre}
use Rattle.laws.proofs.Reorderings.{place_low}
use Rattle.writing.proofs.pick_sent.Goals as goal

pub returns : goal.returns
returns c n l =
    let a = c.args in
    c.pick.ensures.each n (omega arith)
    ∙ ap (bit a.parity.now) (sym (place_low (checks fibre) a.second.now n (omega arith)))
