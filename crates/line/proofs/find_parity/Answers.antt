-- `line::find_parity` meets its contract.
use Rattle.rules.specs.Bits.{bit, need}
use Rattle.rules.specs.Matrix.{checks}
use Rattle.rules.specs.Table.{fibre}
use Rattle.line.proofs.Payload.{piece_parity}
use Rattle.line.proofs.find_parity.Goals as goal

pub returns : goal.returns
returns c =
    let a = c.args in
    let p = c.solve in
    piece_parity a.first.now a.count (bit a.payload.now) c.requires.0 (need (checks fibre))
    c.add_piece.ensures p.ensures
