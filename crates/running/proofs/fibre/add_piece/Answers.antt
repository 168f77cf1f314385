-- `running::fibre::add_piece` meets its contract: the piece stands alone among the outer places, and all inner ones are
-- added.
use mathlib.Core.Path.{refl}
use native.Mathlib.Nat.{zero-add}
use native.Mathlib.Omega.{arith}
use Rattle.rules.specs.Bits.{bit, need, placed}
use Rattle.rules.specs.Matrix.{places_of_payload}
use Rattle.rules.specs.Table.{fibre}
use Rattle.laws.proofs.Runs.{placed_above}
use Rattle.laws.proofs.Running.{checks_as}
use Rattle.running.proofs.Blocks.{piece_bit}
use Rattle.running.proofs.Inner.{inner_blocks}
use Rattle.running.proofs.fibre.add_piece.Goals as goal

pub returns : goal.returns
returns c =
    let a = c.args in
    let run = simp zero-add at c.add_run.ensures in
    let x = placed a.held a.count (bit a.piece.now) in
    checks_as fibre
    (λ n l. inner_blocks x refl c.pick.ensures
    (piece_bit fibre.size _ a.piece.now a.held a.count (need (places_of_payload fibre)) run)
    (λ n h. placed_above a.held a.count (bit a.piece.now) n (omega arith)) n)
    c.add_blocks.ensures
