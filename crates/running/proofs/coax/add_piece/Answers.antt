-- `running::coax::add_piece` meets its contract: the blocks that the piece touches hold all of it, in a word that is 0
-- elsewhere.
use Prim.Native.Nat.{◌+◌}
use native.Mathlib.Nat.{zero-add}
use native.Mathlib.Omega.{arith}
use Rattle.rules.specs.Coax.{coax_size, coax_code}
use Rattle.rules.proofs.CoaxLaws.{coax_numbers}
use Rattle.laws.proofs.Running.{checks_as}
use Rattle.running.proofs.Blocks.{blocks_piece}
use Rattle.running.proofs.CoaxBlocks.{piece_first, piece_last, piece_less}
use Rattle.running.proofs.coax.add_piece.Goals as goal

pub returns : goal.returns
returns c =
    let a = c.args in
    let k = a.code in
    let n = coax_numbers k in
    let z = coax_size k in
    let run = simp zero-add at c.add_run.ensures in
    let added = rw (c.div_ceil.ensures, c.size-size.ensures) at c.add_blocks.ensures in
    checks_as (coax_code k)
    (λ m l. blocks_piece z c.add_run.new.s a.piece.now a.held a.count 1800 run _ _
    (piece_less z n.some a.held (a.held + a.count) (omega arith)) (piece_first z n.some a.held)
    (piece_last z n.some (a.held + a.count)) m)
    added
