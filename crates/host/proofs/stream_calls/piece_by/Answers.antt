-- `host::stream_calls::piece_by` meets its contract.
use mathlib.Core.Path.{refl, subst}
use Rattle.rules.specs.Coax.{coax_format}
use Rattle.rules.specs.Promises.{PieceTaken}
use Rattle.rules.specs.Answers.{outcome}
use Rattle.rules.specs.declared.Stream.{Stream}
use Rattle.host.proofs.States.{state_refused, state_piece}
use Rattle.host.proofs.stream_calls.piece_by.Goals as goal

pub returns-then-state-ne-BYTES : goal.returns-then-state-ne-BYTES
returns-then-state-ne-BYTES c = state_refused c.args.state.now c.if-state-ne-BYTES.true refl

pub returns : goal.returns
returns c =
    let did = c.piece-answered in
    let o = outcome did.result did.new.stream in
    let a = c.args in
    let f = coax_format a.code in
    state_piece c.if-state-ne-BYTES.false o c.hand_back.ensures f a.bits a.piece.now
    (subst (λ (t : Stream). PieceTaken f a.bits a.piece.now t o) c.read-stream.ensures did.ensures)
