-- `host::stream_calls::birdovesta_stream_piece` meets its contract.
use mathlib.Core.Path.{refl, subst}
use Rattle.rules.specs.Formats.{fibre_format}
use Rattle.rules.specs.Promises.{PieceTaken}
use Rattle.rules.specs.Answers.{outcome}
use Rattle.rules.specs.declared.Stream.{Stream}
use Rattle.host.proofs.States.{state_refused, state_piece}
use Rattle.host.proofs.stream_calls.birdovesta_stream_piece.Goals as goal

pub returns-then-state-ne-BYTES : goal.returns-then-state-ne-BYTES
returns-then-state-ne-BYTES c = state_refused c.args.state.now c.if-state-ne-BYTES.true refl

pub returns : goal.returns
returns c =
    let did = c.piece-answered in
    let o = outcome did.result did.new.stream in
    let a = c.args in
    let f = fibre_format a.first.now a.second.now in
    state_piece c.if-state-ne-BYTES.false o c.hand_back.ensures f a.bits a.piece.now
    (subst (λ (t : Stream). PieceTaken f a.bits a.piece.now t o) c.read-stream.ensures did.ensures)
