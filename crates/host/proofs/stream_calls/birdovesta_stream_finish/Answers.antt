-- `host::stream_calls::birdovesta_stream_finish` meets its contract.
use mathlib.Core.Path.{refl, subst}
use lib.ListN.{length}
use Rattle.rules.specs.Formats.{fibre_format}
use Rattle.rules.specs.Refusals.{finish_order}
use Rattle.rules.specs.Promises.{Finished}
use Rattle.rules.specs.Answers.{outcome}
use Rattle.rules.specs.declared.Stream.{Stream}
use Rattle.states.specs.States.{stream_in}
use Rattle.host.proofs.States.{state_refused, state_finish}
use Rattle.host.proofs.stream_calls.birdovesta_stream_finish.Goals as goal

pub returns-then-state-ne-BYTES : goal.returns-then-state-ne-BYTES
returns-then-state-ne-BYTES c = state_refused c.args.state.now c.if-state-ne-BYTES.true (refl, refl)

pub returns : goal.returns
returns c =
    let did = c.finish-answered in
    let o = outcome did.result did.new.stream in
    let a = c.args in
    let f = fibre_format a.first.now a.second.now in
    let q = finish_order f (stream_in a.state.now) a.delimiter (length a.tail.now) in
    let left = did.new.tail in
    state_finish c.if-state-ne-BYTES.false o c.hand_back.ensures q f a.delimiter
    a.tail.now left
    (subst (λ (t : Stream). Finished f a.delimiter t a.tail.now o left) c.read-stream.ensures
    did.ensures)
