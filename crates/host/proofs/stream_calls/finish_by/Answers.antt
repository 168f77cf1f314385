-- `host::stream_calls::finish_by` meets its contract.
use mathlib.Core.Path.{refl, subst}
use lib.ListN.{length}
use Rattle.rules.specs.Coax.{coax_format, coax_finish_order, CoaxFinished}
use Rattle.rules.specs.Answers.{outcome}
use Rattle.rules.specs.declared.Stream.{Stream}
use Rattle.states.specs.States.{stream_in}
use Rattle.host.proofs.States.{state_refused, state_finish}
use Rattle.host.proofs.stream_calls.finish_by.Goals as goal

pub returns-then-state-ne-BYTES : goal.returns-then-state-ne-BYTES
returns-then-state-ne-BYTES c = state_refused c.args.state.now c.if-state-ne-BYTES.true (refl, refl)

pub returns : goal.returns
returns c =
    let did = c.finish-answered in
    let o = outcome did.result did.new.stream in
    let a = c.args in
    let f = coax_format a.code in
    let q = coax_finish_order f (stream_in a.state.now) (length a.parity.now) in
    let left = did.new.tail in
    state_finish c.if-state-ne-BYTES.false o c.hand_back.ensures q f 0 a.parity.now left
    (subst (λ (t : Stream). CoaxFinished a.code t a.parity.now o left) c.read-stream.ensures
    did.ensures)
