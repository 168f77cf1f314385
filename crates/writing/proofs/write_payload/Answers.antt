-- `writing::write_payload` meets its contract.
use native.Mathlib.Omega.{arith}
use lib.Seq.{length-take-le}
use mathlib.Core.Path.{refl}
use Rattle.rules.specs.Bits.{bit}
use Rattle.laws.proofs.Bits.{bit<}
use Rattle.writing.proofs.Line.{written_cleared, payload_written}
use Rattle.writing.proofs.write_payload.Goals as goal

pub returns : goal.returns
returns c =
    let needed = c.needed in
    let a = c.args in
    let u = a.payload.now in
    payload_written a.line.now _ _ (λ i. (c.slice_known-2-1.given i).fits) (λ i. (c.slice_known-3-1.given i).fits)
    a.all a.count (bit u) c.requires.0 (bit< u)
    (written_cleared a.all a.line.now _ needed.result needed.ensures (omega arith)
    (rw (c.fill.ensures.after (λ y e. e), length-take-le needed.result a.line.now (omega arith)) refl))
    c.put_first.ensures
