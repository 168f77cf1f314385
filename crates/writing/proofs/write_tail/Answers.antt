-- `writing::write_tail` meets its contract.
use mathlib.Core.Path.{refl}
use native.Mathlib.Omega.{arith}
use lib.Seq.{length-take-le}
use Rattle.rules.specs.Bits.{need}
use Rattle.rules.specs.Formats.{fibre_kept}
use Rattle.rules.specs.Words.{tail_bits}
use Rattle.rules.specs.Terms.{by_second}
use Rattle.writing.proofs.Line.{written_cleared, tail_written}
use Rattle.writing.proofs.write_tail.Goals as goal

pub returns : goal.returns
returns c =
    let a = c.args in
    let bits = tail_bits fibre_kept in
    tail_written a.to.now _ _ (λ i. (c.slice_known-2-1.given i).fits) (λ i. (c.slice_known-3-1.given i).fits)
    (by_second a.second.now) a.parity.now a.delimiter
    (written_cleared bits a.to.now _ (need bits) refl (omega arith)
    (rw (c.fill.ensures.after (λ y e. e), length-take-le (need bits) a.to.now (omega arith)) refl))
    c.add_tail.ensures
