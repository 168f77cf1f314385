-- `line::write` meets its contract.
use Rattle.rules.specs.Bits.{bit}
use Rattle.rules.specs.Formats.{fibre_format}
use Rattle.laws.proofs.Bits.{bit<}
use Rattle.writing.proofs.Line.{line_written}
use Rattle.line.proofs.write.Goals as goal

pub returns : goal.returns
returns c =
    let a = c.args in
    let u = a.payload.now in
    let p = c.find_parity-parity.result in (
      p,
      c.find_parity-parity.ensures,
      line_written a.line.now _ _ (λ i. (c.slice_known-2-1.given i).fits) (λ i. (c.slice_known-3-1.given i).fits)
          (fibre_format a.first.now a.second.now) p a.delimiter a.count (bit u) (bit< u)
          c.write_payload.ensures c.add_tail.ensures,
    )
