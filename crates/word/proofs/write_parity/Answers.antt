-- `word::write_parity` meets its contract: the parity is the payload's, and stands after it.
use Prim.Native.Nat.{◌-◌, ◌/◌}
use Rattle.rules.specs.Bits.{bit, need}
use Rattle.rules.specs.Matrix.{checks, places_of_payload}
use Rattle.rules.specs.Table.{fibre}
use Rattle.laws.proofs.Bits.{mid_rest}
use Rattle.laws.proofs.Parities.{payload_found}
use Rattle.running.proofs.Blocks.{first_blocks}
use Rattle.word.proofs.write_parity.Goals as goal

pub returns : goal.returns
returns c =
    let w = c.args.word.now in
    let s = c.add_blocks in
    let p = c.solve in (
      p.new.parity,
      payload_found fibre (bit w) _ (need (checks fibre)) s.new.sums p.new.parity s.ensures
          (λ n l. first_blocks fibre.size w (fibre.columns - fibre.rows) n) p.ensures,
      mid_rest w p.new.parity (places_of_payload fibre / 8),
    )
