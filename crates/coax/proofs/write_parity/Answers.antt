-- `coax::write_parity` meets its contract: the parity is the payload's, and stands after it.
use Prim.Native.Nat.{◌/◌}
use Rattle.rules.specs.Bits.{bit}
use Rattle.rules.specs.Matrix.{places_of_payload}
use Rattle.rules.specs.Coax.{coax_code}
use Rattle.laws.proofs.Bits.{mid_rest}
use Rattle.laws.proofs.Parities.{payload_parity}
use Rattle.coax.proofs.write_parity.Goals as goal

pub returns : goal.returns
returns c =
    let a = c.args in
    let k = coax_code a.code in
    let p = c.solve.new.parity in (
      p,
      payload_parity k (bit a.word.now) _ p (λ n h. c.payload_checks-sums.ensures n)
          c.solve.ensures,
      rw c.payload_places-front.ensures (mid_rest a.word.now p (places_of_payload k / 8)),
    )
