-- `coax::write` meets its contract: the payload's bytes, then the parity's, and then those that were there.
use mathlib.Core.Path.{◌≡◌, refl}
use Prim.Native.Nat.{◌-◌}
use native.Mathlib.Omega.{arith}
use lib.ListN.{length}
use Rattle.rules.specs.Bits.{bit, need}
use Rattle.rules.specs.Matrix.{checks}
use Rattle.rules.specs.Coax.{coax_code, coax_format}
use Rattle.rules.proofs.CoaxLaws.{coax_numbers}
use Rattle.laws.proofs.Parities.{payload_parity, parity_filled}
use Rattle.coax.proofs.Joined.{line_joined}
use Rattle.coax.proofs.write.Goals as goal

pub returns : goal.returns
returns c =
    let a = c.args in
    let u = a.payload.now in
    let n = coax_numbers a.code in
    let k = coax_code a.code in
    let p = c.solve.new.parity in
    let rest : c.needed-end.result - length u ≡ need (checks k) = omega (arith, n.parts, n.whole) in (
      p,
      parity_filled k a.count (omega arith)
          (payload_parity k (bit u) _ p (λ m h. c.payload_checks-sums.ensures m) c.solve.ensures),
      rw (c.copy.ensures, rest)
          (line_joined u p a.word.now (length u) (checks k) refl c.solve.ensures.packed
          (omega (arith, n.parts, n.whole)) (coax_format a.code) a.count 0 (λ t. refl)
          (omega (arith, n.whole)) refl refl),
    )
