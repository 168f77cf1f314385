-- `coax::write_tail` meets its contract: the parity's bytes, and then those that were there.
use mathlib.Core.Path.{refl}
use Rattle.rules.specs.Coax.{coax_format}
use Rattle.coax.proofs.Joined.{tail_joined}
use Rattle.coax.proofs.write_tail.Goals as goal

pub returns : goal.returns
returns c =
    let p = c.solve.new.parity in (
      p,
      c.solve.ensures,
      rw (c.needed-end.ensures, c.checks.ensures)
          (tail_joined (coax_format c.args.code) p c.args.tail.now 0 (λ t. refl)
          c.solve.ensures.packed c.requires.1
          refl),
    )
