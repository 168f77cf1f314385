-- `refusals::unused_set` meets its contract.
use mathlib.Core.Path.{refl}
use mathlib.Core.Logic.{inl, inr}
use native.Mathlib.Omega.{arith}
use Rattle.refusals.proofs.Unused.{unused_found, unused_clear}
use Rattle.refusals.proofs.unused_set.Goals as goal

pub returns-in-Some : goal.returns-in-Some
returns-in-Some c l =
    let found = c.in-Some.ensures in
    inl (unused_found c.args.s.now c.args.count l (omega arith) found.place found.below, refl)

pub returns-in-None : goal.returns-in-None
returns-in-None c l =
    inr (unused_clear c.args.s.now c.args.count l (omega arith) c.in-None.ensures.place (omega arith), refl)
