-- `refusals::shortened_set` meets its contract.
use mathlib.Core.Path.{refl}
use mathlib.Core.Logic.{inl, inr}
use native.Mathlib.Omega.{arith}
use Rattle.lists.proofs.Shortened.{shortened_lowest, shortened_nowhere}
use Rattle.refusals.proofs.shortened_set.Goals as goal

pub returns-in-Some : goal.returns-in-Some
returns-in-Some c =
    let found = c.in-Some.ensures in
    inl ((_, (shortened_lowest found.place found.below).0), refl)

pub returns-in-None : goal.returns-in-None
returns-in-None c = inr (λ s. shortened_nowhere c.in-None.ensures.place (omega arith) s.0 s.1, refl)
