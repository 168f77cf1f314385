-- It tells what the refusal of lists does.
use borrow.Author.Rules.{rules}
use mathlib.Core.Path.{◌≡◌, refl, ap}
use mathlib.Core.Logic.{inl, inr, ⊎_elim}
use mathlib.Core.List.{[]}
use native.Mathlib.Omega.{arith}
use Rattle.rules.specs.Answers.{told}
use Rattle.rules.specs.Refusals.{tells, of_lists}
use Rattle.laws.proofs.Lent.{lent_left}
use Rattle.laws.proofs.Results.{number_above, number_single}
use Rattle.rules.specs.declared.Refusal.TheVariants as refusal
use Rattle.answers.specs.declared.Said.TheVariants.{Refused}
use Rattle.codes.specs.Codes.{fibre_in}
use Rattle.codes.proofs.pair.answer.Goals as goal

pub returns-in-Ok : goal.returns-in-Ok
returns-in-Ok c =
    let asked : tells (of_lists (fibre_in c.args.pair.now)) (told c.bad_lists.result) =
    rw (← c.split.ensures.first, ← c.split.ensures.second) c.bad_lists.ensures in
    let none : told c.bad_lists.result ≡ 0 = search rules in
    let fit = (lent_left (fibre_in c.args.pair.now) [] none asked).0 in
    inl (refl, fit.0, fit.1)

pub returns-in-Err : goal.returns-in-Err
returns-in-Err c =
    let asked : tells (of_lists (fibre_in c.args.pair.now)) (told c.bad_lists.result) =
    rw (← c.split.ensures.first, ← c.split.ensures.second) c.bad_lists.ensures in
    let why = c.in-Err.refusal in
    ⊎_elim (λ bad. inr (ap Refused (number_single why refusal.Lists bad.1), bad.0))
    (λ none. absurd (omega (arith, none.1, number_above why))) (rw c.in-Err.is at asked)
