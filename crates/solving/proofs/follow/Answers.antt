use borrow.Author.Rules.{rules}
use mathlib.Core.Path.{refl}
use native.Mathlib.Omega.{arith}
use Rattle.recipes.proofs.Steps.{followed_none, followed_more}
use Rattle.solving.proofs.follow.Goals as goal

pub loop-number-init : goal.loop-number-init
loop-number-init c =
    let a = c.args in
    (search rules, followed_none a.size a.recipe.now a.registers.now)

pub loop-number-preserved : goal.loop-number-preserved
loop-number-preserved c =
    let a = c.args in (
      search rules,
      followed_more a.size a.recipe.now c.loop-number.number-index _ (omega arith) refl c.loop-number.invariant.1
          (rw (c.from.ensures.0, c.from.ensures.1, c.from.ensures.2) at c.follow.ensures),
    )
