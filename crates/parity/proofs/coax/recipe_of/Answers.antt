-- `parity::coax::recipe_of` meets its contract: each constant is its recipe, by computing both.
use borrow.Author.Rules.{rules}
use mathlib.Core.Path.{◌≡◌, refl}
use Rattle.rules.specs.declared.CoaxCode.TheVariants.{Long, Short}
use Rattle.parity.specs.CoaxRecipes.{coax_recipe}
use Rattle.parity.proofs.coax.recipe_of.Goals as goal

pub returns-in-Long : goal.returns-in-Long
unfolding coax_recipe
returns-in-Long c = let e : c.args.code ≡ Long = search rules in rw e refl

pub returns-in-Short : goal.returns-in-Short
unfolding coax_recipe
returns-in-Short c = let e : c.args.code ≡ Short = search rules in rw e refl
