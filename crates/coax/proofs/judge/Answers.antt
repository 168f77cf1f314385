-- `coax::judge` meets its contract: a payload fills the payload places, so none is shortened.
use borrow.Author.Rules.{rules}
use mathlib.Core.Path.{◌≡◌, refl, sym, ◌∙◌}
use native.Mathlib.Omega.{arith}
use Rattle.std.specs.Prelude.{None}
use Rattle.rules.specs.Coax.{coax_code}
use Rattle.rules.proofs.CoaxLaws.{coax_fits, coax_numbers}
use Rattle.running.proofs.Failing.{running_bit, failing_counted}
use Rattle.coax.proofs.judge.Goals as goal

pub returns-in_default : goal.returns-in_default
returns-in_default c =
    let a = c.args in
    let n = coax_numbers a.code in
    let k = coax_code a.code in
    let sums = rw c.columns.ensures at c.add_blocks.ensures in
    let are = running_bit k n.some (coax_fits a.code) a.word.now _ _ 225 sums refl (omega (arith, n.size)) in
    let none : c.first_set.result ≡ None = search rules in
    let clear = (rw none at c.first_set.ensures.place).clear in (
      λ m x. omega (arith, x.0, x.1),
      λ m f. omega (arith, clear m (omega arith) (omega (arith, c.checks.ensures, f.0)), are m, f.1),
    )

pub returns : goal.returns
returns c =
    let ones = c.count_ones-count in
    let a = c.args in
    let w = a.word.now in
    let n = coax_numbers a.code in
    let k = coax_code a.code in
    let found = c.in-Some.ensures in
    let sums = rw c.columns.ensures at c.add_blocks.ensures in
    let are = running_bit k n.some (coax_fits a.code) w _ ones.result 225 sums ones.ensures (omega (arith, n.size)) in
    let low = rw c.checks.ensures at found.below in (
      λ m x. omega (arith, x.0, x.1),
      (
        (low, sym (are _) ∙ found.place.set found.below),
        λ m l f. omega (arith, found.place.clear m (omega arith) l, are m, f.1),
      ),
      failing_counted k n.some (coax_fits a.code) w _ ones.result 225 sums ones.ensures (omega (arith, n.size)),
    )
