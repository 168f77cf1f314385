use borrow.Author.Rules.{rules}
use Prim.Native.Nat.{◌-◌, ◌/◌}
use native.Mathlib.Omega.{arith}
use Rattle.bits.proofs.Moving.{at_place}
use Rattle.bits.proofs.Searching.{clear_more, one_found, one_left, none_left, first_set, none_set}
use Rattle.bits.proofs.first_set.Goals as goal

pub returns-then-number-ne0 : goal.returns-then-number-ne0
returns-then-number-ne0 c =
    let a = c.args in
    let k = c.loop-k.k in
    let here = at_place a.s.now a.from k c.number_at-number.ensures in
    let found =
    one_found _ k c.loop-k.invariant.2 here (a.to - a.from) (search rules) c.if-number-ne0.true c.lowest_one.ensures
    (omega arith) in
    record {
      place = first_set a.s.now a.from a.to c.requires.0 _ _ (omega arith) found;
      below = omega (arith, found.below);
    }

pub loop-k-preserved : goal.loop-k-preserved
loop-k-preserved c =
    let a = c.args in
    let k = c.loop-k.k in (
      search rules,
      search rules,
      clear_more _ k c.loop-k.invariant.2
          (at_place a.s.now a.from k c.number_at-number.ensures) c.if-number-ne0.false,
    )

pub returns-then-place-to : goal.returns-then-place-to
returns-then-place-to c =
    let a = c.args in
    let b = a.to - a.from in
    let here = at_place a.s.now a.from (b / 64) c.rest_at.ensures in
    let found =
    one_left _ b (omega arith) c.loop-k.invariant.2 here c.lowest_one-place.ensures c.if-place-to.true in
    record {
      place = first_set a.s.now a.from a.to c.requires.0 _ _ (omega arith) found;
      below = omega (arith, found.below);
    }

pub returns-clause-place : goal.returns-clause-place
returns-clause-place c =
    let a = c.args in
    let b = a.to - a.from in
    let here = at_place a.s.now a.from (b / 64) c.rest_at.ensures in
    none_set a.s.now a.from a.to c.requires.0
    (none_left _ b (omega arith) c.loop-k.invariant.2 here c.lowest_one-place.ensures c.if-place-to.false)
