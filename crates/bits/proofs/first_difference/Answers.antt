use borrow.Author.Rules.{rules}
use Prim.Native.Nat.{◌+◌, ◌/◌}
use native.Mathlib.Omega.{arith}
use lib.Bits.{xor_lt}
use Rattle.laws.proofs.Bits.{bit<}
use Rattle.numbers.proofs.Reading.{number_sum}
use Rattle.bits.proofs.Moving.{at_place}
use Rattle.bits.proofs.Searching.{clear_more, one_found, one_left, none_left, first_different, none_different}
use Rattle.bits.proofs.first_difference.Goals as goal

pub returns-then-number-ne0 : goal.returns-then-number-ne0
returns-then-number-ne0 c =
    let a = c.args in
    let k = c.loop-k.k in
    let here = at_place a.s.now a.at k c.number_at.ensures in
    let there = at_place a.other.now a.start k c.number_at-in-loop-k.ensures in
    let small = xor_lt 64 c.number_at.result c.number_at-in-loop-k.result (search rules) (search rules) in
    let found =
    one_found _ k c.loop-k.invariant.2 (number_sum here there) a.count small c.if-number-ne0.true c.lowest_one.ensures
    (omega arith) in
    record {
      place = first_different _ _ (λ n. bit< a.s.now (a.at + n)) (λ n. bit< a.other.now (a.start + n)) a.count _ found;
      below = found.below;
    }

pub loop-k-preserved : goal.loop-k-preserved
loop-k-preserved c =
    let a = c.args in
    let k = c.loop-k.k in
    let here = at_place a.s.now a.at k c.number_at.ensures in
    let there = at_place a.other.now a.start k c.number_at-in-loop-k.ensures in
    (search rules, search rules, clear_more _ k c.loop-k.invariant.2 (number_sum here there) c.if-number-ne0.false)

pub returns-then-place-count : goal.returns-then-place-count
returns-then-place-count c =
    let a = c.args in
    let here = at_place a.s.now a.at (a.count / 64) c.rest_at.ensures in
    let there = at_place a.other.now a.start (a.count / 64) c.rest_at-2.ensures in
    let found =
    one_left _ a.count (omega arith) c.loop-k.invariant.2 (number_sum here there) c.lowest_one-place.ensures
    c.if-place-count.true in
    record {
      place = first_different _ _ (λ n. bit< a.s.now (a.at + n)) (λ n. bit< a.other.now (a.start + n)) a.count _ found;
      below = found.below;
    }

pub returns-clause-place : goal.returns-clause-place
returns-clause-place c =
    let a = c.args in
    let here = at_place a.s.now a.at (a.count / 64) c.rest_at.ensures in
    let there = at_place a.other.now a.start (a.count / 64) c.rest_at-2.ensures in
    none_different _ _ (λ n. bit< a.s.now (a.at + n)) (λ n. bit< a.other.now (a.start + n)) a.count
    (none_left _ a.count (omega arith) c.loop-k.invariant.2 (number_sum here there) c.lowest_one-place.ensures
    c.if-place-count.false)
