use borrow.Author.Rules.{rules}
use mathlib.Core.Path.{refl, ◌∙◌}
use Prim.Native.Nat.{◌+◌, ◌*◌}
use native.Mathlib.Omega.{arith}
use lib.ListN.{length}
use Rattle.rules.specs.Matrix.{total}
use Rattle.bits.proofs.OnesLaws.{ones_more, ones_all, ones_below}
use Rattle.bits.proofs.count_ones.Goals as goal

pub loop-k-init : goal.loop-k-init
unfolding total
loop-k-init c = (search rules, search rules, refl)

pub overflow_add-count : goal.overflow_add-count
overflow_add-count c =
    let s = c.args.s.now in
    let k = c.loop-k.k in
    let more = ones_more s k c.loop-k.count _ c.loop-k.invariant.2 (omega arith) c.load.ensures
    c.ones_in-count.ensures in
    omega (arith, more, ones_below s (64 * (k + 1)), c.requires)

pub loop-k-preserved : goal.loop-k-preserved
loop-k-preserved c =
    let s = c.args.s.now in (
      search rules,
      search rules,
      ones_more s c.loop-k.k c.loop-k.count _ c.loop-k.invariant.2 (omega arith) c.load.ensures
          c.ones_in-count.ensures,
    )

-- the rest reaches past the end, so with it all ones are counted
pub returns : goal.returns
returns c =
    let s = c.args.s.now in
    let k = c.loop-k.k in
    ones_more s k c.loop-k.count _ c.loop-k.invariant.2 (omega arith) c.rest_at.ensures c.ones_in.ensures
    ∙ ones_all s (64 * (k + 1)) (omega arith)

pub overflow_add-result : goal.overflow_add-result
overflow_add-result c =
    let s = c.args.s.now in
    let k = c.loop-k.k in
    let counted =
    ones_more s k c.loop-k.count _ c.loop-k.invariant.2 (omega arith) c.rest_at.ensures c.ones_in.ensures
    ∙ ones_all s (64 * (k + 1)) (omega arith) in
    omega (arith, counted, ones_below s (8 * length s), c.requires)
