use borrow.Author.Rules.{rules, read_above}
use Prim.Native.Nat.{ℕ}
use native.Mathlib.Nat.{le_refl}
use native.Mathlib.Omega.{arith}
use Rattle.laws.proofs.Bits.{bits_more}
use Rattle.lists.proofs.Picking.{kept_byte}
use Rattle.lists.proofs.keep.Goals as goal

pub loop-i-preserved : goal.loop-i-preserved
loop-i-preserved c =
    let l = c.loop-i in
    let a = c.args in (
      search rules,
      search rules,
      bits_more _ l.mask l.i _ (omega arith) l.invariant.2
          (kept_byte a.mask.now a.word.now l.i _ (l.invariant.3 l.i (le_refl _))),
      λ k h. read_above ℕ l.mask l.i k _ 0 _ (omega arith) (l.invariant.3 k (omega arith)),
    )
