-- Laws of marks.
--
--   tested    whether each place of n has a mark tells whether the entries are a reordering
use mathlib.Core.Path.{◌≡◌, ap, ◌∙◌}
use mathlib.Core.Bool.{Bool}
use mathlib.Core.List.{List}
use mathlib.Core.Logic.{inr}
use Prim.Native.Nat.{ℕ, ◌*◌}
use native.Mathlib.Omega.{arith}
use lib.ListN.{length, get_or}
use Rattle.rules.specs.Lists.{entry_of}
use Rattle.laws.proofs.Reorderings.{named_reorders}
use Rattle.lists.specs.Picked.{Marked, AllMarked, Tested}

pub tested : (n : ℕ) (l m : List ℕ) (r : Bool) → length l ≡ 2 * n → Marked n n l m → AllMarked n m r → Tested n l r
tested n l m r e c a = record {
  listed = λ q. record {
    bytes = e;
    reorders = named_reorders n (entry_of l) (λ p h. c.named p h (a.marked q p h));
  };
  fault = λ q.
      let w = a.unmarked q in
      inr (λ o.
      let t = o.named w.0 w.1 in
      c.marked t.0 t.1 (omega (arith, t.2, w.1)) (ap (λ (p : ℕ). get_or m p 0) t.2 ∙ w.2));
}
