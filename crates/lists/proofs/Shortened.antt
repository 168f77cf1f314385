-- What the functions on lists ask and promise, for a list that is a reordering, in the words of the papers.
--
--   listed_names                         each entry of a list of n places names one of them
--   shortened_lowest, shortened_nowhere  the search of the shortened places of the fibre code
use mathlib.Core.Path.{sym, subst}
use mathlib.Core.List.{List}
use Prim.Native.Nat.{ℕ, ◌≤◌, ◌<◌}
use native.Mathlib.Omega.{arith}
use Rattle.rules.specs.Bits.{bit}
use Rattle.rules.specs.Lists.{Listed}
use Rattle.rules.specs.Matrix.{places_of_payload}
use Rattle.rules.specs.Table.{fibre}
use Rattle.rules.specs.Verdicts.{Lowest, Nowhere, ShortenedSet}
use Rattle.rules.specs.Terms.{by_first}
use Rattle.laws.proofs.Reorderings.{place_low}
use Rattle.lists.specs.Picked.{Names, FirstShortened}

-- the first k of n entries
pub listed_names : {n : ℕ} {l : List ℕ} → Listed n l → (k m : ℕ) → k ≤ n → n ≤ m → Names l k m
listed_names h k m less more = record {
  long = omega (arith, h.bytes);
  below = λ t i. omega (arith, h.reorders.below t (omega arith));
}

module _ {a w : List ℕ} {K p : ℕ} (f : FirstShortened (places_of_payload fibre) K a w p) where
  abbrev all : ℕ
  all = places_of_payload fibre

  pub shortened_lowest : p < all → Lowest (ShortenedSet (by_first a) K (bit w)) p
  shortened_lowest h = (
    (subst (λ (n : ℕ). K ≤ n) (sym (place_low all a p h)) (f.set h).0, h, (f.set h).1),
    λ m l s. omega (arith, f.clear m l (subst (λ (n : ℕ). K ≤ n) (place_low all a m s.1) s.0), s.2),
  )

  pub shortened_nowhere : all ≤ p → Nowhere (ShortenedSet (by_first a) K (bit w))
  shortened_nowhere h n s =
      omega (
        arith,
        f.clear n (omega (arith, s.1)) (subst (λ (n : ℕ). K ≤ n) (place_low all a n s.1) s.0),
        s.2,
      )
