-- Laws of an order that begins with the refusal of the lists that are lent, 16: it says what the rest of the order
-- does, where these lists are reorderings. Any format, with lists or without.
--
--   not_bad           a list that is one has no fault
--   lent_passes       every number of the order passes a test, if 16 and every number of the rest does
--   lent_numbered     so every number of the order is above 0, if every number of the rest is
--   lent_left         where none is told, the lists fit, and none of the rest is told
--   lent_not          so that no refusal of the rest applies, wherever it stands
--   lent_told         where the lists fit, what the rest tells is told
--   lent_rest         and what is told, the rest tells
use mathlib.Core.Path.{◌≡◌, refl}
use mathlib.Core.Bool.{Bool, true}
use mathlib.Core.Logic.{inl, inr, ⊎_elim}
use mathlib.Core.List.{List, ◌++◌}
use Prim.Native.Nat.{ℕ}
use native.Mathlib.Omega.{arith}
use lib.Dec.{T, ltb}
use Rattle.rules.specs.Matrix.{checks, places_of_payload}
use Rattle.rules.specs.Lists.{Listed, Lists, none, pair, AreListed}
use Rattle.rules.specs.Formats.{Format}
use Rattle.rules.specs.Refusals.{Refusal, tells, BadList, bad_lists, of_lists}
use Rattle.rules.specs.Asked.{ListsFit}
use Rattle.laws.proofs.Told.{refusal_of_law, numbers_pass, numbered, not_refused}
use Rattle.laws.proofs.Reorderings.{listed_sound}

listed : (n : ℕ) (l : List ℕ) → (BadList n l → ⊥) → Listed n l
listed n l bad = listed_sound n l (λ d. bad (inl d)) (λ d. bad (inr d))

pub not_bad : (n : ℕ) (l : List ℕ) → Listed n l → BadList n l → ⊥
not_bad n l h = ⊎_elim (λ d. d h.bytes) (λ d. d h.reorders)

-- lists of n and of m places, and the order o after their refusal
module _ (n m : ℕ) (o : List Refusal) where
  passes_by : (g : ℕ → Bool) → g 16 ≡ true → (v : Lists) → T (numbers_pass g o)
      → T (numbers_pass g (bad_lists n m v ++ o))
  passes_by g s none h = h
  passes_by g s (pair a b) h = rw s h

  left_by : (v : Lists) {r : ℕ} → r ≡ 0 → tells (bad_lists n m v ++ o) r → AreListed n m v × tells o r
  left_by none e t = (tt, t)
  left_by (pair a b) e t =
      ⊎_elim (λ x. absurd (omega (arith, x.1)))
      (λ x. ((listed n a (λ d. x.0 (inl d)), listed m b (λ d. x.0 (inr d))), x.1)) t

  told_by : (v : Lists) (r : ℕ) → AreListed n m v → tells o r → tells (bad_lists n m v ++ o) r
  told_by none r fit t = t
  told_by (pair a b) r fit t = inr (⊎_elim (not_bad n a fit.0) (not_bad m b fit.1), t)

  rest_by : (v : Lists) (r : ℕ) → AreListed n m v → tells (bad_lists n m v ++ o) r → tells o r
  rest_by none r fit t = t
  rest_by (pair a b) r fit t =
      ⊎_elim (λ x. absurd (⊎_elim (not_bad n a fit.0) (not_bad m b fit.1) x.0)) (λ x. x.1) t

module _ (f : Format) (o : List Refusal) where
  pub lent_passes : (g : ℕ → Bool) → g 16 ≡ true → T (numbers_pass g o) → T (numbers_pass g (of_lists f ++ o))
  lent_passes g s = passes_by (places_of_payload f.code) (checks f.code) o g s f.lists

  pub lent_numbered : T (numbered o) → T (numbered (of_lists f ++ o))
  lent_numbered = lent_passes (ltb 0) refl

  pub lent_left : {r : ℕ} → r ≡ 0 → tells (of_lists f ++ o) r → ListsFit f × tells o r
  lent_left = left_by (places_of_payload f.code) (checks f.code) o f.lists

  pub lent_not : {r : ℕ} → r ≡ 0 → tells (of_lists f ++ o) r → T (numbered o)
      → ListsFit f × ((k : ℕ) → refusal_of_law o k → ⊥)
  lent_not e t h = let left = lent_left e t in (left.0, not_refused o h e left.1)

  pub lent_told : (r : ℕ) → ListsFit f → tells o r → tells (of_lists f ++ o) r
  lent_told = told_by (places_of_payload f.code) (checks f.code) o f.lists

  pub lent_rest : (r : ℕ) → ListsFit f → tells (of_lists f ++ o) r → tells o r
  lent_rest = rest_by (places_of_payload f.code) (checks f.code) o f.lists
