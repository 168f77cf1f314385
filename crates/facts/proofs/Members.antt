-- The checks that a place is in, as a list: what the list tells of each check.
--
--   among n ns     n is one of ns
--   among_checks   a check is among those of place p, where its row has a one there
--   checks_told    places with one list have the same numbers in every row
use mathlib.Core.Path.{◌≡◌, refl, sym, ap, ap₂, ◌∙◌}
use mathlib.Core.Bool.{Bool, true, false, cond, ◌||◌, or-false, or_assoc}
use mathlib.Core.List.{List, [], ◌∷◌, ◌++◌}
use Prim.Native.Nat.{ℕ, zero, suc, ◌≤◌, ◌<◌}
use native.Mathlib.Nat.{not-suc-le-zero}
use native.Mathlib.Decide.{ℕ_discrete}
use native.Mathlib.Omega.{arith}
use lib.Dec.{eqb}
use borrow.Author.Tests.{eq-eqb, ne_eqb}
use Rattle.rules.specs.Matrix.{Code, checks, one, checks_below, checks_of}
use Rattle.rules.proofs.Tests.{as_bit, as_bit_bit_law}
use Rattle.rules.proofs.Checks.{one_below}

abbrev pub among : ℕ → List ℕ → Bool
among n [] = false
among n (m ∷ ms) = eqb n m || among n ms

among_join : (n : ℕ) (xs ys : List ℕ) → among n (xs ++ ys) ≡ (among n xs || among n ys)
among_join n [] ys = refl
among_join n (x ∷ xs) ys =
    ap (λ (b : Bool). eqb n x || b) (among_join n xs ys)
    ∙ sym (or_assoc (eqb n x) (among n xs) (among n ys))

among_here : (b : Bool) (n : ℕ) → among n (cond b (n ∷ []) []) ≡ b
among_here true n = rw (eq-eqb n n refl)
among_here false n = refl

among_other : (b : Bool) (n m : ℕ) → (n ≡ m → ⊥) → among n (cond b (m ∷ []) []) ≡ false
among_other true n m d = rw (ne_eqb n m d)
among_other false n m d = refl

module _ (c : Code) (p : ℕ) where
  among_above : (b n : ℕ) → b ≤ n → among n (checks_below c p b) ≡ false
  among_above zero n h = refl
  among_above (suc b) n h =
      among_join n (checks_below c p b) _
      ∙ ap₂ ◌||◌ (among_above b n (omega arith)) (among_other (eqb (one c b p) 1) n b (λ e. omega arith))

  among_below : (b n : ℕ) → n < b → among n (checks_below c p b) ≡ eqb (one c n p) 1
  among_below zero n h = absurd (not-suc-le-zero h)
  among_below (suc b) n h = elim (ℕ_discrete b n) [
    | yes e ↦
        among_join n (checks_below c p b) _
        ∙ ap₂ ◌||◌ (among_above b n (omega arith)) (rw e (among_here (eqb (one c n p) 1) n))
    | no d ↦
        among_join n (checks_below c p b) _
        ∙ ap₂ ◌||◌ (among_below b n (omega arith)) (among_other (eqb (one c b p) 1) n b (λ e. d (sym e)))
        ∙ or-false (eqb (one c n p) 1)
  ]

  pub among_checks : (n : ℕ) → n < checks c → among n (checks_of c p) ≡ eqb (one c n p) 1
  unfolding checks_of
  among_checks n h = among_below (checks c) n h

pub checks_told : (c : Code) (p q : ℕ) → checks_of c p ≡ checks_of c q → (n : ℕ) → n < checks c → one c n p ≡ one c n q
checks_told c p q e n h =
    sym (as_bit_bit_law (one c n p) (one_below c n p))
    ∙ ap as_bit (sym (among_checks c p n h) ∙ ap (among n) e ∙ among_checks c q n h)
    ∙ as_bit_bit_law (one c n q) (one_below c n q)
