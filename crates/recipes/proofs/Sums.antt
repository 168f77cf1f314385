-- Sums of bits mod 2.
--
--   a ⊕ b        the sum of two bits
--   sums n f     f 0 ⊕ f 1 ⊕ .. ⊕ f (n - 1)
--   sum_of f ts  the sum of f over the list ts
--
--   xor_none, xor_twice  false added; a bit added twice
--   xor_assoc, xor_swap  sums regrouped
--   sums_same            what is the same below n has the same sums
--   sums_none            a sum of nothing
--   sums_plus            the sum of two sums
--   sums_one             a sum that has one term only
--   sum_of_append_law    the sum over a list and another
--   sum_of_sums_law      a sum of sums, added up the other way
use mathlib.Core.Path.{◌≡◌, refl, sym, ap, ap₂, ◌∙◌}
use mathlib.Core.Bool.{Bool, true, false, not, cond, not-not}
use mathlib.Core.List.{List, [], ◌∷◌, ◌++◌}
use Prim.Native.Nat.{ℕ, zero, suc, ◌≤◌, ◌<◌}
use native.Mathlib.Nat.{not-suc-le-zero, le_step, le_refl}
use native.Mathlib.Omega.{arith}
use lib.Dec.{eqb}
use borrow.Author.Tests.{eqb-true, eqb-false, ne_eqb}

infixr 40 ◌⊕◌
abbrev pub ◌⊕◌ : Bool → Bool → Bool
false ⊕ b = b
true ⊕ b = not b

pub xor_none : (a : Bool) → a ⊕ false ≡ a
xor_none false = refl
xor_none true = refl

pub xor_twice : (a b : Bool) → a ⊕ (a ⊕ b) ≡ b
xor_twice false b = refl
xor_twice true b = not-not b

pub xor_assoc : (a b c : Bool) → (a ⊕ b) ⊕ c ≡ a ⊕ (b ⊕ c)
xor_assoc false b c = refl
xor_assoc true false c = refl
xor_assoc true true c = sym (not-not c)

pub xor_swap : (a b c : Bool) → a ⊕ (b ⊕ c) ≡ b ⊕ (a ⊕ c)
xor_swap false b c = refl
xor_swap true false c = refl
xor_swap true true c = refl

xor_four : (a b c d : Bool) → (a ⊕ b) ⊕ (c ⊕ d) ≡ (a ⊕ c) ⊕ (b ⊕ d)
xor_four a b c d = xor_assoc a b (c ⊕ d) ∙ ap (λ (x : Bool). a ⊕ x) (xor_swap b c d) ∙ sym (xor_assoc a c (b ⊕ d))

abbrev pub sums : ℕ → (ℕ → Bool) → Bool
sums zero f = false
sums (suc n) f = sums n f ⊕ f n

pub sums_same : (n : ℕ) (f g : ℕ → Bool) → ((j : ℕ) → j < n → f j ≡ g j) → sums n f ≡ sums n g
sums_same zero f g h = refl
sums_same (suc n) f g h = ap₂ ◌⊕◌ (sums_same n f g (λ j l. h j (le_step l))) (h n (le_refl (suc n)))

pub sums_none : (n : ℕ) → sums n (λ j. false) ≡ false
sums_none zero = refl
sums_none (suc n) = xor_none (sums n (λ j. false)) ∙ sums_none n

pub sums_plus : (n : ℕ) (f g : ℕ → Bool) → sums n (λ j. f j ⊕ g j) ≡ sums n f ⊕ sums n g
sums_plus zero f g = refl
sums_plus (suc n) f g =
    ap (λ (x : Bool). x ⊕ (f n ⊕ g n)) (sums_plus n f g) ∙ xor_four (sums n f) (sums n g) (f n) (g n)

sums_past : (n k : ℕ) (f : ℕ → Bool) → n ≤ k → sums n (λ j. cond (eqb k j) (f j) false) ≡ false
sums_past n k f h =
    sums_same n (λ j. cond (eqb k j) (f j) false) (λ j. false) (λ j l. rw (ne_eqb k j (omega arith))) ∙ sums_none n

pub sums_one : (n k : ℕ) (f : ℕ → Bool) → k < n → sums n (λ j. cond (eqb k j) (f j) false) ≡ f k
sums_one zero k f h = absurd (not-suc-le-zero h)
sums_one (suc n) k f h = go (eqb k n) refl (sums_one n k f)
  where
    go : (b : Bool) → eqb k n ≡ b → (k < n → sums n (λ j. cond (eqb k j) (f j) false) ≡ f k)
        → sums n (λ j. cond (eqb k j) (f j) false) ⊕ cond b (f n) false ≡ f k
    go true e rest = rw (sums_past n k f (omega (arith, eqb-true k n e)), eqb-true k n e)
    go false e rest = xor_none _ ∙ rest (omega (arith, eqb-false k n e))

abbrev pub sum_of : (ℕ → Bool) → List ℕ → Bool
sum_of f [] = false
sum_of f (t ∷ ts) = f t ⊕ sum_of f ts

pub sum_of_append_law : (f : ℕ → Bool) (ts us : List ℕ) → sum_of f (ts ++ us) ≡ sum_of f ts ⊕ sum_of f us
sum_of_append_law f [] us = refl
sum_of_append_law f (t ∷ ts) us =
    ap (λ (x : Bool). f t ⊕ x) (sum_of_append_law f ts us) ∙ sym (xor_assoc (f t) (sum_of f ts) (sum_of f us))

pub sum_of_sums_law : (n : ℕ) (f : ℕ → ℕ → Bool) (ts : List ℕ)
    → sum_of (λ t. sums n (f t)) ts ≡ sums n (λ j. sum_of (λ t. f t j) ts)
sum_of_sums_law n f [] = sym (sums_none n)
sum_of_sums_law n f (t ∷ ts) =
    ap (λ (x : Bool). sums n (f t) ⊕ x) (sum_of_sums_law n f ts) ∙ sym (sums_plus n (f t) (λ j. sum_of (λ u. f u j) ts))
