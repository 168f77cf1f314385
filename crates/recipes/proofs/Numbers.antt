-- Lists of turns as numbers: a list ts is the sum of B ^ t for its turns t, modulo M, beside the count of its turns.
-- Then to turn by a is to multiply by B ^ a, and to add is to add; a recipe runs on such numbers quickly.
--
--   value B ts        the sum of B ^ t for each t in ts
--   numbers B M       the kind of registers that hold a value modulo M and a count
--   Counts B M j x v  v has the value and the count of the list of turns that row x has for block j
--
--   counts_alike      rows and their values and counts stay so
use mathlib.Core.Path.{◌≡◌, refl, sym, ap, ap₂, ◌∙◌}
use mathlib.Core.List.{List, [], ◌∷◌, ◌++◌}
use Prim.Native.Nat.{ℕ, zero, suc, ◌+◌, ◌*◌, ◌/◌, ◌%◌, ◌^◌}
use native.Mathlib.Nat.{zero-add, zero-mul, zero-mod, mul-zero, mul-one, add_assoc, add-mul, mul-add, mul_assoc}
use native.Mathlib.Nat.{pow-zero, pow-suc, add-mod, mod-mod, mod-add-div, add-mul-mod_self_left}
use native.Mathlib.Omega.{arith}
use lib.ListN.{length}
use lib.Pow.{pow-add}
use Rattle.recipes.proofs.Registers.{Kind, Alike}
use Rattle.recipes.proofs.Turns.{later, product, rows}

abbrev pub value : ℕ → List ℕ → ℕ
value B [] = 0
value B (t ∷ ts) = B ^ t + value B ts

abbrev pub numbers : ℕ → ℕ → Kind
numbers B M = record {
  Of = ℕ × ℕ;
  none = (0, 0);
  plus = λ x y ts. ((x.0 + y.0 * value B ts) % M, x.1 + y.1 * length ts);
}

abbrev pub Counts : ℕ → ℕ → ℕ → (ℕ → List ℕ) → ℕ × ℕ → Type 0
Counts B M j x v = (value B (x j) % M ≡ v.0) × (length (x j) ≡ v.1)

value_append : (B : ℕ) (ts us : List ℕ) → value B (ts ++ us) ≡ value B ts + value B us
value_append B [] us = sym (zero-add (value B us))
value_append B (t ∷ ts) us =
    ap (λ (n : ℕ). B ^ t + n) (value_append B ts us) ∙ sym (add_assoc (B ^ t) (value B ts) (value B us))

value_later : (B a : ℕ) (ts : List ℕ) → value B (later a ts) ≡ value B ts * B ^ a
value_later B a [] = sym (zero-mul (B ^ a))
value_later B a (t ∷ ts) = ap₂ ◌+◌ (pow-add B t a) (value_later B a ts) ∙ sym (add-mul (B ^ t) (value B ts) (B ^ a))

value_product : (B : ℕ) (ts us : List ℕ) → value B (product ts us) ≡ value B us * value B ts
value_product B [] us = sym (mul-zero (value B us))
value_product B (a ∷ ts) us =
    value_append B (later a us) (product ts us)
    ∙ ap₂ ◌+◌ (value_later B a us) (value_product B ts us)
    ∙ sym (mul-add (value B us) (B ^ a) (value B ts))

value_plus : (B : ℕ) (ts us vs : List ℕ) → value B (us ++ product ts vs) ≡ value B us + value B vs * value B ts
value_plus B ts us vs = value_append B us (product ts vs) ∙ ap (λ (n : ℕ). value B us + n) (value_product B ts vs)

one_power : (t : ℕ) → 1 ^ t ≡ 1
one_power zero = pow-zero 1
one_power (suc t) = pow-suc 1 t ∙ mul-one (1 ^ t) ∙ one_power t

value_one : (ts : List ℕ) → value 1 ts ≡ length ts
value_one [] = refl
value_one (t ∷ ts) = omega (arith, one_power t, value_one ts)

length_plus : (ts us vs : List ℕ) → length (us ++ product ts vs) ≡ length us + length vs * length ts
length_plus ts us vs = simp (← value_one) (value_plus 1 ts us vs)

mul_mod : (x y M : ℕ) → x * y % M ≡ x % M * y % M
mul_mod x y M =
    ap (λ (n : ℕ). n * y % M) (sym (mod-add-div x M))
    ∙ ap (λ (n : ℕ). n % M) (add-mul (x % M) (M * (x / M)) y ∙ ap (λ (n : ℕ). x % M * y + n) (mul_assoc M (x / M) y))
    ∙ add-mul-mod_self_left (x % M * y) M (x / M * y)

plus_mod : (x y z M : ℕ) → (x + y * z) % M ≡ (x % M + y % M * z) % M
plus_mod x y z M =
    add-mod x (y * z) M
    ∙ ap₂ (λ (a b : ℕ). (a + b) % M) (sym (mod-mod x M)) (mul_mod y z M)
    ∙ sym (add-mod (x % M) (y % M * z) M)

pub counts_alike : (B M j : ℕ) → Alike rows (numbers B M) (Counts B M j)
counts_alike B M j =
    record {
      at_none = (zero-mod M, refl);
      at_plus = λ x y v w ts hx hy. (
        ap (λ (n : ℕ). n % M) (value_plus B ts (x j) (y j))
            ∙ plus_mod (value B (x j)) (value B (y j)) (value B ts) M
            ∙ ap₂ (λ (a b : ℕ). (a + b * value B ts) % M) hx.0 hy.0,
        length_plus ts (x j) (y j) ∙ ap₂ (λ (a b : ℕ). a + b * length ts) hx.1 hy.1,
      );
    }
