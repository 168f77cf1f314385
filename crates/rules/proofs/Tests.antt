-- Laws of computed tests: a test of two parts, of every element of a list, of every number below a bound, and a test
-- as a number.
--
--   both a b                  a and b
--   all f xs                  f of every element of xs
--   every n f                 f of every number below n
--   X-left, -right            a part of a test that passes, passes
--   all_at, all_in, every_at  what passes for all, passes for each
--   every_of                  what passes for each number below n, passes for every one
--   some_not                  where not every number below n passes, one of them fails
--   as_bit b                  the test b as a number: 1 where it passes, 0 where it fails
--   as_bit_below_law          it is below 2
--   as_bit_told_law           and tells the test
--   as_bit_bit_law            a number below 2 is told by whether it is 1
use mathlib.Core.Path.{◌≡◌, refl}
use mathlib.Core.Bool.{Bool, true, false, not, cond}
use mathlib.Core.Logic.{◌⊎◌, inl, inr, ⊎_elim}
use mathlib.Core.List.{List, [], ◌∷◌}
use Prim.Native.Nat.{ℕ, zero, suc, ◌<◌}
use native.Mathlib.Nat.{not-suc-le-zero, le_of_suc-le-suc, eq-or-lt_of_le}
use native.Mathlib.Omega.{arith}
use lib.Dec.{T, eqb, lit<}
use lib.ListN.{length, get_or}

abbrev pub both : Bool → Bool → Bool
both true b = b
both false b = false

pub both_left : (a b : Bool) → T (both a b) → T a
both_left true b t = tt
both_left false b t = t

pub both_right : (a b : Bool) → T (both a b) → T b
both_right true b t = t
both_right false b t = absurd t

abbrev pub all : {A : Type 0} → (A → Bool) → List A → Bool
all f [] = true
all f (x ∷ xs) = both (f x) (all f xs)

pub all_at : {A : Type 0} (f : A → Bool) (d : A) → T (f d) → (xs : List A) → T (all f xs) → (k : ℕ)
    → T (f (get_or xs k d))
all_at f d td [] t k = td
all_at f d td (x ∷ xs) t zero = both_left (f x) (all f xs) t
all_at f d td (x ∷ xs) t (suc k) = all_at f d td xs (both_right (f x) (all f xs) t) k

pub all_in : {A : Type 0} (f : A → Bool) (d : A) (xs : List A) → T (all f xs) → (k : ℕ) → k < length xs
    → T (f (get_or xs k d))
all_in f d [] t k h = absurd (not-suc-le-zero h)
all_in f d (x ∷ xs) t zero h = both_left (f x) (all f xs) t
all_in f d (x ∷ xs) t (suc k) h = all_in f d xs (both_right (f x) (all f xs) t) k (le_of_suc-le-suc h)

abbrev pub every : ℕ → (ℕ → Bool) → Bool
every zero f = true
every (suc n) f = both (f n) (every n f)

pub every_at : (n : ℕ) (f : ℕ → Bool) → T (every n f) → (k : ℕ) → k < n → T (f k)
every_at zero f t k h = absurd (not-suc-le-zero h)
every_at (suc n) f t k h =
    ⊎_elim (λ e. rw e (both_left (f n) (every n f) t)) (λ l. every_at n f (both_right (f n) (every n f) t) k l)
    (eq-or-lt_of_le (le_of_suc-le-suc h))

both_of : (a b : Bool) → T a → T b → T (both a b)
both_of true b s t = t
both_of false b s t = s

pub every_of : (n : ℕ) (f : ℕ → Bool) → ((k : ℕ) → k < n → T (f k)) → T (every n f)
every_of zero f h = tt
every_of (suc n) f h = both_of (f n) (every n f) (h n (omega arith)) (every_of n f (λ k l. h k (omega arith)))

both_not : (a b : Bool) → T (not (both a b)) → T (not a) ⊎ T (not b)
both_not true b t = inr t
both_not false b t = inl tt

pub some_not : (n : ℕ) (f : ℕ → Bool) → T (not (every n f)) → (k : ℕ) × (k < n) × T (not (f k))
some_not zero f t = absurd t
some_not (suc n) f t =
    ⊎_elim (λ a. (n, omega arith, a)) (λ b. let k = some_not n f b in (k.0, omega (arith, k.1), k.2))
    (both_not (f n) (every n f) t)

abbrev pub as_bit : Bool → ℕ
as_bit b = cond b 1 0

pub as_bit_below_law : (b : Bool) → as_bit b < 2
as_bit_below_law true = lit< tt
as_bit_below_law false = lit< tt

pub as_bit_told_law : (b : Bool) → eqb (as_bit b) 1 ≡ b
as_bit_told_law true = refl
as_bit_told_law false = refl

pub as_bit_bit_law : (a : ℕ) → a < 2 → as_bit (eqb a 1) ≡ a
as_bit_bit_law zero h = refl
as_bit_bit_law (suc zero) h = refl
as_bit_bit_law (suc (suc a)) h = absurd (omega arith)
