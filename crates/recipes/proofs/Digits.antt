-- What the digits of a value say of its list of turns. Where the list is shorter than the base B, digit t of the value
-- counts the turns that are t; and a block that is turned by t twice is not there.
--
--   digits B n b v    of the n lowest digits of v the first is odd if b holds, and all the others are even
--   good B Z b v      a value and a count, v: the count is small, and the digits are those of the turn 0 (b holds) or
--                     of none
--
--   good_turned       of good numbers: a block turned so is the block itself, or nothing
use mathlib.Core.Path.{◌≡◌, refl, sym, ap, ap₂, ◌∙◌}
use mathlib.Core.Bool.{Bool, true, false, not, cond}
use mathlib.Core.List.{List, [], ◌∷◌}
use Prim.Native.Nat.{ℕ, zero, suc, ◌+◌, ◌*◌, ◌/◌, ◌%◌, ◌^◌, ◌≤◌, ◌<◌, zero-le}
use native.Mathlib.Nat.{zero-add, add-zero, zero-mul, one-mul, suc-mul, mul_comm, add-mul, pow-zero, pow-suc}
use native.Mathlib.Nat.{add-mod, add-mod-mod, mod-lt, mod-eq_of_lt, div-eq_of_lt, div-add-mod', add-mul-div_right}
use native.Mathlib.Nat.{mul-add-mod_self_left, add-mul-mod_self_right, mul-le-mul_right, lt_of_mul-lt-mul_right}
use native.Mathlib.Nat.{pow-le-pow_right, lt_of_le_of_lt, not-suc-le-zero, le_of_suc-le-suc}
use native.Mathlib.Omega.{arith}
use lib.Dec.{T, eqb, ltb, eqb→eq, ltb→lt}
use lib.ListN.{length}
use lib.Pow.{pow-add}
use Rattle.rules.proofs.Tests.{both, both_left, both_right}
use Rattle.recipes.proofs.Sums.{◌⊕◌, xor_none, xor_twice, xor_assoc, xor_swap, sum_of}
use Rattle.recipes.proofs.Turns.{turned_by}
use Rattle.recipes.proofs.Numbers.{value}

abbrev pub digits : ℕ → ℕ → Bool → ℕ → Bool
digits B zero b v = not b
digits B (suc n) b v = both (eqb (v % B % 2) (cond b 1 0)) (digits B n false (v / B))

abbrev pub good : ℕ → ℕ → Bool → ℕ × ℕ → Bool
good B Z b v = both (ltb (suc v.1) B) (digits B Z b v.0)

-- a bit added n times
abbrev times : ℕ → Bool → Bool
times zero a = false
times (suc n) a = a ⊕ times n a

times_parity : (n : ℕ) (a b : Bool) → n % 2 ≡ cond b 1 0 → times n a ≡ cond b a false
times_parity zero a true h = absurd (omega arith)
times_parity zero a false h = refl
times_parity (suc zero) a true h = xor_none a
times_parity (suc zero) a false h = absurd (omega arith)
times_parity (suc (suc n)) a b h = xor_twice a (times n a) ∙ times_parity n a b (omega arith)

-- how many turns are 0; and the others, each one less
abbrev unturned : List ℕ → ℕ
unturned [] = 0
unturned (zero ∷ ts) = suc (unturned ts)
unturned (suc t ∷ ts) = unturned ts

abbrev lower : List ℕ → List ℕ
lower [] = []
lower (zero ∷ ts) = lower ts
lower (suc t ∷ ts) = t ∷ lower ts

sum_of_lower_law : (f : ℕ → Bool) (ts : List ℕ)
    → sum_of f ts ≡ times (unturned ts) (f 0) ⊕ sum_of (λ t. f (suc t)) (lower ts)
sum_of_lower_law f [] = refl
sum_of_lower_law f (zero ∷ ts) =
    ap (λ (x : Bool). f 0 ⊕ x) (sum_of_lower_law f ts)
    ∙ sym (xor_assoc (f 0) (times (unturned ts) (f 0)) (sum_of (λ u. f (suc u)) (lower ts)))
sum_of_lower_law f (suc t ∷ ts) =
    ap (λ (x : Bool). f (suc t) ⊕ x) (sum_of_lower_law f ts)
    ∙ xor_swap (f (suc t)) (times (unturned ts) (f 0)) (sum_of (λ u. f (suc u)) (lower ts))

value_lower : (B : ℕ) (ts : List ℕ) → value B ts ≡ unturned ts + value B (lower ts) * B
value_lower B [] = omega (arith, zero-mul B)
value_lower B (zero ∷ ts) = omega (arith, pow-zero B, value_lower B ts)
value_lower B (suc t ∷ ts) = omega (arith, pow-suc B t, value_lower B ts, add-mul (B ^ t) (value B (lower ts)) B)

unturned_le : (ts : List ℕ) → unturned ts ≤ length ts
unturned_le [] = zero-le
unturned_le (zero ∷ ts) = omega (arith, unturned_le ts)
unturned_le (suc t ∷ ts) = omega (arith, unturned_le ts)

lower_le : (ts : List ℕ) → length (lower ts) ≤ length ts
lower_le [] = zero-le
lower_le (zero ∷ ts) = omega (arith, lower_le ts)
lower_le (suc t ∷ ts) = omega (arith, lower_le ts)

-- every turn is below n
abbrev Below : ℕ → List ℕ → Type 0
Below n [] = Unit {0}
Below n (t ∷ ts) = (t < n) × Below n ts

lower_below : (n : ℕ) (ts : List ℕ) → Below (suc n) ts → Below n (lower ts)
lower_below n [] h = tt
lower_below n (zero ∷ ts) h = lower_below n ts h.1
lower_below n (suc t ∷ ts) h = (le_of_suc-le-suc h.0, lower_below n ts h.1)

module _ (B : ℕ) where
  lowest : (ts : List ℕ) → length ts < B → value B ts % B ≡ unturned ts
  lowest ts h =
      ap (λ (n : ℕ). n % B) (value_lower B ts)
      ∙ add-mul-mod_self_right (unturned ts) (value B (lower ts)) B
      ∙ mod-eq_of_lt (lt_of_le_of_lt (unturned_le ts) h)

  others : (ts : List ℕ) → length ts < B → value B ts / B ≡ value B (lower ts)
  others ts h =
      ap (λ (n : ℕ). n / B) (value_lower B ts)
      ∙ add-mul-div_right (unturned ts) (value B (lower ts)) (lt_of_le_of_lt zero-le h)
      ∙ ap (λ (n : ℕ). n + value B (lower ts)) (div-eq_of_lt (lt_of_le_of_lt (unturned_le ts) h))
      ∙ zero-add (value B (lower ts))

  sum_of_digits_law : (n : ℕ) (b : Bool) (ts : List ℕ) (f : ℕ → Bool) → length ts < B → Below n ts
      → T (digits B n b (value B ts)) → sum_of f ts ≡ cond b (f 0) false
  sum_of_digits_law zero true ts f h l t = absurd t
  sum_of_digits_law zero false [] f h l t = refl
  sum_of_digits_law zero false (u ∷ ts) f h l t = absurd (not-suc-le-zero l.0)
  sum_of_digits_law (suc n) b ts f h l t =
      let first = eqb (value B ts % B % 2) (cond b 1 0) in
      let rest = digits B n false (value B ts / B) in
      let odd = eqb→eq (unturned ts % 2) (cond b 1 0) (rw (lowest ts h) at (both_left first rest t)) in
      let even : T (digits B n false (value B (lower ts))) = rw (others ts h) at (both_right first rest t) in
      let few = lt_of_le_of_lt (lower_le ts) h in
      let none = sum_of_digits_law n false (lower ts) (λ t. f (suc t)) few (lower_below n ts l) even in
      sum_of_lower_law f ts ∙ ap₂ ◌⊕◌ (times_parity (unturned ts) (f 0) b odd) none ∙ xor_none (cond b (f 0) false)

-- turns modulo Z: the block turned so, the count, and the value modulo B ^ Z - 1 stay
abbrev reduced : ℕ → List ℕ → List ℕ
reduced Z [] = []
reduced Z (t ∷ ts) = t % Z ∷ reduced Z ts

turned_by_reduced_law : (Z : ℕ) (ts : List ℕ) (f : ℕ → Bool) (r : ℕ)
    → turned_by Z (reduced Z ts) f r ≡ turned_by Z ts f r
turned_by_reduced_law Z [] f r = refl
turned_by_reduced_law Z (t ∷ ts) f r = ap₂ ◌⊕◌ (ap f (add-mod-mod r t Z)) (turned_by_reduced_law Z ts f r)

length_reduced : (Z : ℕ) (ts : List ℕ) → length (reduced Z ts) ≡ length ts
length_reduced Z [] = refl
length_reduced Z (t ∷ ts) = ap suc (length_reduced Z ts)

reduced_below : (Z : ℕ) → 0 < Z → (ts : List ℕ) → Below Z (reduced Z ts)
reduced_below Z some [] = tt
reduced_below Z some (t ∷ ts) = (mod-lt t some, reduced_below Z some ts)

value_bound : (B Z : ℕ) → 0 < B → (ts : List ℕ) → Below Z ts → value B ts * B ≤ length ts * B ^ Z
value_bound B Z h [] l = omega (arith, zero-mul B, zero-mul (B ^ Z))
value_bound B Z h (t ∷ ts) l =
    let power : B ^ suc t ≤ B ^ Z = pow-le-pow_right h l.0 in
    omega (arith, pow-suc B t, value_bound B Z h ts l.1, add-mul (B ^ t) (value B ts) B, suc-mul (length ts) (B ^ Z))

module _ (B Z M : ℕ) (base : suc M ≡ B ^ Z) (some : 0 < Z) where
  around : (q t : ℕ) → B ^ (q * Z + t) % M ≡ B ^ t % M
  around zero t = ap (λ (n : ℕ). B ^ n % M) (omega (arith, zero-mul Z))
  around (suc q) t =
      ap (λ (n : ℕ). B ^ n % M) (omega (arith, suc-mul q Z))
      ∙ ap (λ (n : ℕ). n % M) (pow-add B Z (q * Z + t) ∙ rw (← base) (suc-mul M (B ^ (q * Z + t))))
      ∙ mul-add-mod_self_left M (B ^ (q * Z + t)) (B ^ (q * Z + t))
      ∙ around q t

  value_reduced : (ts : List ℕ) → value B (reduced Z ts) % M ≡ value B ts % M
  value_reduced [] = refl
  value_reduced (t ∷ ts) =
      add-mod (B ^ (t % Z)) (value B (reduced Z ts)) M
      ∙ ap₂ (λ (x y : ℕ). (x + y) % M) (sym (around (t / Z) (t % Z)) ∙ ap (λ (n : ℕ). B ^ n % M) (div-add-mod' t Z))
      (value_reduced ts)
      ∙ sym (add-mod (B ^ t) (value B ts) M)

  power_least : 0 < B → B ≤ B ^ Z
  power_least h =
      let first : B ^ 1 ≡ B = pow-suc B 0 ∙ rw (pow-zero B) (one-mul B) in
      omega (arith, pow-le-pow_right h some)

  room : (w : ℕ) → suc w < B → w * B ^ Z < M * B
  room w h =
      let least : B ≤ B ^ Z = power_least (omega arith) in
      let twice : suc (suc w) * B ^ Z ≤ B * B ^ Z = mul-le-mul_right (B ^ Z) h in
      let whole : B ^ Z * B ≡ M * B + B = rw (← base) (suc-mul M B) in
      omega (arith, mul_comm B (B ^ Z), suc-mul (suc w) (B ^ Z), suc-mul w (B ^ Z))

  value_small : (ts : List ℕ) → suc (length ts) < B → value B (reduced Z ts) < M
  value_small ts h =
      lt_of_mul-lt-mul_right B
      (lt_of_le_of_lt (value_bound B Z (omega arith) (reduced Z ts) (reduced_below Z some ts))
      (rw (length_reduced Z ts) (room (length ts) h)))

  pub good_turned : (b : Bool) (ts : List ℕ) → T (good B Z b (value B ts % M, length ts)) → (f : ℕ → Bool) (r : ℕ)
      → r < Z → turned_by Z ts f r ≡ cond b (f r) false
  good_turned b ts t f r h =
      let few = ltb (suc (length ts)) B in
      let read = digits B Z b (value B ts % M) in
      let short = ltb→lt (suc (length ts)) B (both_left few read t) in
      let whole = sym (value_reduced ts) ∙ mod-eq_of_lt (value_small ts short) in
      let shown : T (digits B Z b (value B (reduced Z ts))) = rw whole at (both_right few read t) in
      sym (turned_by_reduced_law Z ts f r)
      ∙ sum_of_digits_law B Z b (reduced Z ts) (λ t. f ((r + t) % Z)) (omega (arith, length_reduced Z ts))
      (reduced_below Z some ts) shown
      ∙ ap (λ (n : ℕ). cond b (f n) false) (ap (λ (n : ℕ). n % Z) (add-zero r) ∙ mod-eq_of_lt h)
