-- Registers of any kind. A recipe, and a check, only ever add to one register another that is turned. So they can be
-- followed on blocks of bits, on lists of turns, and on numbers; and a relation between two kinds that adding keeps, a
-- recipe keeps too.
--
--   Kind               what a register holds: a type, none of it, and plus x y ts: x, and y turned by each of ts
--   at K g k           register k of the list g; a register past its end holds none
--   firsts m x         the list of x 0 to x (m - 1)
--   enter K e x y      x plus y as the entry e turns it
--   checked K e n g i  check row i of the first n registers of g: e i j is the entry of row i for register j
--   put K g d x        the registers g with x in register d
--   listed K gs g      the registers g after the groups gs
--   Machine            what makes registers of registers, for each kind
--   to_checks e m      the machine that makes the m rows of checks
--   to_blocks gs o     the machine that follows the groups gs, and hands on the registers from o
--   Alike K L S        S is a relation between what registers of two kinds hold, and plus keeps it
--   Like K L S g h     the registers g and h are so related, one by one
--   Uniform F          the machine F keeps every such relation
--
--   put_at, firsts_at                             each register of these lists
--   firsts_alike                                  lists of things that are related
--   to_checks_uniform_law, to_blocks_uniform_law  checks and recipes are uniform
use mathlib.Core.Path.{◌≡◌, refl}
use mathlib.Core.Bool.{Bool, true, false, cond}
use mathlib.Core.List.{List, [], ◌∷◌}
use Prim.Native.Nat.{ℕ, zero, suc, ◌+◌, ◌<◌}
use lib.Dec.{eqb, ltb, eqb-zero-suc, eqb-suc-zero, eqb-suc-suc, leb-suc-suc, leb-suc-zero, leb-zero}
use lib.IntN.{ℤ, pos, negsuc}
use lib.ListN.{get_or, drop}
use lib.Seq.{get_or-drop}
use borrow.Author.Tests.{ltb-true}
use Rattle.recipes.proofs.Recipe.{Group, group}

pub record Kind : Type 1 where
  pub Of : Type 0
  pub none : Of
  pub plus : Of → Of → List ℕ → Of

abbrev pub at : (K : Kind) → List K.Of → ℕ → K.Of
at K g k = get_or g k K.none

abbrev pub firsts : {A : Type 0} → ℕ → (ℕ → A) → List A
firsts zero x = []
firsts (suc m) x = x 0 ∷ firsts m (λ k. x (suc k))

abbrev pub enter : (K : Kind) → ℤ → K.Of → K.Of → K.Of
enter K (pos a) x y = K.plus x y (a ∷ [])
enter K (negsuc b) x y = x

abbrev pub checked : (K : Kind) → (ℕ → ℕ → ℤ) → ℕ → List K.Of → ℕ → K.Of
checked K e zero g i = K.none
checked K e (suc n) g i = enter K (e i n) (checked K e n g i) (at K g n)

abbrev pub put : (K : Kind) → List K.Of → ℕ → K.Of → List K.Of
put K [] zero x = x ∷ []
put K [] (suc d) x = K.none ∷ put K [] d x
put K (y ∷ g) zero x = x ∷ g
put K (y ∷ g) (suc d) x = y ∷ put K g d x

abbrev pub listed : (K : Kind) → List Group → List K.Of → List K.Of
listed K [] g = g
listed K (group d s ts ∷ gs) g = listed K gs (put K g d (K.plus (at K g d) (at K g s) ts))

abbrev pub Machine : Type 1
Machine = (K : Kind) → List K.Of → List K.Of

abbrev pub to_checks : (ℕ → ℕ → ℤ) → ℕ → Machine
to_checks e m K g = firsts m (checked K e m g)

abbrev pub to_blocks : List Group → ℕ → Machine
to_blocks gs o K g = drop o (listed K gs g)

pub record Alike (K L : Kind) (S : K.Of → L.Of → Type 0) : Type 0 where
  pub at_none : S K.none L.none
  pub at_plus : (x y : K.Of) (x' y' : L.Of) (ts : List ℕ) → S x x' → S y y' → S (K.plus x y ts) (L.plus x' y' ts)

abbrev pub Like : (K L : Kind) → (K.Of → L.Of → Type 0) → List K.Of → List L.Of → Type 0
Like K L S g h = (k : ℕ) → S (at K g k) (at L h k)

abbrev pub Uniform : Machine → Type 1
Uniform F =
    (K L : Kind) (S : K.Of → L.Of → Type 0) → Alike K L S → (g : List K.Of) (h : List L.Of) → Like K L S g h
    → Like K L S (F K g) (F L h)

pub put_at : (K : Kind) (g : List K.Of) (d : ℕ) (x : K.Of) (k : ℕ)
    → at K (put K g d x) k ≡ cond (eqb k d) x (at K g k)
put_at K [] zero x zero = refl
put_at K [] zero x (suc k) = rw eqb-suc-zero
put_at K [] (suc d) x zero = rw eqb-zero-suc
put_at K [] (suc d) x (suc k) = rw eqb-suc-suc (put_at K [] d x k)
put_at K (y ∷ g) zero x zero = refl
put_at K (y ∷ g) zero x (suc k) = rw eqb-suc-zero
put_at K (y ∷ g) (suc d) x zero = rw eqb-zero-suc
put_at K (y ∷ g) (suc d) x (suc k) = rw eqb-suc-suc (put_at K g d x k)

pub firsts_at : {A : Type 0} (m : ℕ) (x : ℕ → A) (k : ℕ) (d : A) → get_or (firsts m x) k d ≡ cond (ltb k m) (x k) d
firsts_at zero x zero d = refl
firsts_at zero x (suc k) d = rw leb-suc-zero
firsts_at (suc m) x zero d = rw (leb-suc-suc, leb-zero)
firsts_at (suc m) x (suc k) d = rw leb-suc-suc (firsts_at m (λ k. x (suc k)) k d)

module _ {K L : Kind} {S : K.Of → L.Of → Type 0} (alike : Alike K L S) where
  cond_alike : (b : Bool) (x y : K.Of) (x' y' : L.Of) → (b ≡ true → S x x') → S y y' → S (cond b x y) (cond b x' y')
  cond_alike true x y x' y' s t = s refl
  cond_alike false x y x' y' s t = t

  pub firsts_alike : (m : ℕ) (x : ℕ → K.Of) (y : ℕ → L.Of) → ((k : ℕ) → k < m → S (x k) (y k))
      → Like K L S (firsts m x) (firsts m y)
  firsts_alike m x y s k =
      rw (firsts_at m x k K.none, firsts_at m y k L.none)
      (cond_alike (ltb k m) (x k) K.none (y k) L.none (λ e. s k (ltb-true k m e)) alike.at_none)

  put_alike : (g : List K.Of) (h : List L.Of) (d : ℕ) (x : K.Of) (y : L.Of) → Like K L S g h → S x y
      → Like K L S (put K g d x) (put L h d y)
  put_alike g h d x y l s k =
      rw (put_at K g d x k, put_at L h d y k) (cond_alike (eqb k d) x (at K g k) y (at L h k) (λ e. s) (l k))

  enter_alike : (e : ℤ) (x y : K.Of) (x' y' : L.Of) → S x x' → S y y' → S (enter K e x y) (enter L e x' y')
  enter_alike (pos a) x y x' y' s t = alike.at_plus x y x' y' (a ∷ []) s t
  enter_alike (negsuc b) x y x' y' s t = s

  checked_alike : (e : ℕ → ℕ → ℤ) (n : ℕ) (g : List K.Of) (h : List L.Of) → Like K L S g h
      → (i : ℕ) → S (checked K e n g i) (checked L e n h i)
  checked_alike e zero g h l i = alike.at_none
  checked_alike e (suc n) g h l i =
      enter_alike (e i n) (checked K e n g i) (at K g n) (checked L e n h i) (at L h n) (checked_alike e n g h l i)
      (l n)

  listed_alike : (gs : List Group) (g : List K.Of) (h : List L.Of) → Like K L S g h
      → Like K L S (listed K gs g) (listed L gs h)
  listed_alike [] g h l = l
  listed_alike (group d s ts ∷ gs) g h l =
      let x = K.plus (at K g d) (at K g s) ts in
      let y = L.plus (at L h d) (at L h s) ts in
      listed_alike gs (put K g d x) (put L h d y) (put_alike g h d x y l (alike.at_plus _ _ _ _ ts (l d) (l s)))

pub to_checks_uniform_law : (e : ℕ → ℕ → ℤ) (m : ℕ) → Uniform (to_checks e m)
to_checks_uniform_law e m K L S alike g h l =
    firsts_alike alike m (checked K e m g) (checked L e m h) (λ i b. checked_alike alike e m g h l i)

pub to_blocks_uniform_law : (gs : List Group) (o : ℕ) → Uniform (to_blocks gs o)
to_blocks_uniform_law gs o K L S alike g h l k =
    rw (get_or-drop o (listed K gs g) k K.none, get_or-drop o (listed L gs h) k L.none)
    (listed_alike alike gs g h l (o + k))
