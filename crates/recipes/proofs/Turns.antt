-- Lists of turns: what a recipe or a check makes of many blocks is, for each block, a list of turns; the block is
-- turned by each of them, and all is added up.
--
--   turned_by Z ts f  the block f turned by each of ts, added up
--   later a ts        each turn of ts, and a more
--   product ts us     each turn of us after each of ts
--   block_kind Z      the kind of registers that hold a block of Z bits
--   rows              the kind of registers that hold a list of turns for each of many blocks
--   spread Z m p x    the first m blocks of p, block j turned by x j, added up
--   Spread Z m p x f  the block f is that sum
--
--   spread_alike        what recipes and checks make of rows stands for what they make of blocks
use mathlib.Core.Path.{◌≡◌, refl, sym, ap, ap₂, ◌∙◌}
use mathlib.Core.Bool.{Bool, false}
use mathlib.Core.List.{List, [], ◌∷◌, ◌++◌}
use Prim.Native.Nat.{ℕ, ◌+◌, ◌%◌, ◌<◌}
use native.Mathlib.Nat.{mod-lt, mod-add-mod}
use native.Mathlib.Omega.{arith}
use Rattle.recipes.proofs.Sums.{◌⊕◌, sums, sums_same, sums_none, sums_plus, sum_of, sum_of_append_law, sum_of_sums_law}
use Rattle.recipes.proofs.Recipe.{Blocks}
use Rattle.recipes.proofs.Registers.{Kind, Alike}

abbrev pub turned_by : ℕ → List ℕ → (ℕ → Bool) → ℕ → Bool
turned_by Z ts f r = sum_of (λ t. f ((r + t) % Z)) ts

abbrev pub later : ℕ → List ℕ → List ℕ
later a [] = []
later a (t ∷ ts) = (t + a) ∷ later a ts

abbrev pub product : List ℕ → List ℕ → List ℕ
product [] us = []
product (a ∷ ts) us = later a us ++ product ts us

abbrev pub block_kind : ℕ → Kind
block_kind Z = record { Of = ℕ → Bool; none = λ r. false; plus = λ f g ts r. f r ⊕ turned_by Z ts g r }

abbrev pub rows : Kind
rows = record { Of = ℕ → List ℕ; none = λ j. []; plus = λ x y ts j. x j ++ product ts (y j) }

abbrev pub spread : ℕ → ℕ → Blocks → (ℕ → List ℕ) → ℕ → Bool
spread Z m p x r = sums m (λ j. turned_by Z (x j) (p j) r)

abbrev pub Spread : ℕ → ℕ → Blocks → (ℕ → List ℕ) → (ℕ → Bool) → Type 0
Spread Z m p x f = (r : ℕ) → r < Z → spread Z m p x r ≡ f r

turned_by_same_law : (Z : ℕ) → 0 < Z → (ts : List ℕ) (f g : ℕ → Bool) → ((r : ℕ) → r < Z → f r ≡ g r) → (r : ℕ)
    → turned_by Z ts f r ≡ turned_by Z ts g r
turned_by_same_law Z some [] f g h r = refl
turned_by_same_law Z some (t ∷ ts) f g h r =
    ap₂ ◌⊕◌ (h ((r + t) % Z) (mod-lt (r + t) some)) (turned_by_same_law Z some ts f g h r)

turn_turn : (Z r a t : ℕ) → (r + (t + a)) % Z ≡ ((r + a) % Z + t) % Z
turn_turn Z r a t = ap (λ (n : ℕ). n % Z) (omega arith) ∙ sym (mod-add-mod (r + a) Z t)

turned_by_later_law : (Z a : ℕ) (ts : List ℕ) (f : ℕ → Bool) (r : ℕ)
    → turned_by Z (later a ts) f r ≡ turned_by Z ts f ((r + a) % Z)
turned_by_later_law Z a [] f r = refl
turned_by_later_law Z a (t ∷ ts) f r = ap₂ ◌⊕◌ (ap f (turn_turn Z r a t)) (turned_by_later_law Z a ts f r)

turned_by_product_law : (Z : ℕ) (ts us : List ℕ) (f : ℕ → Bool) (r : ℕ)
    → turned_by Z (product ts us) f r ≡ turned_by Z ts (turned_by Z us f) r
turned_by_product_law Z [] us f r = refl
turned_by_product_law Z (a ∷ ts) us f r =
    sum_of_append_law _ (later a us) (product ts us)
    ∙ ap₂ ◌⊕◌ (turned_by_later_law Z a us f r) (turned_by_product_law Z ts us f r)

turned_by_plus_law : (Z : ℕ) (ts us vs : List ℕ) (f : ℕ → Bool) (r : ℕ)
    → turned_by Z (us ++ product ts vs) f r ≡ turned_by Z us f r ⊕ turned_by Z ts (turned_by Z vs f) r
turned_by_plus_law Z ts us vs f r =
    sum_of_append_law _ us (product ts vs)
    ∙ ap (λ (x : Bool). turned_by Z us f r ⊕ x) (turned_by_product_law Z ts vs f r)

spread_plus : (Z m : ℕ) (p : Blocks) (x y : ℕ → List ℕ) (ts : List ℕ) (r : ℕ)
    → spread Z m p (rows.plus x y ts) r ≡ spread Z m p x r ⊕ turned_by Z ts (spread Z m p y) r
spread_plus Z m p x y ts r =
    sums_same m _ _ (λ j l. turned_by_plus_law Z ts (x j) (y j) (p j) r)
    ∙ sums_plus m _ _
    ∙ ap (λ (v : Bool). spread Z m p x r ⊕ v)
    (sym (sum_of_sums_law m (λ t j. turned_by Z (y j) (p j) ((r + t) % Z)) ts))

pub spread_alike : (Z m : ℕ) → 0 < Z → (p : Blocks) → Alike rows (block_kind Z) (Spread Z m p)
spread_alike Z m some p =
    record {
      at_none = λ r h. sums_none m;
      at_plus = λ x y f g ts hx hy r h.
          spread_plus Z m p x y ts r ∙ ap₂ ◌⊕◌ (hx r h) (turned_by_same_law Z some ts (spread Z m p y) g hy r);
    }
