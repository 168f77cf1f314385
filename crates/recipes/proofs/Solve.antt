-- From the two computed tests to two laws: a recipe finds any blocks again from their checks; and it finds, for any
-- checks, blocks that have them.
--
--   blocks_again         where every column of back passes, blocks are found again from their checks
--   blocks_found         where every column of forth passes, the blocks found have the checks given
use mathlib.Core.Path.{◌≡◌, refl, sym, ap, ◌∙◌, fun_ext}
use mathlib.Core.Bool.{Bool, true, false, cond}
use mathlib.Core.List.{List, [], ◌∷◌}
use Prim.Native.Nat.{ℕ, suc, ◌+◌, ◌%◌, ◌^◌, ◌<◌}
use native.Mathlib.Nat.{add-zero, zero-mod, mod-eq_of_lt, pow-zero}
use lib.Dec.{T, eqb}
use lib.IntN.{ℤ}
use lib.ListN.{length}
use lib.Seq.{get_or-drop}
use Rattle.rules.proofs.Tests.{every, every_at, all}
use Rattle.recipes.proofs.Sums.{xor_none, sums_same, sums_one}
use Rattle.recipes.proofs.Recipe.{Blocks, leading, follow, Group, flat, sound}
use Rattle.recipes.proofs.Registers.{at, firsts, checked, listed, firsts_alike, Machine, Uniform}
use Rattle.recipes.proofs.Registers.{to_checks, to_blocks, to_checks_uniform_law, to_blocks_uniform_law}
use Rattle.recipes.proofs.Turns.{turned_by, block_kind, rows, Spread, spread_alike}
use Rattle.recipes.proofs.Numbers.{value, numbers, Counts, counts_alike}
use Rattle.recipes.proofs.Digits.{good, good_turned}
use Rattle.recipes.proofs.Computed.{own_numbers, start_numbers, column, backward, forward, back, forth}
use Rattle.recipes.proofs.Blocks.{block_checks, firsts_own, checked_own, checked_blocks, firsts_follow}

-- a block itself, not turned, or nothing
abbrev own : Bool → List ℕ
own b = cond b (0 ∷ []) []

-- m blocks, each itself
abbrev start : ℕ → List (ℕ → List ℕ)
start m = firsts m (λ k j. own (eqb k j))

backward_uniform : (m o : ℕ) (e : ℕ → ℕ → ℤ) (R : List Group) → Uniform (backward m o e R)
backward_uniform m o e R K L S alike g h l =
    to_blocks_uniform_law R o K L S alike (to_checks e m K g) (to_checks e m L h)
    (to_checks_uniform_law e m K L S alike g h l)

forward_uniform : (m o : ℕ) (e : ℕ → ℕ → ℤ) (R : List Group) → Uniform (forward m o e R)
forward_uniform m o e R K L S alike g h l =
    to_checks_uniform_law e m K L S alike (to_blocks R o K g) (to_blocks R o L h)
    (to_blocks_uniform_law R o K L S alike g h l)

own_turned : (Z : ℕ) (b : Bool) (f : ℕ → Bool) (r : ℕ) → r < Z → turned_by Z (own b) f r ≡ cond b (f r) false
own_turned Z true f r h = xor_none (f ((r + 0) % Z)) ∙ ap f (ap (λ (n : ℕ). n % Z) (add-zero r) ∙ mod-eq_of_lt h)
own_turned Z false f r h = refl

own_spread : (Z m : ℕ) (p : Blocks) (k : ℕ) → k < m → Spread Z m p (λ j. own (eqb k j)) (p k)
own_spread Z m p k h r l = sums_same m _ _ (λ j b. own_turned Z (eqb k j) (p j) r l) ∙ sums_one m k (λ j. p j r) h

own_counts : (B M : ℕ) → 1 < M → (j : ℕ) (b : Bool) → Counts B M j (λ j. own b) (own_numbers b)
own_counts B M above j true = (ap (λ (n : ℕ). (n + 0) % M) (pow-zero B) ∙ mod-eq_of_lt above, refl)
own_counts B M above j false = (zero-mod M, refl)

module _ (B Z M m : ℕ) (base : suc M ≡ B ^ Z) (above : 1 < M) (some : 0 < Z) where
  module _ (F : Machine) (uniform : Uniform F) (test : T (every m (column B Z M m F))) where
    -- what F makes of the m blocks, as turns
    abbrev made : ℕ → ℕ → List ℕ
    made = at rows (F rows (start m))

    made_counts : (j k : ℕ) → Counts B M j (made k) (at (numbers B M) (F (numbers B M) (start_numbers m j)) k)
    made_counts j =
        uniform rows (numbers B M) (Counts B M j) (counts_alike B M j) (start m) (start_numbers m j)
        (firsts_alike (counts_alike B M j) m (λ k j. own (eqb k j)) (λ k. own_numbers (eqb k j))
        (λ k h. own_counts B M above j (eqb k j)))

    made_good : (j k : ℕ) → j < m → k < m → T (good B Z (eqb k j) (value B (made k j) % M, length (made k j)))
    made_good j k hj hk =
        rw ((made_counts j k).0, (made_counts j k).1)
        (every_at m (λ k. good B Z (eqb k j) (at (numbers B M) (F (numbers B M) (start_numbers m j)) k))
        (every_at m (column B Z M m F) test j hj) k hk)

    made_spread : (p : Blocks) (k : ℕ) → Spread Z m p (made k) (at (block_kind Z) (F (block_kind Z) (firsts m p)) k)
    made_spread p =
        uniform rows (block_kind Z) (Spread Z m p) (spread_alike Z m some p) (start m) (firsts m p)
        (firsts_alike (spread_alike Z m some p) m (λ k j. own (eqb k j)) p (own_spread Z m p))

    same_again : (p : Blocks) (k r : ℕ) → k < m → r < Z → at (block_kind Z) (F (block_kind Z) (firsts m p)) k r ≡ p k r
    same_again p k r hk hr =
        sym (made_spread p k r hr)
        ∙ sums_same m _ _ (λ j hj. good_turned B Z M base some (eqb k j) (made k j) (made_good j k hj hk) (p j) r hr)
        ∙ sums_one m k (λ j. p j r) hk

  module _ (n o : ℕ) (e : ℕ → ℕ → ℤ) (R : List Group) (sounds : T (all (sound n) R)) where
    found : (x : Blocks) (k : ℕ)
        → at (block_kind Z) (to_blocks R o (block_kind Z) (firsts m x)) k ≡ follow Z (flat R) (leading m x) (o + k)
    found x k =
        get_or-drop o (listed (block_kind Z) R (firsts m x)) k (λ r. false)
        ∙ ap (λ (y : Blocks). y (o + k)) (firsts_follow Z n m R sounds x)

    pub blocks_again : T (every m (back B Z M m o e R)) → (p : Blocks) (k r : ℕ) → k < m → r < Z
        → follow Z (flat R) (leading m (block_checks Z e m p)) (o + k) r ≡ p k r
    unfolding back
    blocks_again test p k r hk hr =
        ap (λ (x : Blocks). follow Z (flat R) (leading m x) (o + k) r) (sym (checked_blocks Z e m p))
        ∙ ap (λ (f : ℕ → Bool). f r) (sym (found (checked (block_kind Z) e m (firsts m p)) k))
        ∙ same_again (backward m o e R) (backward_uniform m o e R) test p k r hk hr

    pub blocks_found : T (every m (forth B Z M m o e R)) → (s : Blocks) (i r : ℕ) → i < m → r < Z
        → block_checks Z e m (λ k. follow Z (flat R) (leading m s) (o + k)) i r ≡ s i r
    unfolding forth
    blocks_found test s i r hi hr =
        let g = to_blocks R o (block_kind Z) (firsts m s) in
        ap (λ (x : Blocks). block_checks Z e m x i r) (fun_ext (λ k. sym (found s k)))
        ∙ sym (checked_own Z e m g i r)
        ∙ ap (λ (f : ℕ → Bool). f r) (sym (firsts_own Z m (checked (block_kind Z) e m g) i hi))
        ∙ same_again (forward m o e R) (forward_uniform m o e R) test s i r hi hr
