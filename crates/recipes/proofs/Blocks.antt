-- What checks and recipes make of registers that hold blocks of Z bits.
--
--   seen Z e f r          what local row r sees of the block f through the entry e: bit r + e, or nothing
--   block_checks Z e m p  the checks of the first m blocks of p: row r of block row i; e i j is the entry of row i,
--                         block j
--
--   checks_near            the checks are known from the first Z bits of these blocks
--   leading_near           so are the first blocks alone
--   firsts_own             registers that hold given blocks
--   checked_own            their checks
--   checked_blocks         the checks of given blocks
--   firsts_follow          groups do what their steps do
use mathlib.Core.Path.{◌≡◌, refl, sym, ap, ap₂, ◌∙◌, fun_ext}
use mathlib.Core.Bool.{Bool, true, false, cond}
use mathlib.Core.List.{List, [], ◌∷◌}
use Prim.Native.Nat.{ℕ, zero, suc, ◌+◌, ◌%◌, ◌<◌}
use native.Mathlib.Nat.{mod-lt}
use lib.Dec.{T, eqb, ltb}
use lib.IntN.{ℤ, pos, negsuc}
use borrow.Author.Tests.{eqb-true, eq-eqb, ltb-true, lt-ltb}
use Rattle.rules.proofs.Tests.{both_left, both_right, all}
use Rattle.recipes.proofs.Sums.{◌⊕◌, xor_none, xor_assoc, sums, sums_same}
use Rattle.recipes.proofs.Recipe.{Blocks, leading, Near, add, step, follow, follow_append}
use Rattle.recipes.proofs.Recipe.{Group, group, steps, flat, sound, sound_apart}
use Rattle.recipes.proofs.Registers.{at, firsts, enter, checked, put, listed, put_at, firsts_at}
use Rattle.recipes.proofs.Turns.{turned_by, block_kind}

abbrev pub seen : ℕ → ℤ → (ℕ → Bool) → ℕ → Bool
seen Z (pos a) f r = f ((r + a) % Z)
seen Z (negsuc b) f r = false

abbrev pub block_checks : ℕ → (ℕ → ℕ → ℤ) → ℕ → Blocks → Blocks
block_checks Z e m p i r = sums m (λ j. seen Z (e i j) (p j) r)

seen_near : (Z : ℕ) → 0 < Z → (e : ℤ) (f g : ℕ → Bool) → ((r : ℕ) → r < Z → f r ≡ g r) → (r : ℕ)
    → seen Z e f r ≡ seen Z e g r
seen_near Z some (pos a) f g h r = h ((r + a) % Z) (mod-lt (r + a) some)
seen_near Z some (negsuc b) f g h r = refl

pub checks_near : (Z : ℕ) → 0 < Z → (e : ℕ → ℕ → ℤ) (m : ℕ) (x y : Blocks) → Near Z m x y → (i r : ℕ)
    → block_checks Z e m x i r ≡ block_checks Z e m y i r
checks_near Z some e m x y near i r = sums_same m _ _ (λ j h. seen_near Z some (e i j) (x j) (y j) (λ t. near j t h) r)

pub leading_near : (Z m n : ℕ) (x y : Blocks) → Near Z m x y → Near Z n (leading m x) (leading m y)
leading_near Z m n x y near k r hk hr = go (ltb k m) refl
  where
    go : (b : Bool) → ltb k m ≡ b → cond b (x k) (λ r. false) r ≡ cond b (y k) (λ r. false) r
    go true e = near k r (ltb-true k m e) hr
    go false e = refl

pub firsts_own : (Z m : ℕ) (x : Blocks) (k : ℕ) → k < m → at (block_kind Z) (firsts m x) k ≡ x k
firsts_own Z m x k h = firsts_at m x k (λ r. false) ∙ rw (lt-ltb k m h)

enter_seen : (Z : ℕ) (e : ℤ) (f g : ℕ → Bool) (r : ℕ) → enter (block_kind Z) e f g r ≡ f r ⊕ seen Z e g r
enter_seen Z (pos a) f g r = ap (λ (x : Bool). f r ⊕ x) (xor_none (g ((r + a) % Z)))
enter_seen Z (negsuc b) f g r = sym (xor_none (f r))

pub checked_own : (Z : ℕ) (e : ℕ → ℕ → ℤ) (n : ℕ) (g : List (ℕ → Bool)) (i r : ℕ)
    → checked (block_kind Z) e n g i r ≡ block_checks Z e n (at (block_kind Z) g) i r
checked_own Z e zero g i r = refl
checked_own Z e (suc n) g i r =
    enter_seen Z (e i n) (checked (block_kind Z) e n g i) (at (block_kind Z) g n) r
    ∙ ap (λ (x : Bool). x ⊕ seen Z (e i n) (at (block_kind Z) g n) r) (checked_own Z e n g i r)

pub checked_blocks : (Z : ℕ) (e : ℕ → ℕ → ℤ) (m : ℕ) (p : Blocks)
    → checked (block_kind Z) e m (firsts m p) ≡ block_checks Z e m p
checked_blocks Z e m p = fun_ext (λ i. fun_ext (λ r. checked_own Z e m (firsts m p) i r ∙ sums_same m _ _ (same i r)))
  where
    same : (i r j : ℕ) → j < m → seen Z (e i j) (at (block_kind Z) (firsts m p) j) r ≡ seen Z (e i j) (p j) r
    same i r j h = ap (λ (f : ℕ → Bool). seen Z (e i j) f r) (firsts_own Z m p j h)

-- the registers after a group, at once
abbrev after : ℕ → ℕ → ℕ → List ℕ → Blocks → Blocks
after Z d s ts x k = cond (eqb k d) ((block_kind Z).plus (x d) (x s) ts) (x k)

after_none : (Z d s : ℕ) (x : Blocks) (k : ℕ) → x k ≡ after Z d s [] x k
after_none Z d s x k = go (eqb k d) refl
  where
    go : (b : Bool) → eqb k d ≡ b → x k ≡ cond b (λ r. x d r ⊕ false) (x k)
    go true e = ap x (eqb-true k d e) ∙ fun_ext (λ r. sym (xor_none (x d r)))
    go false e = refl

after_more : (Z d s a : ℕ) (ts : List ℕ) → eqb s d ≡ false → (x : Blocks) (k : ℕ)
    → after Z d s ts (step Z (add d s a) x) k ≡ after Z d s (a ∷ ts) x k
after_more Z d s a ts apart x k =
    ap₂ (λ (f g : ℕ → Bool). cond (eqb k d) ((block_kind Z).plus f g ts) (step Z (add d s a) x k)) to from
    ∙ go (eqb k d)
  where
    sum : ℕ → Bool
    sum r = x d r ⊕ x s ((r + a) % Z)

    to : step Z (add d s a) x d ≡ sum
    to = fun_ext (λ r. rw (eq-eqb d d refl))

    from : step Z (add d s a) x s ≡ x s
    from = fun_ext (λ r. rw apart)

    go : (b : Bool) → cond b ((block_kind Z).plus sum (x s) ts) (λ r. cond b (sum r) (x k r))
        ≡ cond b ((block_kind Z).plus (x d) (x s) (a ∷ ts)) (x k)
    go true = fun_ext (λ r. xor_assoc (x d r) (x s ((r + a) % Z)) (turned_by Z ts (x s) r))
    go false = refl

steps_after : (Z d s : ℕ) (ts : List ℕ) → eqb s d ≡ false → (x : Blocks) → follow Z (steps d s ts) x ≡ after Z d s ts x
steps_after Z d s [] apart x = fun_ext (after_none Z d s x)
steps_after Z d s (a ∷ ts) apart x =
    steps_after Z d s ts apart (step Z (add d s a) x) ∙ fun_ext (after_more Z d s a ts apart x)

listed_follow : (Z n : ℕ) (gs : List Group) → T (all (sound n) gs) → (g : List (ℕ → Bool))
    → at (block_kind Z) (listed (block_kind Z) gs g) ≡ follow Z (flat gs) (at (block_kind Z) g)
listed_follow Z n [] t g = refl
listed_follow Z n (group d s ts ∷ gs) t g =
    let apart = sound_apart n d s ts (both_left (sound n (group d s ts)) (all (sound n) gs) t) in
    let rest = both_right (sound n (group d s ts)) (all (sound n) gs) t in
    let x = at (block_kind Z) g in
    let sum = (block_kind Z).plus (x d) (x s) ts in
    listed_follow Z n gs rest (put (block_kind Z) g d sum)
    ∙ ap (follow Z (flat gs)) (fun_ext (put_at (block_kind Z) g d sum) ∙ sym (steps_after Z d s ts apart x))
    ∙ sym (follow_append Z (steps d s ts) (flat gs) x)

pub firsts_follow : (Z n m : ℕ) (gs : List Group) → T (all (sound n) gs) → (x : Blocks)
    → at (block_kind Z) (listed (block_kind Z) gs (firsts m x)) ≡ follow Z (flat gs) (leading m x)
firsts_follow Z n m gs sounds x =
    listed_follow Z n gs sounds (firsts m x) ∙ ap (follow Z (flat gs)) (fun_ext (λ k. firsts_at m x k (λ r. false)))
