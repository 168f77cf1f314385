-- A recipe: steps that add one register, turned, to another. A register is a block of Z bits, for any Z.
--
--   Blocks               blocks of bits: bit r of block k
--   leading m x          the first m blocks of x, and nothing after them
--   Near Z n x y         x and y are the same in the first Z bits of the first n blocks
--   Step, add d s a      a step: register d becomes register d plus register s turned by a
--   step Z c x           the registers x after the step c
--   follow Z cs x        the registers x after the steps cs
--   Group, group d s ts  a group of steps: they add register s to register d, one for each turn in ts
--   steps d s ts         the steps of a group
--   flat gs              the steps of the groups gs, in order
--   sound n g            the group g stays within n registers, and adds none to itself
--
--   sound_apart       the two registers of a sound group are not the same
--   follow_append     the registers after steps and then more steps
--   step_near         what a step makes of n registers is known from these registers
--   follow_near       so is what sound groups make
use mathlib.Core.Path.{◌≡◌, refl, ap₂}
use mathlib.Core.Bool.{Bool, true, false, not, cond}
use mathlib.Core.List.{List, [], ◌∷◌, ◌++◌}
use Prim.Native.Nat.{ℕ, ◌+◌, ◌%◌, ◌<◌}
use native.Mathlib.Nat.{mod-lt}
use lib.Dec.{T, eqb, ltb, ltb→lt}
use Rattle.rules.proofs.Tests.{both, both_left, both_right, all}
use Rattle.recipes.proofs.Sums.{◌⊕◌}

abbrev pub Blocks : Type 0
Blocks = ℕ → ℕ → Bool

abbrev pub leading : ℕ → Blocks → Blocks
leading m x k = cond (ltb k m) (x k) (λ r. false)

abbrev pub Near : ℕ → ℕ → Blocks → Blocks → Type 0
Near Z n x y = (k r : ℕ) → k < n → r < Z → x k r ≡ y k r

pub data Step : Type 0 where
  add : ℕ → ℕ → ℕ → Step

abbrev pub step : ℕ → Step → Blocks → Blocks
step Z (add d s a) x k r = cond (eqb k d) (x d r ⊕ x s ((r + a) % Z)) (x k r)

abbrev pub follow : ℕ → List Step → Blocks → Blocks
follow Z [] x = x
follow Z (c ∷ cs) x = follow Z cs (step Z c x)

pub data Group : Type 0 where
  group : ℕ → ℕ → List ℕ → Group

abbrev pub steps : ℕ → ℕ → List ℕ → List Step
steps d s [] = []
steps d s (a ∷ ts) = add d s a ∷ steps d s ts

abbrev pub flat : List Group → List Step
flat [] = []
flat (group d s ts ∷ gs) = steps d s ts ++ flat gs

abbrev pub sound : ℕ → Group → Bool
sound n (group d s ts) = both (both (ltb d n) (ltb s n)) (not (eqb s d))

sound_within : (n d s : ℕ) (ts : List ℕ) → T (sound n (group d s ts)) → (d < n) × (s < n)
sound_within n d s ts t =
    let within = both_left (both (ltb d n) (ltb s n)) (not (eqb s d)) t in
    (ltb→lt d n (both_left (ltb d n) (ltb s n) within), ltb→lt s n (both_right (ltb d n) (ltb s n) within))

pub sound_apart : (n d s : ℕ) (ts : List ℕ) → T (sound n (group d s ts)) → eqb s d ≡ false
sound_apart n d s ts t = unset (eqb s d) (both_right (both (ltb d n) (ltb s n)) (not (eqb s d)) t)
  where
    unset : (b : Bool) → T (not b) → b ≡ false
    unset true u = absurd u
    unset false u = refl

pub follow_append : (Z : ℕ) (cs ds : List Step) (x : Blocks) → follow Z (cs ++ ds) x ≡ follow Z ds (follow Z cs x)
follow_append Z [] ds x = refl
follow_append Z (c ∷ cs) ds x = follow_append Z cs ds (step Z c x)

module _ (Z n : ℕ) (some : 0 < Z) where
  pub step_near : (d s a : ℕ) → d < n → s < n → (x y : Blocks) → Near Z n x y
      → Near Z n (step Z (add d s a) x) (step Z (add d s a) y)
  step_near d s a hd hs x y near k r hk hr =
      ap₂ (cond (eqb k d)) (ap₂ ◌⊕◌ (near d r hd hr) (near s ((r + a) % Z) hs (mod-lt (r + a) some))) (near k r hk hr)

  steps_near : (d s : ℕ) (ts : List ℕ) → d < n → s < n → (x y : Blocks) → Near Z n x y
      → Near Z n (follow Z (steps d s ts) x) (follow Z (steps d s ts) y)
  steps_near d s [] hd hs x y near = near
  steps_near d s (a ∷ ts) hd hs x y near =
      steps_near d s ts hd hs (step Z (add d s a) x) (step Z (add d s a) y) (step_near d s a hd hs x y near)

  pub follow_near : (gs : List Group) → T (all (sound n) gs) → (x y : Blocks) → Near Z n x y
      → Near Z n (follow Z (flat gs) x) (follow Z (flat gs) y)
  follow_near [] t x y near = near
  follow_near (group d s ts ∷ gs) t x y near =
      let within = sound_within n d s ts (both_left (sound n (group d s ts)) (all (sound n) gs) t) in
      let rest = both_right (sound n (group d s ts)) (all (sound n) gs) t in
      rw (follow_append Z (steps d s ts) (flat gs) x, follow_append Z (steps d s ts) (flat gs) y)
      (follow_near gs rest (follow Z (steps d s ts) x) (follow Z (steps d s ts) y)
      (steps_near d s ts within.0 within.1 x y near))
