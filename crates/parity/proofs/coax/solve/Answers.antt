-- `parity::coax::solve` meets its contract: the recipe is followed from the checks and zeros after them.
use mathlib.Core.Path.{◌≡◌, refl, ap, ◌∙◌}
use mathlib.Core.List.{List, ◌++◌}
use Prim.Native.Nat.{ℕ, ◌+◌, ◌*◌, ◌<◌}
use native.Mathlib.Decide.{dec_lt}
use native.Mathlib.Nat.{zero-add}
use native.Mathlib.Omega.{arith}
use lib.ListN.{length, drop, replicate, length-append, length-drop, length-replicate}
use Rattle.rules.specs.Bits.{bit, need, placed, Adds}
use Rattle.rules.specs.Matrix.{checks}
use Rattle.rules.specs.Coax.{coax_size, coax_code}
use Rattle.rules.specs.Words.{OwnChecks}
use Rattle.rules.specs.declared.CoaxCode.{CoaxCode}
use Rattle.rules.proofs.CoaxLaws.{coax_numbers}
use Rattle.laws.proofs.Bits.{bit<, bit_zeros, bit_past, bit_cleared}
use Rattle.laws.proofs.Parities.{moved_bit, moved_past, moved_packed}
use Rattle.recipes.specs.Steps.{Followed}
use Rattle.recipes.proofs.Steps.{codes_fit, followed_own}
use Rattle.parity.specs.CoaxRecipes.{coax_steps}
use Rattle.parity.proofs.CoaxSolved.{coax_solves, coax_coded}
use Rattle.parity.proofs.coax.solve.Goals as goal

-- bytes s that are all cleared
module _ (s : List ℕ) {z : List ℕ} (cleared : z ≡ replicate (length s) 0 ++ drop (length s) s) where
  cleared_length : length z ≡ length s
  cleared_length = rw cleared (simp (length-append, length-replicate, length-drop) (omega arith))

  cleared_bit : (n : ℕ) → bit z n ≡ 0
  cleared_bit n = elim (dec_lt n (8 * length s)) [
    | yes h ↦ rw cleared (bit_cleared s (length s) n h)
    | no h ↦ bit_past z n (omega (arith, cleared_length))
  ]

-- the registers are x before the recipe, and y after it
solved : (k : CoaxCode) (m : ℕ) (s x y z p : List ℕ)
    → Adds (replicate m 0) x (placed 0 (checks (coax_code k)) (λ t. bit s (0 + t)))
    → Followed (coax_size k) (coax_steps k) x y → ((n : ℕ) → bit z n ≡ 0) → length z ≡ need (checks (coax_code k))
    → Adds z p (placed 0 (checks (coax_code k)) (λ t. bit y (checks (coax_code k) + t)))
    → OwnChecks (coax_code k) s p
solved k m s x y z p put done clear long read =
    let b = checks (coax_code k) in
    let bits : (n : ℕ) → bit s (0 + n) < 2 = λ n. bit< s (0 + n) in
    followed_own (coax_solves k) (coax_coded k) refl x y s p
    (λ t h. moved_bit b bits (bit_zeros m) put t h ∙ ap (bit s) (zero-add t))
    (λ t h. moved_past b bits (bit_zeros m) put t h)
    done (moved_packed b (λ n. bit< y (b + n)) clear read long)
    (moved_bit b (λ n. bit< y (b + n)) clear read)

pub follow-requires : goal.follow-requires
follow-requires c =
    let size = c.size-size.ensures in
    let k = c.args.code in
    let n = coax_numbers k in
    rw (size, c.recipe_of-recipe.ensures) (
      n.some,
      omega (arith, n.size),
      omega arith,
      codes_fit (coax_solves k) (coax_coded k) refl _ (omega (arith, n.size)),
    )

pub add_run-requires-2 : goal.add_run-requires-2
add_run-requires-2 c =
    let n = coax_numbers c.args.code in
    let long = cleared_length c.args.parity.now c.clear.ensures in
    let all = c.checks-all.ensures in
    let made = c.follow.ensures.length_same in
    let begun = c.add_run.ensures.length_same in
    (omega arith, omega (arith, n.size))

pub returns : goal.returns
returns c =
    let s = c.args.checks.now in
    let p = c.args.parity.now in
    let all = c.checks-all.ensures in
    let clear = c.clear.ensures in
    solved c.args.code 450 s c.add_run.new.s c.follow.new.registers c.clear.new.s _
    (rw all at c.add_run.ensures)
    (rw (c.size-size.ensures, c.recipe_of-recipe.ensures) at c.follow.ensures)
    (cleared_bit p clear) (cleared_length p clear ∙ c.requires.1)
    (rw all at c.add_run-2.ensures)
