-- `parity::solve` meets its contract: the recipe is followed from the checks and zeros after them. The code's constant
-- is the recipe, by computing both.
use mathlib.Core.Path.{◌≡◌, refl, ◌∙◌}
use mathlib.Core.List.{List, ◌++◌}
use Prim.Native.Nat.{ℕ, ◌+◌, ◌-◌, ◌*◌, ◌/◌, ◌≤◌, ◌<◌}
use native.Mathlib.Omega.{arith}
use lib.Dec.{lit<, lit≤}
use lib.ListN.{length, replicate, length-append, length-replicate, length-take, length-drop}
use Rattle.rules.specs.Bits.{bit, need, Packed}
use Rattle.rules.specs.Matrix.{checks}
use Rattle.rules.specs.Table.{fibre}
use Rattle.laws.proofs.Bits.{bit_front, bit_back, bit_zeros, bit_past, bit_part}
use Rattle.recipes.proofs.Steps.{codes_fit, followed_own}
use Rattle.parity.proofs.Recipe.{recipe}
use Rattle.parity.proofs.Solved.{registers, fibre_solves, fibre_coded}
use Rattle.parity.proofs.solve.Goals as goal

-- the bytes of the checks, and of a parity; those of all registers; and those after the checks
abbrev parityBytes : ℕ
parityBytes = need (checks fibre)

abbrev registerBytes : ℕ
registerBytes = fibre.size * registers / 8

abbrev restBytes : ℕ
restBytes = registerBytes - parityBytes

-- checks, and zeros after them
module _ (s : List ℕ) (long : length s ≡ parityBytes) where
  size : length (s ++ replicate restBytes 0) ≡ registerBytes
  size = rw (length-append, length-replicate) (omega arith)

  begins : (n : ℕ) → n < checks fibre → bit (s ++ replicate restBytes 0) n ≡ bit s n
  begins n h = bit_front s (replicate restBytes 0) n (omega arith)

  clear : (n : ℕ) → checks fibre ≤ n → bit (s ++ replicate restBytes 0) n ≡ 0
  clear n h =
      let k = n - 8 * parityBytes in
      let e : n ≡ 8 * parityBytes + k = omega arith in
      rw e (bit_back s (replicate restBytes 0) parityBytes k long ∙ bit_zeros restBytes k)

-- the parity takes all the bits of its bytes
packed : (p : List ℕ) → length p ≡ parityBytes → Packed (checks fibre) p
packed p long = record {
  bytes = long;
  unused = λ u. let l = u.1 in omega (arith, u.2, bit_past p u.0 (omega arith));
}

pub follow-requires : goal.follow-requires
unfolding recipe
follow-requires c =
    let long = size c.copy_from_slice.new.self (omega arith) in
    (lit< tt, lit≤ tt, omega arith, codes_fit fibre_solves fibre_coded refl _ (omega arith))

pub returns : goal.returns
unfolding recipe
returns c =
    let read = c.copy_from_slice-2 in
    let begun = c.copy_from_slice in
    let s = begun.new.self in
    let y = c.follow.new.registers in
    let long : length s ≡ parityBytes = omega arith in
    let made = c.follow.ensures.length_same in
    rw (read.ensures.after, ← begun.ensures.after)
    (followed_own fibre_solves fibre_coded refl (s ++ replicate restBytes 0) y s _ (begins s long) (clear s long)
    c.follow.ensures
    (packed _ (simp (length-take, length-drop) (omega (arith, made, size s long))))
    (λ t h. bit_part y parityBytes parityBytes t (omega arith)))
