-- Runs of bits as blocks of bits: place Z * k + r of a run is bit r of block k.
--
--   AreBits b p       the first b places of p are bits: below 2
--   bits Z p          the run of bits p as blocks of Z bits
--
--   as_bit_sum_law   the sum of two bits mod 2
--   runs_same        runs are the same where their blocks are
--   bits_as_bit_law  a run that has the bits of given blocks
use mathlib.Core.Path.{◌≡◌, refl, sym, ap, ap₂, ◌∙◌}
use mathlib.Core.Bool.{Bool, true, false}
use Prim.Native.Nat.{ℕ, ◌+◌, ◌*◌, ◌/◌, ◌%◌, ◌<◌}
use native.Mathlib.Nat.{mod-lt, div-add-mod}
use lib.Dec.{eqb}
use Rattle.rules.proofs.Tests.{as_bit, as_bit_bit_law, as_bit_told_law}
use Rattle.rules.proofs.Checks.{block_of, local_of, place_below, block_below}
use Rattle.recipes.proofs.Sums.{◌⊕◌}
use Rattle.recipes.proofs.Recipe.{Blocks, Near}

abbrev pub AreBits : ℕ → (ℕ → ℕ) → Type 0
AreBits b p = (t : ℕ) → t < b → p t < 2

abbrev pub bits : ℕ → (ℕ → ℕ) → Blocks
bits Z p k r = eqb (p (Z * k + r)) 1

pub as_bit_sum_law : (a b : Bool) → (as_bit a + as_bit b) % 2 ≡ as_bit (a ⊕ b)
as_bit_sum_law true true = refl
as_bit_sum_law true false = refl
as_bit_sum_law false true = refl
as_bit_sum_law false false = refl

bits_at : (Z : ℕ) (p : ℕ → ℕ) (t : ℕ) → bits Z p (t / Z) (t % Z) ≡ eqb (p t) 1
bits_at Z p t = ap (λ (n : ℕ). eqb (p n) 1) (div-add-mod t Z)

pub runs_same : (Z m : ℕ) → 0 < Z → (p q : ℕ → ℕ) → AreBits (Z * m) p → AreBits (Z * m) q
    → Near Z m (bits Z p) (bits Z q) → (t : ℕ) → t < Z * m → p t ≡ q t
runs_same Z m some p q are_p are-q near t h =
    sym (as_bit_bit_law (p t) (are_p t h))
    ∙ ap as_bit (sym (bits_at Z p t) ∙ near (t / Z) (t % Z) (block_below Z m t h) (mod-lt t some) ∙ bits_at Z q t)
    ∙ as_bit_bit_law (q t) (are-q t h)

pub bits_as_bit_law : (Z m : ℕ) (p : ℕ → ℕ) (x : Blocks) → ((t : ℕ) → t < Z * m → p t ≡ as_bit (x (t / Z) (t % Z)))
    → Near Z m (bits Z p) x
bits_as_bit_law Z m p x h i r hi hr =
    ap (λ (a : ℕ). eqb a 1) (h (Z * i + r) (place_below Z i m r hi hr))
    ∙ as_bit_told_law _
    ∙ ap₂ x (block_of Z i r hr) (local_of Z i r hr)
