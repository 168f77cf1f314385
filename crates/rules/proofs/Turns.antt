-- An entry that the code converts to a turn.
--
--   turn_told    where the conversion succeeds, the entry is that turn
--   zero_told    where it fails, the entry is that of a zero block
use mathlib.Core.Path.{◌≡◌, refl, sym, ap, ◌∙◌}
use Prim.Native.Nat.{ℕ}
use native.Mathlib.Omega.{arith}
use lib.IntN.{ℤ, pos, negsuc}
use mir.Facts.{to_z-of_z}
use mir.Syntax.{w16}
use mir.Val.{SFits, to_z, of_z}
use Rattle.std.specs.Int.{FitsUnsignedBits}
use Rattle.std.specs.Prelude.{unsigned_abs}

taken : (e : ℤ) (t : ℕ) → FitsUnsignedBits 64 e → t ≡ unsigned_abs e → e ≡ pos t
taken (pos n) t h same = ap pos (sym same)
taken (negsuc n) t h same = absurd h

left : (e : ℤ) → SFits w16 e → (FitsUnsignedBits 64 e → ⊥) → (n : ℕ) × (e ≡ negsuc n)
left (pos n) fits h = absurd (h (omega (arith, fits.sfits)))
left (negsuc n) fits h = (n, refl)

-- a is what the code holds of the entry e
module _ {a e : ℤ} (fits : SFits w16 a) (same : a ≡ e) where
  pub turn_told : {t : ℕ} → FitsUnsignedBits 64 (to_z w16 (of_z w16 a)) × (t ≡ unsigned_abs (to_z w16 (of_z w16 a)))
      → e ≡ pos t
  turn_told {t} h = sym same ∙ taken a t (rw (to_z-of_z fits) at h.0) (rw (to_z-of_z fits) at h.1)

  pub zero_told : (FitsUnsignedBits 64 (to_z w16 (of_z w16 a)) → ⊥) → (n : ℕ) × (e ≡ negsuc n)
  zero_told h = rw (← same) (left a fits (rw (to_z-of_z fits) at h))
