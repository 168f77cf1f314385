-- The tail of a line word compared with the encoder's, as paper 01's verdicts say it.
--
--   difference_as       compared with equal bits
--   bytes_differ        compared with bytes is compared with the bits that they have
--   difference_lowest   where two runs of bits first differ
--   difference_none     where they do not
--   digits_differ       compared with the delimiter's bytes is compared with the delimiter
use mathlib.Core.Path.{◌≡◌, refl, ◌∙◌}
use mathlib.Core.List.{List}
use Prim.Native.Nat.{ℕ, ◌+◌, ◌≤◌, ◌<◌}
use native.Mathlib.Omega.{arith}
use Rattle.rules.specs.Bits.{bit}
use Rattle.rules.specs.Words.{digit}
use Rattle.rules.specs.Verdicts.{Lowest, Nowhere, Differs}
use Rattle.bits.specs.Searches.{FirstDifference}
use Rattle.writing.specs.Digits.{digit_bytes}
use Rattle.writing.proofs.Tail.{digits_right}

module _ {x y : ℕ → ℕ} {b r : ℕ} (f : FirstDifference x y b r) where
  pub difference_as : (z : ℕ → ℕ) → ((n : ℕ) → n < b → y n ≡ z n) → FirstDifference x z b r
  difference_as z e = record {
    high = f.high;
    same = λ n h. f.same n h ∙ e n (omega (arith, f.high));
    differs = λ h q. f.differs h (q ∙ rw (← e r h) refl);
  }

  pub difference_lowest : r < b → Lowest (Differs x y b) r
  difference_lowest h = ((h, f.differs h), λ n l d. d.1 (f.same n l))

  pub difference_none : b ≤ r → Nowhere (Differs x y b)
  difference_none h n d = d.1 (f.same n (omega (arith, d.0)))

pub bytes_differ : {x : ℕ → ℕ} {b r : ℕ} (s : List ℕ) (z : ℕ → ℕ) → ((n : ℕ) → n < b → bit s n ≡ z n)
    → FirstDifference x (λ n. bit s (0 + n)) b r → FirstDifference x z b r
bytes_differ s z e f = difference_as f z (λ n l. let at : 0 + n ≡ n = omega arith in rw at (e n l))

pub digits_differ : {x : ℕ → ℕ} {s : List ℕ} {b r : ℕ} (d : ℕ) → b ≤ 16 → s ≡ digit_bytes d
    → FirstDifference x (λ n. bit s (0 + n)) b r → FirstDifference x (digit d) b r
digits_differ {s = s} d h e = bytes_differ s (digit d) (λ n l. rw e (digits_right d n (omega arith)))
