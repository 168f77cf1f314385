-- Laws of what a text spells.
--
--   Begun i s r      r is what the first i bytes of s spell, and 0 before the first
--   begun_more       one byte more
--   spelled_same     a text spells one thing only
use mathlib.Core.Path.{◌≡◌, refl, sym, ap, ◌∙◌}
use mathlib.Core.Logic.{⊎_elim}
use mathlib.Core.List.{List}
use Prim.Native.Nat.{ℕ, zero, suc, ◌^◌, ◌≤◌, ◌<◌}
use native.Mathlib.Decide.{ℕ_discrete}
use native.Mathlib.Omega.{arith}
use lib.ListN.{length, get_or}
use Rattle.console.specs.Spelled.{IsDigit, Digits, value_of, WithByte, Spelled}
use Rattle.std.specs.Prelude.{Result, Ok, Err}
use Rattle.console.specs.declared.decimals.NotNumber.{NotNumber}
use Rattle.console.specs.declared.decimals.NotNumber.TheVariants.{Nothing, TooLarge}

abbrev pub Begun : ℕ → List ℕ → Result ℕ NotNumber → Type 0
Begun i s (Ok n) = Digits i s × (n ≡ value_of i s) × (n < 2 ^ 64)
Begun i s (Err Nothing) = (k : ℕ) × (k < i) × (IsDigit (get_or s k 0) → ⊥)
Begun i s (Err TooLarge) = Digits i s × (2 ^ 64 ≤ value_of i s)

digits_more : (i : ℕ) (s : List ℕ) → Digits i s → IsDigit (get_or s i 0) → Digits (suc i) s
digits_more i s before here k h = elim (ℕ_discrete k i) [
  | yes e ↦ rw e here
  | no d ↦ before k (omega arith)
]

pub begun_more : (i : ℕ) (s : List ℕ) (a r : Result ℕ NotNumber)
    → Begun i s a → WithByte a (get_or s i 0) r → Begun (suc i) s r
unfolding value_of
begun_more i s (Ok v) (Ok n) h w = (digits_more i s h.0 w.0, omega (arith, h.1, w.1), w.2)
begun_more i s (Ok v) (Err Nothing) h w = (i, omega arith, w)
begun_more i s (Ok v) (Err TooLarge) h w = (digits_more i s h.0 w.0, omega (arith, h.1, w.1))
begun_more i s (Err Nothing) r h w = rw w (h.0, omega (arith, h.1), h.2)
begun_more i s (Err TooLarge) (Ok n) h w = absurd w
begun_more i s (Err TooLarge) (Err Nothing) h w = (i, omega arith, w)
begun_more i s (Err TooLarge) (Err TooLarge) h w = (digits_more i s h.0 w, omega (arith, h.1))

-- digits alone, and at least one of them, spell something
some : (s : List ℕ) → 0 < length s → Digits (length s) s → Spelled s (Err Nothing) → ⊥
some s l d = ⊎_elim (λ e. omega arith) (λ h. h.2 (d h.0 h.1))

-- no bytes spell no large number
large_some : (n : ℕ) (s : List ℕ) → 2 ^ 64 ≤ value_of n s → 0 < n
unfolding value_of
large_some zero s h = absurd (omega arith)
large_some (suc n) s h = omega arith

pub spelled_same : (s : List ℕ) (a b : Result ℕ NotNumber) → Spelled s a → Spelled s b → a ≡ b
spelled_same s (Ok n) (Ok m) p q = ap Ok (p.2 ∙ sym q.2)
spelled_same s (Ok n) (Err Nothing) p q = absurd (some s p.0 p.1 q)
spelled_same s (Ok n) (Err TooLarge) p q = absurd (omega (arith, p.2, p.3, q.1))
spelled_same s (Err Nothing) (Ok m) p q = absurd (some s q.0 q.1 p)
spelled_same s (Err Nothing) (Err Nothing) p q = refl
spelled_same s (Err Nothing) (Err TooLarge) p q = absurd (some s (large_some (length s) s q.1) q.0 p)
spelled_same s (Err TooLarge) (Ok m) p q = absurd (omega (arith, q.2, q.3, p.1))
spelled_same s (Err TooLarge) (Err Nothing) p q = absurd (some s (large_some (length s) s p.1) p.0 q)
spelled_same s (Err TooLarge) (Err TooLarge) p q = refl
