-- What the scan finds is single.
--
--   scanned_same    two rows that fit what the scan finds are equal
use mathlib.Core.Path.{◌≡◌}
use Prim.Native.Nat.{ℕ, ◌<◌}
use native.Mathlib.Decide.{dec_lt}
use native.Mathlib.Omega.{arith}
use Rattle.rules.specs.Matrix.{Code}
use Rattle.rows.specs.Scan.{Scanned}

-- a row below what one scan found holds, so no other finds it
not_below : {c : Code} {w : ℕ → ℕ} {r s : ℕ} → Scanned c w r → Scanned c w s → r < s → ⊥
not_below {r = r} a b h = omega (arith, b.hold r h, a.fails (omega (arith, b.within)))

pub scanned_same : (c : Code) (w : ℕ → ℕ) (r s : ℕ) → Scanned c w r → Scanned c w s → r ≡ s
scanned_same c w r s a b = elim (dec_lt r s) [
  | yes h ↦ absurd (not_below a b h)
  | no h ↦ elim (dec_lt s r) [
    | yes l ↦ absurd (not_below b a l)
    | no l ↦ omega arith
  ]
]
