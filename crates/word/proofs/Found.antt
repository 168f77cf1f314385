-- What the scan of the rows finds, as paper 01's verdicts say it. Over any code.
--
--   scanned_lowest    where a row fails, the scan found the lowest
--   scanned_some      and it found one
use mathlib.Core.Path.{◌≡◌, refl, ap, ◌∙◌}
use Prim.Native.Nat.{ℕ}
use lib.Dec.{eqb}
use Rattle.std.specs.Prelude.{Option, Some, None, IsSome, unwrap_or}
use Rattle.rules.specs.Matrix.{Code, checks}
use Rattle.rules.specs.Verdicts.{Lowest, Fails, row_fails, how_many}
use Rattle.rules.proofs.Counting.{how_many_none_law}
use Rattle.laws.proofs.Judged.{failing_lowest}
use Rattle.rows.specs.Scan.{Scanned}

pub scanned_lowest : (c : Code) {w : ℕ → ℕ} {m r : ℕ} → m ≡ how_many (checks c) (row_fails c w) → (m ≡ 0 → ⊥)
    → Scanned c w r → Lowest (Fails c w) r
scanned_lowest c {w} counted some s = failing_lowest c w counted some s.hold s.fails

pub scanned_some : (c : Code) {w : ℕ → ℕ} {m : ℕ} (r : Option ℕ) → m ≡ how_many (checks c) (row_fails c w)
    → (m ≡ 0 → ⊥) → Scanned c w (unwrap_or r (checks c)) → IsSome r
scanned_some c (Some r) counted some s = refl
scanned_some c {w} None counted some s =
    absurd (
    some
    (counted
    ∙ how_many_none_law (checks c) (row_fails c w) (λ n l. ap (λ (x : ℕ). eqb x 1) (s.hold n l)))
    )
