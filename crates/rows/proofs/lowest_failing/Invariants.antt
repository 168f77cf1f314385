-- `rows::lowest_failing` meets its contract. The invariants: the rows passed hold, and the entries passed of a row are
-- added up.
use mathlib.Core.Path.{◌≡◌}
use Prim.Native.Nat.{ℕ, ◌-◌, ◌≤◌, ◌<◌}
use Rattle.rules.specs.Bits.{bit}
use Rattle.rules.specs.Matrix.{checks, total, check}
use Rattle.rules.specs.Table.{fibre}
use Rattle.rules.specs.Terms.{term}
use Rattle.rows.proofs.lowest_failing.Given as goal

abbrev pub invariant-loop-j : goal.invariant-loop-j
invariant-loop-j l =
    (l.j ≤ fibre.columns) × (l.ones ≤ l.j) × (l.ones ≡ total l.j (term fibre l.row (bit l.word)))

abbrev pub decreases-loop-j : goal.decreases-loop-j
decreases-loop-j l = fibre.columns - l.j

abbrev pub invariant-loop-row : goal.invariant-loop-row
invariant-loop-row l = (l.row ≤ checks fibre) × ((n : ℕ) → n < l.row → check fibre n (bit l.word) ≡ 0)

abbrev pub decreases-loop-row : goal.decreases-loop-row
decreases-loop-row l = checks fibre - l.row
