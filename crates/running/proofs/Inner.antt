-- The inner places of the fibre code, as bytes: bits of outer ones that were picked by the first list.
--
--   inner_blocks    the payload blocks of such bytes are the outer places, reordered
use mathlib.Core.Path.{◌≡◌, sym, ap, ◌∙◌}
use mathlib.Core.List.{List}
use Prim.Native.Nat.{ℕ, ◌-◌, ◌*◌, ◌≤◌}
use native.Mathlib.Omega.{arith}
use lib.ListN.{length}
use Rattle.rules.specs.Bits.{bit, zeros}
use Rattle.rules.specs.Matrix.{places_of_payload}
use Rattle.rules.specs.Table.{fibre}
use Rattle.rules.specs.Words.{reordered}
use Rattle.rules.specs.Terms.{by_first}
use Rattle.laws.proofs.Runs.{run_each}
use Rattle.laws.proofs.Reorderings.{place_low, place_high}
use Rattle.lists.specs.Picked.{Picked}
use Rattle.running.specs.Running.{blocks_of}
use Rattle.running.proofs.Blocks.{first_blocks}

-- outer has the bits of x, and x is 0 from the payload places on
pub inner_blocks : {a outer s inner : List ℕ} (x : ℕ → ℕ) → 8 * length s ≡ places_of_payload fibre
    → Picked a outer s inner → ((n : ℕ) → bit outer n ≡ x n) → ((n : ℕ) → places_of_payload fibre ≤ n → x n ≡ 0)
    → (n : ℕ) → blocks_of fibre.size inner 0 (fibre.columns - fibre.rows) n ≡ reordered (by_first a) x n
inner_blocks {a} {outer} {s} {inner} x long p same past n =
    let all = places_of_payload fibre in
    first_blocks fibre.size inner (fibre.columns - fibre.rows) n
    ∙ run_each all (bit inner) zeros n (λ v. v ≡ reordered (by_first a) x n)
    (λ l. p.each n (omega arith) ∙ same _ ∙ ap x (sym (place_low all a n l)))
    (λ l. sym (ap x (place_high all a n l) ∙ past n l))
