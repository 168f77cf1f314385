-- A payload that is a piece at place 0, as its inner places reach the running checks of the fibre code.
--
--   piece_parity    what has these running checks as its own is the payload's parity
use mathlib.Core.Path.{◌≡◌, refl, ap, ◌∙◌}
use mathlib.Core.List.{List}
use Prim.Native.Nat.{ℕ, ◌≤◌}
use native.Mathlib.Omega.{arith}
use lib.ListN.{replicate}
use Rattle.rules.specs.Bits.{zeros, run, placed, Adds}
use Rattle.rules.specs.Matrix.{places_of_payload, check}
use Rattle.rules.specs.Table.{fibre}
use Rattle.rules.specs.Formats.{fibre_kept}
use Rattle.rules.specs.Words.{padded, reordered, Parity, OwnChecks}
use Rattle.rules.specs.Terms.{by_first}
use Rattle.laws.proofs.Runs.{run_high, run_each, run_none}
use Rattle.laws.proofs.Parities.{payload_found}
use Rattle.laws.proofs.Reorderings.{place_high}

module _ (a : List ℕ) (K : ℕ) (x : ℕ → ℕ) (less : K ≤ fibre_kept.most) where
  -- the payload is 0 from the payload places on, so its inner places are those and no more
  inner_payload : (n : ℕ)
      → reordered (by_first a) (placed 0 K x) n
      ≡ run (places_of_payload fibre) (reordered (by_first a) (padded K x)) zeros n
  inner_payload n =
      let m = (by_first a).first n in
      run_none zeros (run K x zeros) m
      ∙ run_each (places_of_payload fibre) (reordered (by_first a) (padded K x)) zeros n (λ v. padded K x m ≡ v)
      (λ l. refl)
      (λ l. ap (padded K x) (place_high (places_of_payload fibre) a n l) ∙ run_high K x zeros n (omega arith))

  pub piece_parity : (k : ℕ) {s p : List ℕ}
      → Adds (replicate k 0) s (λ n. check fibre n (reordered (by_first a) (placed 0 K x))) → OwnChecks fibre s p
      → Parity fibre (reordered (by_first a) (padded K x)) p
  piece_parity k {s} {p} added =
      payload_found fibre (reordered (by_first a) (padded K x)) _ k s p added (λ n l. inner_payload n)
