-- Laws of bits that are written.
--
--   written_as    what is written is any equal bits
use mathlib.Core.Path.{◌≡◌, refl, ◌∙◌}
use mathlib.Core.List.{List}
use Prim.Native.Nat.{ℕ, ◌<◌}
use Rattle.rules.specs.Bits.{zeros, Written}
use Rattle.laws.proofs.Runs.{run_same}

pub written_as : {b : ℕ} {x y : ℕ → ℕ} {s t : List ℕ} → ((n : ℕ) → n < b → x n ≡ y n) → Written b x s t
    → Written b y s t
written_as {b} {x} {y} e w = record {
  length_same = w.length_same;
  bits = λ n h. w.bits n h ∙ run_same b x zeros y zeros e (λ m. refl) n;
  after = w.after;
}
