-- Paper 01, 'Verdicts', and W2 of paper 02: a line word that some punctured bits complete. The fibre code has 512 of
-- them, in 64 bytes.
--
--   all_outgoing f K l q  all outgoing parity bits of the line word l: its sent parity, then the punctured bits q
--   Completes f K l d q   q, the bytes of the punctured bits alone, completes l: there is a parity that makes every
--                         check of the full word of l's payload hold, and that goes out so; and l's delimiter is d
--
-- Believe this file beside the paper; nothing here is proved.
use Rattle.std.specs.Prelude.{◌≡◌, List, ℕ, ◌+◌, ◌-◌, ◌<◌}
use Rattle.rules.specs.Bits.{bit, run, Packed}
use Rattle.rules.specs.Matrix.{checks}
use Rattle.rules.specs.Formats.{Format}
use Rattle.rules.specs.Words.{padded, reordered, Parity, digit, outgoing}

abbrev pub all_outgoing : Format → ℕ → List ℕ → List ℕ → ℕ → ℕ
all_outgoing f K l q = run f.sent (λ n. bit l (K + n)) (bit q)

pub record Completes (f : Format) (K : ℕ) (l : List ℕ) (d : ℕ) (q : List ℕ) : Type 0 where
  pub punctured : Packed (checks f.code - f.sent) q
  pub parity : (p : List ℕ) × Parity f.code (reordered f (padded K (bit l))) p
      × ((n : ℕ) → n < checks f.code → outgoing f p n ≡ all_outgoing f K l q n)
  pub delimiter : (n : ℕ) → n < f.delimiter → bit l (K + f.sent + n) ≡ digit d n
