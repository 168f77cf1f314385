-- Laws of a line word's tail: the sent parity, then the delimiter. Any format.
--
--   tail_low, tail_high  a bit of the tail: an outgoing one of the parity p, and of the delimiter d
--   tail_bits_law        a tail is bits
--   tail_same            tails of parities with the same sent bits are the same
--   line_high            a bit of the line word, after the K bits of its payload x, is one of the tail
use mathlib.Core.Path.{◌≡◌, refl, ◌∙◌}
use mathlib.Core.List.{List}
use Prim.Native.Nat.{ℕ, ◌+◌, ◌-◌, ◌<◌}
use native.Mathlib.Omega.{arith}
use lib.Dec.{lit<}
use Rattle.rules.specs.Bits.{zeros, run}
use Rattle.rules.specs.Formats.{Format}
use Rattle.rules.specs.Words.{digit, outgoing, tail, line_word}
use Rattle.laws.proofs.Bits.{bit<}
use Rattle.laws.proofs.Numbers.{digit<}
use Rattle.laws.proofs.Runs.{run_low, run_high, run_below, run_same}

module _ (f : Format) where
  module _ (p : List ℕ) (d : ℕ) where
    abbrev digits : ℕ → ℕ
    digits = run f.delimiter (digit d) zeros

    pub tail_low : (t : ℕ) → t < f.sent → tail f p d t ≡ outgoing f p t
    tail_low t h = run_low f.sent (outgoing f p) digits t h

    pub tail_high : (t : ℕ) → t < f.delimiter → tail f p d (f.sent + t) ≡ digit d t
    tail_high t h =
        let e : f.sent + t - f.sent ≡ t = omega arith in
        run_high f.sent (outgoing f p) digits (f.sent + t) (omega arith)
        ∙ rw e (run_low f.delimiter (digit d) zeros t h)

    pub tail_bits_law : (n : ℕ) → tail f p d n < 2
    tail_bits_law =
        run_below f.sent (outgoing f p) digits (λ n l. bit< p (f.second n))
        (run_below f.delimiter (digit d) zeros (λ n l. digit< d n) (λ n. lit< tt))

  pub tail_same : (p q : List ℕ) (d : ℕ) → ((n : ℕ) → n < f.sent → outgoing f p n ≡ outgoing f q n) → (n : ℕ)
      → tail f p d n ≡ tail f q d n
  tail_same p q d e = run_same f.sent (outgoing f p) _ (outgoing f q) _ e (λ n. refl)

  pub line_high : (K : ℕ) (x : ℕ → ℕ) (p : List ℕ) (d n : ℕ) → line_word f K x p d (K + n) ≡ tail f p d n
  line_high K x p d n =
      let e : K + n - K ≡ n = omega arith in
      run_high K x (tail f p d) (K + n) (omega arith) ∙ rw e
