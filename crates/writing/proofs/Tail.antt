-- The tail of a line word, added in two runs. Any format with a delimiter of no more than sixteen bits.
--
--   digits_right    the bits of the delimiter's bytes are the delimiter's
--   tail_added      the sent parity and then the delimiter's bits, added one after the other, are the tail
use mathlib.Core.Path.{◌≡◌, sym, ap, ◌∙◌}
use mathlib.Core.List.{List}
use Prim.Native.Nat.{ℕ, ◌+◌, ◌-◌, ◌*◌, ◌/◌, ◌≤◌, ◌<◌}
use native.Mathlib.Decide.{dec_lt}
use native.Mathlib.Omega.{arith}
use Rattle.rules.specs.Bits.{bit, placed, Adds}
use Rattle.rules.specs.Formats.{Format}
use Rattle.rules.specs.Words.{digit, outgoing, tail, tail_bits}
use Rattle.laws.proofs.Adds.{adds_join, adds_as}
use Rattle.laws.proofs.Bits.{bit_digit}
use Rattle.laws.proofs.Numbers.{digit_low, digit_right}
use Rattle.laws.proofs.Runs.{placed_same}
use Rattle.laws.proofs.Tails.{tail_low, tail_high}
use Rattle.writing.specs.Digits.{digit_bytes}

pub digits_right : (d t : ℕ) → t < 16 → bit (digit_bytes d) t ≡ digit d t
digits_right d t h = elim (dec_lt t 8) [
  | yes l ↦
      let e : t ≡ 8 * 0 + t = omega arith in
      ap (bit (digit_bytes d)) e ∙ bit_digit (digit_bytes d) 0 t l ∙ digit_low d 8 t l
  | no l ↦
      let e : t ≡ 8 * 1 + (t - 8) = omega arith in
      let back : t - 8 + 8 ≡ t = omega arith in
      ap (bit (digit_bytes d)) e
      ∙ bit_digit (digit_bytes d) 1 (t - 8) (omega arith)
      ∙ digit_low (d / 256) 8 (t - 8) (omega arith)
      ∙ digit_right d 8 (t - 8)
      ∙ ap (digit d) back
]

module _ (f : Format) (few : f.delimiter ≤ 16) (p : List ℕ) (d : ℕ) where
  -- q are the sent bits of p
  pub tail_added : {s t u : List ℕ} (q : List ℕ) (at : ℕ) → ((k : ℕ) → k < f.sent → bit q k ≡ outgoing f p k)
      → Adds s t (placed at f.sent (λ k. bit q (0 + k)))
      → Adds t u (placed (at + f.sent) f.delimiter (λ k. bit (digit_bytes d) (0 + k)))
      → Adds s u (placed at (tail_bits f) (tail f p d))
  tail_added q at sent a b =
      adds_join at f.sent f.delimiter (tail f p d)
      (adds_as (placed_same at f.sent _ _
      (λ k l. let z : 0 + k ≡ k = omega arith in rw z (sent k l ∙ sym (tail_low f p d k l)))) a)
      (adds_as (placed_same (at + f.sent) f.delimiter _ _
      (λ k l. let z : 0 + k ≡ k = omega arith in
      rw z (digits_right d k (omega arith) ∙ sym (tail_high f p d k l)))) b)
