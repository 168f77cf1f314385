-- Laws of runs of bits that move by numbers.
--
--   at_place       a number read at byte and weight of place 64 k of a run that begins at p
--   adds_bytes     whole bytes, copied to where bits are 0
--   adds_number    m bits of such a number, added where 64 k bits of the run are added already
use mathlib.Core.Path.{◌≡◌, sym, ap, ◌∙◌}
use mathlib.Core.List.{List, ◌++◌}
use Prim.Native.Nat.{ℕ, ◌+◌, ◌-◌, ◌*◌, ◌/◌, ◌%◌, ◌≤◌, ◌<◌}
use native.Mathlib.Omega.{arith}
use lib.ListN.{length, take, drop, length-append, length-drop}
use lib.Seq.{length-take-le}
use Rattle.rules.specs.Bits.{bit, placed, Adds}
use Rattle.rules.specs.Words.{digit}
use Rattle.laws.proofs.Bits.{bit<, bit_take, bit_drop, bit_front, bit_back}
use Rattle.laws.proofs.Runs.{placed_same, placed_each}
use Rattle.laws.proofs.Adds.{adds_as, adds_join}
use Rattle.numbers.specs.Numbers.{Holds}

pub at_place : (s : List ℕ) (p k : ℕ) {x : ℕ} → Holds x (λ i. bit s (8 * (p / 8 + 8 * k) + p % 8 + i))
    → Holds x (λ i. bit s (p + (64 * k + i)))
at_place s p k h = record { each = λ i l. h.each i l ∙ ap (bit s) (omega arith) }

module _ {s t u : List ℕ} (f : ℕ → ℕ) (p k m : ℕ) {x : ℕ} where
  pub adds_number : m ≤ 64 → Adds s t (placed p (64 * k) f) → Holds x (λ i. f (64 * k + i))
      → Adds t u (placed (8 * (p / 8 + 8 * k) + p % 8) m (digit x)) → Adds s u (placed p (64 * k + m) f)
  adds_number less a h b =
      let place : 8 * (p / 8 + 8 * k) + p % 8 ≡ p + 64 * k = omega arith in
      adds_join p (64 * k) m f a
      (adds_as (λ n. placed_same (p + 64 * k) m _ _ (λ i l. h.each i (omega arith)) n) (rw place at b))

module _ (s u : List ℕ) (w : ℕ) (fits : w ≤ length s) (there : w ≤ length u)
    (clear : (n : ℕ) → n < 8 * w → bit s n ≡ 0) where
  long : length (take w u) ≡ w
  long = length-take-le w u there

  pub adds_bytes : Adds s (take w u ++ drop w s) (placed 0 (8 * w) (bit u))
  adds_bytes = record {
    length_same = simp (length-append, length-drop) (omega (arith, long));
    each = λ n.
        placed_each 0 (8 * w) (bit u) n (λ v. bit (take w u ++ drop w s) n ≡ (bit s n + v) % 2)
        (λ l. absurd (omega arith))
        (λ l h.
        let e : n - 0 ≡ n = omega arith in
        bit_front (take w u) (drop w s) n (omega (arith, long))
        ∙ bit_take u w n (omega arith)
        ∙ rw (clear n (omega arith), e) (omega (arith, bit< u n)))
        (λ l.
        let e : 8 * w + (n - 8 * w) ≡ n = omega arith in
        ap (bit (take w u ++ drop w s)) (sym e)
        ∙ bit_back (take w u) (drop w s) w (n - 8 * w) long
        ∙ bit_drop s w (n - 8 * w)
        ∙ rw e (omega (arith, bit< s n)));
  }
