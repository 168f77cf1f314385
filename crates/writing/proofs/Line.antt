-- A line word of any format, written by adding runs to cleared bytes.
--
--   written_cleared    cleared bytes are written with zeros
--   written_added      what is added to written bits, below their end, is written with them
--   payload_written    the payload's bits, added to zeros
--   tail_written       the tail, added to zeros
--   line_written       the tail, added after a payload that is written
use mathlib.Core.Path.{◌≡◌, refl, sym, ap, ◌∙◌}
use mathlib.Core.List.{List, ◌++◌}
use Prim.Native.Nat.{ℕ, ◌+◌, ◌-◌, ◌*◌, ◌%◌, ◌≤◌, ◌<◌}
use native.Mathlib.Omega.{arith}
use lib.Dec.{lit<}
use lib.ListN.{length, drop, replicate, length-drop, length-append, length-replicate}
use lib.Seq.{get_or-drop, drop_at}
use Rattle.rules.specs.Bits.{bit, Bytes, need, zeros, run, placed, Written, Adds}
use Rattle.rules.specs.Formats.{Format}
use Rattle.rules.specs.Words.{padded, tail, tail_bits, line_word, line_bits}
use Rattle.laws.proofs.Bits.{bit<, bit_drop, bit_cleared, bits_same}
use Rattle.laws.proofs.Runs.{run_low, run_high, run_each, run_below, run_none, placed_below, placed_in, placed_above}
use Rattle.laws.proofs.Tails.{tail_bits_law}

pub written_cleared : (b : ℕ) (s t : List ℕ) (k : ℕ) → k ≡ need b → k ≤ length s → t ≡ replicate k 0 ++ drop k s
    → Written b zeros s t
written_cleared b s t k e fits cleared = record {
  length_same = ap length cleared ∙ simp (length-append, length-replicate, length-drop) (omega arith);
  bits = λ n h.
      ap (λ (l : List ℕ). bit l n) cleared
      ∙ bit_cleared s k n (omega arith)
      ∙ run_each b zeros zeros n (λ v. 0 ≡ v) (λ l. refl) (λ l. refl);
  after =
      rw (← e)
      (ap (λ (l : List ℕ). drop k l) cleared
      ∙ drop_at (replicate k 0) (drop k s) k (length-replicate {A = ℕ} k 0));
}

module _ {b : ℕ} {x y f : ℕ → ℕ} {s t u : List ℕ} (w : Written b x s t) (a : Adds t u f)
    (sums : (n : ℕ) → n < b → (x n + f n) % 2 ≡ y n)
    (past : (n : ℕ) → b ≤ n → f n ≡ 0) (bt : Bytes t) (bu : Bytes u) where
  bytes_drop : (s : List ℕ) → Bytes s → Bytes (drop (need b) s)
  bytes_drop s h i = rw (get_or-drop (need b) s i 0) (h (need b + i))

  kept : (n : ℕ) → bit (drop (need b) u) n ≡ bit (drop (need b) t) n
  kept n =
      bit_drop u (need b) n
      ∙ omega (arith, a.each (8 * need b + n), past (8 * need b + n) (omega arith), bit< t (8 * need b + n))
      ∙ sym (bit_drop t (need b) n)

  pub written_added : Written b y s u
  written_added = record {
    length_same = a.length_same ∙ w.length_same;
    bits = λ n h.
        a.each n
        ∙ ap (λ (v : ℕ). (v + f n) % 2) (w.bits n h)
        ∙ run_each b y zeros n (λ v. (run b x zeros n + f n) % 2 ≡ v)
        (λ l. rw run_low (sums n l))
        (λ l. rw run_high (omega (arith, past n l)));
    after =
        bits_same (drop (need b) u) (drop (need b) t) (bytes_drop u bu) (bytes_drop t bt)
        (simp length-drop (omega (arith, a.length_same))) (λ n h. kept n)
        ∙ w.after;
  }

module _ (s t u : List ℕ) (bt : Bytes t) (bu : Bytes u) where
  pub payload_written : (b K : ℕ) (x : ℕ → ℕ) → K ≤ b → ((n : ℕ) → x n < 2) → Written b zeros s t
      → Adds t u (placed 0 K x) → Written b (padded K x) s u
  payload_written b K x less bits w a =
      written_added w a (λ n l. omega (arith, alone n, below n)) (λ n l. placed_above 0 K x n (omega arith)) bt bu
    where
      alone : (n : ℕ) → placed 0 K x n ≡ padded K x n
      alone n = run_none zeros (run K x zeros) n

      below : (n : ℕ) → padded K x n < 2
      below = run_below K x zeros (λ n l. bits n) (λ n. lit< tt)

  module _ (f : Format) (p : List ℕ) (d : ℕ) where
    pub tail_written : Written (tail_bits f) zeros s t → Adds t u (placed 0 (tail_bits f) (tail f p d))
        → Written (tail_bits f) (tail f p d) s u
    tail_written w a =
        written_added w a
        (λ n l. let e : n - 0 ≡ n = omega arith in
        rw (placed_in 0 (tail_bits f) (tail f p d) n (omega arith) (omega arith), e)
        (omega (arith, tail_bits_law f p d n)))
        (λ n l. placed_above 0 (tail_bits f) (tail f p d) n (omega arith)) bt bu

    pub line_written : (K : ℕ) (x : ℕ → ℕ) → ((n : ℕ) → x n < 2) → Written (line_bits f K) (padded K x) s t
        → Adds t u (placed K (tail_bits f) (tail f p d)) → Written (line_bits f K) (line_word f K x p d) s u
    line_written K x bits w a =
        written_added w a joined (λ n l. placed_above K (tail_bits f) (tail f p d) n (omega arith)) bt bu
      where
        joined : (n : ℕ) → n < line_bits f K
            → (padded K x n + placed K (tail_bits f) (tail f p d) n) % 2 ≡ line_word f K x p d n
        joined n l =
            run_each K x (tail f p d) n (λ v. (padded K x n + placed K (tail_bits f) (tail f p d) n) % 2 ≡ v)
            (λ h. rw (run_low K x zeros n h, placed_below K (tail_bits f) (tail f p d) n h) (omega (arith, bits n)))
            (λ h. rw (run_high K x zeros n h, placed_in K (tail_bits f) (tail f p d) n h l)
            (omega (arith, tail_bits_law f p d (n - K))))
