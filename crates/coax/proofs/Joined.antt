-- Bytes that are written one after another: a payload that fills whole bytes, then its parity. Over either code.
--
--   copied_length   a copy over the first bytes keeps the length
--   joined_written  the bytes u and then the bytes p of b bits, written over the first bytes of o
--   line_joined     so the line word of a payload that fills the payload places
--   tail_joined     and the tail, which is the parity alone
use mathlib.Core.Path.{◌≡◌, refl, sym, ap, subst, ◌∙◌}
use mathlib.Core.List.{List, [], ◌++◌}
use Prim.Native.Nat.{ℕ, ◌+◌, ◌-◌, ◌*◌, ◌≤◌, ◌<◌}
use native.Mathlib.Omega.{arith}
use lib.ListN.{length, take, drop, length-append, length-drop}
use lib.Seq.{length-take-le, drop_at, drop-drop}
use Rattle.rules.specs.Bits.{bit, need, zeros, run, Packed, Written}
use Rattle.rules.specs.Formats.{Format}
use Rattle.rules.specs.Words.{tail, tail_bits, line_word, line_bits}
use Rattle.laws.proofs.Bits.{bit_front, mid, length_mid, bit_mid, bit_below}
use Rattle.laws.proofs.Runs.{run_low, run_high, run_each, run_none}
use Rattle.laws.proofs.Written.{written_as}
use Rattle.laws.proofs.Tails.{tail_low}
use Rattle.laws.proofs.Parities.{packed_clear}

pub copied_length : (u o : List ℕ) {v : List ℕ} → v ≡ u → length u ≤ length o
    → length (v ++ drop (length u) o) ≡ length o
copied_length u o same h = rw same (simp (length-append, length-drop) (omega arith))

module _ (u p o : List ℕ) (a b : ℕ) (front : length u ≡ a) (packed : Packed b p) (fits : a + need b ≤ length o) where
  -- o with its first bytes replaced by u, and then by p after them
  abbrev pub joined : List ℕ
  joined = mid a (need b) (u ++ drop a o) p

  first_length : length (u ++ drop a o) ≡ length o
  first_length = simp (length-append, length-drop) (omega arith)

  abbrev bits : ℕ → ℕ
  bits = run (8 * a) (bit u) (bit p)

  joined_bit : (n : ℕ) → n < 8 * (a + need b) → bit joined n ≡ bits n
  joined_bit n h =
      run_each (8 * a) (bit u) (bit p) n (λ v. bit joined n ≡ v)
      (λ l.
      bit_below (u ++ drop a o) p a (need b) (omega (arith, first_length)) packed.bytes n l
      ∙ bit_front u (drop a o) n (omega arith))
      (λ l.
      let e : 8 * a + (n - 8 * a) ≡ n = omega arith in
      rw e at
      (bit_mid (u ++ drop a o) p a (need b) (omega (arith, first_length)) packed.bytes (n - 8 * a) (omega arith)))

  -- the unused bits of p are 0
  bits_end : (n : ℕ) → bits n ≡ run (8 * a + b) bits zeros n
  bits_end n =
      run_each (8 * a + b) bits zeros n (λ v. bits n ≡ v) (λ l. refl)
      (λ l. run_high (8 * a) (bit u) (bit p) n (omega arith) ∙ packed_clear packed (n - 8 * a) (omega arith))

  rest : drop (a + need b) joined ≡ drop (a + need b) o
  rest =
      sym (drop-drop (need b) a joined)
      ∙ ap (drop (need b))
      (drop_at (take a (u ++ drop a o)) _ a (length-take-le a (u ++ drop a o) (omega (arith, first_length))))
      ∙ drop_at p _ (need b) packed.bytes
      ∙ ap (drop (need b)) (drop_at u (drop a o) a front)
      ∙ drop-drop (need b) a o

  pub joined_written : Written (8 * a + b) bits o joined
  joined_written =
      let e : need (8 * a + b) ≡ a + need b = omega arith in
      record {
        length_same =
            length_mid (u ++ drop a o) p a (need b) (omega (arith, first_length)) packed.bytes ∙ first_length;
        bits = λ n h. joined_bit n (omega arith) ∙ bits_end n;
        after = rw e rest;
      }

  pub line_joined : (f : Format) (K d : ℕ) → ((t : ℕ) → f.second t ≡ t) → 8 * a ≡ K → f.sent ≡ b → f.delimiter ≡ 0
      → Written (line_bits f K) (line_word f K (bit u) p d) o joined
  line_joined f K d kept whole sent none =
      let e : 8 * a + b ≡ line_bits f K = omega arith in
      written_as (λ n h.
      rw whole
      (run_each K (bit u) (bit p) n (λ v. v ≡ line_word f K (bit u) p d n)
      (λ l. sym (run_low K (bit u) (tail f p d) n l))
      (λ l. sym (run_high K (bit u) (tail f p d) n l ∙ tail_low f p d (n - K) (omega arith)
      ∙ ap (bit p) (kept (n - K))))))
      (subst (λ (m : ℕ). Written m bits o joined) e joined_written)

pub tail_joined : (f : Format) (p o : List ℕ) (d : ℕ) → ((t : ℕ) → f.second t ≡ t) → Packed f.sent p
    → need f.sent ≤ length o → f.delimiter ≡ 0 → Written (tail_bits f) (tail f p d) o (p ++ drop (need f.sent) o)
tail_joined f p o d kept packed fits none =
    let whole : line_bits f 0 ≡ tail_bits f = omega arith in
    written_as (λ n h. run_none (bit []) (tail f p d) n)
    (rw whole at (line_joined [] p o 0 f.sent refl packed (omega arith) f 0 d kept refl refl none))
