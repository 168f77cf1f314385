-- Line words: what encode writes, which the line check accepts, and that the two agree. Any format.
--
--   line_accepted          a line word is accepted exactly when some punctured bits complete it and its delimiter is
--                          the one given
--   good_line              of such a line word, the answer Accepted fits the promise
--   encode_exact           what encode writes is the line word of whatever parity makes every check hold
--   encoded_good           what encode writes is such a line word
--   encode_then_check      what encode writes, the line check accepts with the same payload count and delimiter
--   accepted_is_encoded    a line word that is accepted is the one that encode writes for its payload
use mathlib.Core.Path.{◌≡◌, refl, sym, subst, ◌∙◌}
use mathlib.Core.List.{List}
use Prim.Native.Nat.{ℕ, ◌+◌, ◌-◌, ◌≤◌, ◌<◌}
use native.Mathlib.Decide.{dec_lt}
use native.Mathlib.Omega.{arith}
use lib.Dec.{lit<}
use lib.ListN.{length, take, length-take, get_or-eq_default}
use lib.Seq.{length-take-le, get_or-take}
use Rattle.rules.specs.Bits.{bit, Bytes, need, zeros, run, Packed, Written}
use Rattle.rules.specs.Matrix.{checks}
use Rattle.rules.specs.Formats.{Format}
use Rattle.rules.specs.Words.{padded, reordered, Parity, digit, outgoing, tail, tail_bits, line_word, line_bits}
use Rattle.rules.specs.Verdicts.{TailVerdict, LineVerdict}
use Rattle.rules.specs.Refusals.{line_order}
use Rattle.rules.specs.Asked.{EncodeAsks}
use Rattle.rules.specs.Promises.{Encoded, LineChecked}
use Rattle.rules.specs.Answers.{Done}
use Rattle.rules.specs.declared.Verdict.TheVariants.{Accepted}
use Rattle.rules.specs.Judgements.{Judgement}
use Rattle.rules.specs.Judgements.{Judged}
use Rattle.laws.proofs.Bits.{bit<, bit_take}
use Rattle.laws.proofs.Runs.{run_low, run_each}
use Rattle.laws.proofs.Written.{written_as}
use Rattle.laws.proofs.Told.{not_different}
use Rattle.laws.proofs.Tails.{tail_low, tail_high, line_high}
use Rattle.laws.proofs.Parities.{parity_as, padded_same, OneParity, packed_same, packed_run, packed_bits}
use Rattle.theorems.specs.Exactly.{Exactly}
use Rattle.theorems.specs.Sized.{Sized}
use Rattle.theorems.specs.Punctured.{all_outgoing, Completes}
use Rattle.theorems.specs.Accepted.{GoodLine}
use Rattle.theorems.proofs.Same.{written_bit, line_one, line_check_same}
use Rattle.theorems.proofs.Refusing.{free_told}
use Rattle.theorems.proofs.Asked.{encode_exactly, line_free, line_exactly}

-- the first of bytes are bytes
bytes_take : (k : ℕ) (s : List ℕ) → Bytes s → Bytes (take k s)
bytes_take k s h i = elim (dec_lt i k) [
  | yes l ↦ rw (get_or-take k s i 0 l) (h i)
  | no l ↦
      let past : length (take k s) ≤ i = rw length-take (omega arith) in
      rw (get_or-eq_default (take k s) 0 past) (lit< tt)
]

-- the tail of a line word l beside that of a parity p: accepted exactly where they are equal
module _ (f : Format) (K : ℕ) (l : List ℕ) (d : ℕ) (p : List ℕ) where
  tail_accepted : ((n : ℕ) → n < tail_bits f → bit l (K + n) ≡ tail f p d n) → TailVerdict f K l d p Accepted
  tail_accepted e = (
    λ n x. x.1 (e n (omega (arith, x.0)) ∙ tail_low f p d n x.0),
    λ n x.
        let at : K + f.sent + n ≡ K + (f.sent + n) = omega arith in
        x.1 (rw at (e (f.sent + n) (omega (arith, x.0)) ∙ tail_high f p d n x.0)),
  )

  accepted_tail : TailVerdict f K l d p Accepted → (n : ℕ) → n < tail_bits f → bit l (K + n) ≡ tail f p d n
  accepted_tail v n h =
      run_each f.sent (outgoing f p) (run f.delimiter (digit d) zeros) n (λ b. bit l (K + n) ≡ b)
      (λ i. not_different _ _ (λ x. v.0 n (i, x)))
      (λ i.
      let at : K + f.sent + (n - f.sent) ≡ K + n = omega arith in
      rw at at (not_different _ _ (λ x. v.1 (n - f.sent) (omega arith, x)))
      ∙ sym (run_low f.delimiter (digit d) zeros (n - f.sent) (omega arith)))

module _ (f : Format) (one : OneParity f.code) (sized : Sized f) where
  module _ (K : ℕ) (l : List ℕ) (d : ℕ) where
    line_completed : LineVerdict f K l d Accepted → (q : List ℕ) × Completes f K l d q
    line_completed v = (
      q.0,
      record {
        punctured = q.1;
        parity = (p, v.1, fills);
        delimiter = λ n h. not_different _ _ (λ x. v.2.1 n (h, x));
      },
    )
      where
        p : List ℕ
        p = v.0

        q : (q : List ℕ) × Packed (checks f.code - f.sent) q
            × ((n : ℕ) → n < checks f.code - f.sent → bit q n ≡ outgoing f p (f.sent + n))
        q =
            packed_bits (checks f.code - f.sent) (λ n. outgoing f p (f.sent + n))
            (λ n. bit< p (f.second (f.sent + n)))

        fills : (n : ℕ) → n < checks f.code → outgoing f p n ≡ all_outgoing f K l q.0 n
        fills n h =
            run_each f.sent (λ n. bit l (K + n)) (bit q.0) n (λ b. outgoing f p n ≡ b)
            (λ i. sym (not_different _ _ (λ x. v.2.0 n (i, x))))
            (λ i.
            let e : f.sent + (n - f.sent) ≡ n = omega arith in
            sym (q.2 (n - f.sent) (omega arith) ∙ rw e))

    completed_line : (q : List ℕ) → Completes f K l d q → LineVerdict f K l d Accepted
    completed_line q c = (
      c.parity.0,
      c.parity.1,
      (
        λ n x.
            let sent = run_low f.sent (λ n. bit l (K + n)) (bit q) n x.0 in
            x.1 (sym (c.parity.2 n (omega (arith, x.0)) ∙ sent)),
        λ n x. x.1 (c.delimiter n x.0),
      ),
    )

    pub good_line : GoodLine f K l d → LineChecked f K l d (Judged Accepted)
    good_line g = record {
      told = free_told (line_order f K l d) (line_free f K l d g.asked);
      verdict = completed_line g.completed.0 g.completed.1;
    }

    line_good : LineChecked f K l d (Judged Accepted) → GoodLine f K l d
    line_good x = record {
      asked = (line_exactly f K l d (Judged Accepted) x).0 (Accepted, refl);
      completed = line_completed x.verdict;
    }

    pub line_accepted : (j : Judgement) → LineChecked f K l d j → Exactly (j ≡ Judged Accepted) (GoodLine f K l d)
    line_accepted j x = (
      λ e. line_good (subst (LineChecked f K l d) e x),
      λ g. line_check_same f one K l d j (Judged Accepted) x (good_line g),
    )

  -- what encode wrote to o, as the line check is given it: the bytes of the line word, and no more
  module _ (K : ℕ) (u : List ℕ) (d : ℕ) (o o' : List ℕ) (e : Encoded f K u d o Done o') where
    abbrev l : List ℕ
    l = take (need (line_bits f K)) o'

    abbrev p : List ℕ
    p = e.effect.0

    encode_asks : EncodeAsks f K u d (length o)
    encode_asks = (encode_exactly f K u d o Done o' e).0 refl

    line_packed : Packed (line_bits f K) l
    line_packed =
        packed_run (line_bits f K) (line_word f K (bit u) p d) l
        (length-take-le (need (line_bits f K)) o' (omega (arith, encode_asks.fits, e.effect.2.length_same)))
        (λ n h. bit_take o' (need (line_bits f K)) n h ∙ e.effect.2.bits n h)

    line_bit : (n : ℕ) → n < line_bits f K → bit l n ≡ line_word f K (bit u) p d n
    line_bit n h = bit_take o' (need (line_bits f K)) n (omega arith) ∙ written_bit e.effect.2 n h

    verdict : LineVerdict f K l d Accepted
    verdict = (
      p,
      parity_as f.code
          (λ n h.
          padded_same K (λ m i. sym (line_bit m (omega arith) ∙ run_low K (bit u) (tail f p d) m i)) (f.first n))
          e.effect.1,
      tail_accepted f K l d p (λ n h. line_bit (K + n) (omega arith) ∙ line_high f K (bit u) p d n),
    )

    pub encoded_good : GoodLine f K l d
    encoded_good = record {
      asked = record {
        lists = encode_asks.lists;
        count = encode_asks.count;
        line = line_packed;
        delimiter = encode_asks.delimiter;
      };
      completed = line_completed K l d verdict;
    }

    pub encode_then_check : (j : Judgement) → LineChecked f K l d j → j ≡ Judged Accepted
    encode_then_check j h = (line_accepted K l d j h).1 encoded_good

    pub encode_exact : (q : List ℕ) → Parity f.code (reordered f (padded K (bit u))) q
        → Written (line_bits f K) (line_word f K (bit u) q d) o o'
    encode_exact q h = written_as (λ n i. line_one f one K u p q d e.effect.1 h n) e.effect.2

    -- a line word k with the same payload, that the line check accepts, is the one that encode wrote
    module _ (k : List ℕ) (bytes : Bytes k) (bytes' : Bytes o') (same : (n : ℕ) → n < K → bit k n ≡ bit u n)
        (c : LineChecked f K k d (Judged Accepted)) where
      abbrev q : List ℕ
      q = c.verdict.0

      accepted_bit : (n : ℕ) → n < line_bits f K → line_word f K (bit u) q d n ≡ bit k n
      accepted_bit n h =
          run_each K (bit u) (tail f q d) n (λ v. v ≡ bit k n) (λ i. sym (same n i))
          (λ i.
          let at : K + (n - K) ≡ n = omega arith in
          sym (rw at at (accepted_tail f K k d q c.verdict.2 (n - K) (omega arith))))

      pub accepted_is_encoded : l ≡ k
      accepted_is_encoded =
          packed_same line_packed (line_good K k d c).asked.line (bytes_take (need (line_bits f K)) o' bytes') bytes
          (λ n h.
          bit_take o' (need (line_bits f K)) n (omega arith)
          ∙ written_bit
          (encode_exact q (parity_as f.code (λ m i. padded_same K same (f.first m)) c.verdict.1)) n h
          ∙ accepted_bit n h)
