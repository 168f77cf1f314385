-- W8 of paper 02, demand 2 of the two coax codes: which words the check accepts, what it names, and that encode and
-- complete agree with it. Over either code. A word is the payload and all of its parity: a full word and a line word
-- at once.
--
--   coax_accepted                   a word is accepted exactly when its unused bits are 0 and every check holds
--   coax_verdicts                   a word that is not accepted is rejected for a check: no other cause is ever named
--   coax_check_named                the row that is named is the first that fails, with how many do
--   coax_complete_then_check        what complete leaves, the check with the same count accepts
--   coax_good_line, coax_line_good  the words that are accepted are just the good line words of the code's format,
--                                   with the delimiter 0 of 0 bits
--   coax_encode_then_check          what encode writes, the check with the same count accepts
--   coax_encode_exact               what encode writes is the payload, then whatever parity makes every check hold
--   coax_accepted_is_encoded        a word that is accepted is the one that encode writes for its payload
use mathlib.Core.Path.{◌≡◌, refl, sym, ap, subst, ◌∙◌}
use mathlib.Core.Logic.{◌⊎◌, inl, inr}
use mathlib.Core.List.{List, []}
use Prim.Native.Nat.{ℕ, ◌+◌, ◌-◌, ◌<◌}
use native.Mathlib.Omega.{arith}
use lib.ListN.{take}
use Rattle.rules.specs.Bits.{bit, Bytes, need, zeros, run, Packed, Written}
use Rattle.rules.specs.Matrix.{Code, places, checks, places_of_payload, check}
use Rattle.rules.specs.Formats.{Format}
use Rattle.rules.specs.Words.{padded, full_word, Parity, digit, tail, line_word, line_bits}
use Rattle.rules.specs.Verdicts.{row_fails, how_many}
use Rattle.rules.specs.Promises.{Encoded}
use Rattle.rules.specs.Coax.{coax_code, coax_format, coax_word_order, Counted}
use Rattle.rules.specs.Coax.{CoaxWordAsks, CoaxEncoded, CoaxCompleted, CoaxChecked}
use Rattle.rules.specs.Answers.{Done}
use Rattle.rules.specs.declared.Cause.TheVariants.{Shortened, Check}
use Rattle.rules.specs.declared.Cause.TheVariants as cause
use Rattle.rules.specs.declared.Verdict.{Verdict}
use Rattle.rules.specs.declared.Verdict.TheVariants.{Accepted, Rejected}
use Rattle.rules.specs.Judgements.{Judgement}
use Rattle.rules.specs.Judgements.{Judged}
use Rattle.rules.specs.declared.CoaxCode.{CoaxCode}
use Rattle.rules.proofs.CoaxLaws.{coax_numbers}
use Rattle.rules.proofs.Checks.{check_same}
use Rattle.laws.proofs.Bits.{bit<, bit_past}
use Rattle.laws.proofs.Runs.{run_low, run_each, run_none, run_same}
use Rattle.laws.proofs.Written.{written_as}
use Rattle.laws.proofs.Parities.{OneParity, packed_clear, packed_bits, parity_filled}
use Rattle.theorems.specs.Exactly.{Exactly}
use Rattle.theorems.specs.Punctured.{all_outgoing}
use Rattle.theorems.specs.Accepted.{GoodLine, GoodCoax}
use Rattle.theorems.proofs.Refusing.{free_told}
use Rattle.theorems.proofs.FullWords.{all_accepted, accepted_all, verdict_named}
use Rattle.theorems.proofs.FullWords.{completed_packed, completed_holds}
use Rattle.theorems.proofs.Lines.{good_line, encoded_good, encode_exact, accepted_is_encoded}
use Rattle.theorems.proofs.Coax.{coax_sized, coax_encoded, coax_word_free, coax_check_same}
use Rattle.theorems.proofs.Coax.{coax_encode_exactly, coax_complete_exactly, coax_check_exactly}

module _ (k : CoaxCode) where
  abbrev c : Code
  c = coax_code k

  abbrev f : Format
  f = coax_format k

  module _ (K : ℕ) (w : List ℕ) where
    check_asks : (v : Verdict) → CoaxChecked k K w (Judged v) → CoaxWordAsks f K w
    check_asks v x = (coax_check_exactly k K w (Judged v) x).0 (v, refl)

    good_coax : GoodCoax k K w → CoaxChecked k K w (Judged Accepted)
    good_coax g = record {
      told = free_told (coax_word_order f K w) (coax_word_free f K w g.asked);
      verdict = all_accepted f K w (λ n a b. absurd (omega (arith, g.asked.count.least))) g.all_hold;
    }

    coax_good : CoaxChecked k K w (Judged Accepted) → GoodCoax k K w
    coax_good x = record { asked = check_asks Accepted x; all_hold = (accepted_all f K w x.verdict).1 }

    pub coax_accepted : (j : Judgement) → CoaxChecked k K w j → Exactly (j ≡ Judged Accepted) (GoodCoax k K w)
    coax_accepted j x = (
      λ e. coax_good (subst (CoaxChecked k K w) e x),
      λ g. coax_check_same k K w j (Judged Accepted) x (good_coax g),
    )

    pub coax_verdicts : (v : Verdict) → CoaxChecked k K w (Judged v)
        → (v ≡ Accepted) ⊎ ((n : ℕ) × (m : ℕ) × (v ≡ Rejected (Check n m)))
    coax_verdicts Accepted x = inl refl
    coax_verdicts (Rejected (Shortened n)) x =
        absurd (omega (arith, (check_asks _ x).count.least, x.verdict.0.0, x.verdict.0.1))
    coax_verdicts (Rejected (Check n m)) x = inr (n, m, refl)
    coax_verdicts (Rejected (cause.Parity n)) x = absurd x.verdict
    coax_verdicts (Rejected (cause.Delimiter n)) x = absurd x.verdict

    pub coax_check_named : (n m : ℕ) → CoaxChecked k K w (Judged (Rejected (Check n m)))
        → (n < checks c) × (check c n (bit w) ≡ 1) × ((i : ℕ) → i < n → check c i (bit w) ≡ 0)
        × (m ≡ how_many (checks c) (row_fails c (bit w)))
    coax_check_named n m x = let v = verdict_named f K w n m x.verdict in (v.1, v.2, v.3, v.4)

  pub coax_complete_then_check : (K : ℕ) (w w' : List ℕ) → CoaxCompleted k K w Done w' → (j : Judgement)
      → CoaxChecked k K w' j → j ≡ Judged Accepted
  coax_complete_then_check K w w' x j h = (coax_accepted K w' j h).1 good
    where
      asks : CoaxWordAsks f K w
      asks = (coax_complete_exactly k K w Done w' x).0 refl

      good : GoodCoax k K w'
      good = record {
        asked = record {
          count = asks.count;
          word = completed_packed f (coax_sized k) w w' asks.word.bytes x.effect;
        };
        all_hold = completed_holds f (coax_sized k) w w' asks.word.bytes x.effect;
      }

  -- a payload has the code's count, so its line word is a full word
  line_bits_law : {K : ℕ} → Counted f K → line_bits f K ≡ places c
  line_bits_law n = omega (arith, n.least, n.most, (coax_numbers k).parts)

  -- no bits are punctured: a parity p that goes out as the bits of l after its payload makes l its full word
  module _ {K : ℕ} (e : Counted f K) (l p : List ℕ) (same : (n : ℕ) → n < checks c → bit p n ≡ bit l (K + n)) where
    line_full : (n : ℕ) → n < places c → full_word c (padded K (bit l)) p n ≡ bit l n
    line_full n h =
        run_each (places_of_payload c) (padded K (bit l)) (bit p) n (λ v. v ≡ bit l n)
        (λ i. run_low K (bit l) zeros n (omega (arith, e.least)))
        (λ i.
        let at : K + (n - places_of_payload c) ≡ n = omega (arith, e.least, e.most) in
        same (n - places_of_payload c) (omega (arith, (coax_numbers k).parts)) ∙ ap (bit l) at)

    full_check : (n : ℕ) → check c n (full_word c (padded K (bit l)) p) ≡ check c n (bit l)
    full_check n = check_same c n (full_word c (padded K (bit l)) p) (bit l) line_full

  pub coax_good_line : (K : ℕ) (l : List ℕ) → GoodCoax k K l → GoodLine f K l 0
  coax_good_line K l g = record {
    asked = record {
      lists = tt;
      count = record { least = e.least; most = e.most; whole = omega arith };
      line = subst (λ (b : ℕ). Packed b l) (sym (line_bits_law e)) g.asked.word;
      delimiter = omega arith;
    };
    completed = (
      [],
      record {
        punctured = record { bytes = omega arith; unused = λ u. omega (arith, bit_past [] u.0 (omega arith), u.2) };
        parity = (
          p.0,
          record { packed = p.1; all_hold = λ n h. full_check e l p.0 p.2 n ∙ g.all_hold n h },
          λ n h. p.2 n h ∙ sym (run_low (checks c) (λ n. bit l (K + n)) (bit []) n h),
        );
        delimiter = λ n h. absurd (omega arith);
      },
    );
  }
    where
      e : Counted f K
      e = g.asked.count

      p : (p : List ℕ) × Packed (checks c) p × ((n : ℕ) → n < checks c → bit p n ≡ bit l (K + n))
      p = packed_bits (checks c) (λ n. bit l (K + n)) (λ n. bit< l (K + n))

  pub coax_line_good : (K : ℕ) (l : List ℕ) → GoodLine f K l 0 → GoodCoax k K l
  coax_line_good K l g = record {
    asked = record { count = e; word = subst (λ (b : ℕ). Packed b l) (line_bits_law e) g.asked.line };
    all_hold = λ n h. sym (full_check e l p.0 same n) ∙ p.1.all_hold n h;
  }
    where
      e : Counted f K
      e = record { least = g.asked.count.least; most = g.asked.count.most }

      q : List ℕ
      q = g.completed.0

      p : (p : List ℕ) × Parity c (padded K (bit l)) p
          × ((n : ℕ) → n < checks c → bit p n ≡ all_outgoing f K l q n)
      p = g.completed.1.parity

      same : (n : ℕ) → n < checks c → bit p.0 n ≡ bit l (K + n)
      same n h = p.2 n h ∙ run_low (checks c) (λ n. bit l (K + n)) (bit q) n h

  -- what encode wrote to o, as the check is given it: the bytes of the word, and no more
  module _ (one : OneParity c) (K : ℕ) (u o o' : List ℕ) (x : CoaxEncoded k K u o Done o') where
    abbrev l : List ℕ
    l = take (need (places c)) o'

    count : Counted f K
    count = ((coax_encode_exactly k K u o Done o' x).0 refl).count

    encoded : Encoded f K u 0 o Done o'
    encoded = coax_encoded k K u o Done o' x

    pub coax_encode_then_check : (j : Judgement) → CoaxChecked k K l j → j ≡ Judged Accepted
    coax_encode_then_check j h = (coax_accepted K l j h).1 good
      where
        good : GoodCoax k K l
        good =
            rw (line_bits_law count) at (coax_line_good K _ (encoded_good f one (coax_sized k) K u 0 o o' encoded))

    pub coax_encode_exact : (q : List ℕ) → Parity c (bit u) q → Written (places c) (full_word c (bit u) q) o o'
    coax_encode_exact q h = written_as (λ n i. word n) w
      where
        w : Written (places c) (line_word f K (bit u) q 0) o o'
        w =
            rw (line_bits_law count) at
            (encode_exact f one (coax_sized k) K u 0 o o' encoded q (parity_filled c K count.least h))

        all_sent : (n : ℕ) → tail f q 0 n ≡ bit q n
        all_sent n =
            run_each (checks c) (bit q) (run 0 (digit 0) zeros) n (λ v. v ≡ bit q n) (λ i. refl)
            (λ i. run_none (digit 0) zeros (n - checks c) ∙ sym (packed_clear h.packed n i))

        word : (n : ℕ) → line_word f K (bit u) q 0 n ≡ full_word c (bit u) q n
        word n =
            let e : K ≡ places_of_payload c = omega (arith, count.least, count.most) in
            rw e (run_same (places_of_payload c) (bit u) (tail f q 0) (bit u) (bit q) (λ m i. refl) all_sent n)

    -- a word w with the same payload, that the check accepts, is the one that encode wrote
    pub coax_accepted_is_encoded : (w : List ℕ) → Bytes w → Bytes o' → ((n : ℕ) → n < K → bit w n ≡ bit u n)
        → CoaxChecked k K w (Judged Accepted) → l ≡ w
    coax_accepted_is_encoded w bytes bytes' same h =
        rw (line_bits_law count) at
        (accepted_is_encoded f one (coax_sized k) K u 0 o o' encoded w bytes bytes' same
        (good_line f one (coax_sized k) K w 0 (coax_good_line K w (coax_good K w h))))
