-- Full words: which the check accepts, what it names first, and that it accepts what complete leaves. Any format.
--
--   word_accepted                                                      a full word is accepted exactly when its
--                                                                      shortened places are 0 and every check holds
--   shortened_named                                                    a shortened place that is named is the lowest
--                                                                      that is 1
--   check_named                                                        a row that is named is the first that fails,
--                                                                      with how many do; no shortened place is 1
--   Unset                                                              the shortened places of a word are 0
--   all_accepted, accepted_all, verdict_named                          the same of the verdict alone, by whatever
--                                                                      order
--   payload_kept, completed_length, completed_packed, completed_holds  what completing leaves: the payload places, the
--                                                                      bytes, their unused bits, the checks
--   complete_then_check                                                what complete leaves, the check with the same
--                                                                      payload count accepts
use mathlib.Core.Path.{◌≡◌, refl, ap, subst, ◌∙◌}
use mathlib.Core.List.{List}
use Prim.Native.Nat.{ℕ, ◌+◌, ◌-◌, ◌*◌, ◌/◌, ◌≤◌, ◌<◌}
use native.Mathlib.Omega.{arith}
use lib.ListN.{length, take, length-append}
use lib.Seq.{length-take-le}
use Rattle.rules.specs.Bits.{bit, need, Packed}
use Rattle.rules.specs.Matrix.{Code, places, checks, places_of_payload, check, AllHold}
use Rattle.rules.specs.Formats.{Format}
use Rattle.rules.specs.Words.{full_word}
use Rattle.rules.specs.Verdicts.{Nowhere, ShortenedSet, row_fails, how_many, WordVerdict}
use Rattle.rules.specs.Refusals.{word_order}
use Rattle.rules.specs.Asked.{CompleteAsks}
use Rattle.rules.specs.Promises.{Completion, Completed, WordChecked}
use Rattle.rules.specs.Answers.{Done}
use Rattle.rules.specs.declared.Cause.TheVariants.{Shortened, Check}
use Rattle.rules.specs.declared.Verdict.TheVariants.{Accepted, Rejected}
use Rattle.rules.specs.Judgements.{Judgement}
use Rattle.rules.specs.Judgements.{Judged}
use Rattle.rules.proofs.Checks.{check_below, check_same}
use Rattle.laws.proofs.Bits.{bit<, bit_take, bit_front, bit_back}
use Rattle.laws.proofs.Runs.{run_high, run_each}
use Rattle.laws.proofs.Parities.{places_parts, packed_clear}
use Rattle.theorems.specs.Exactly.{Exactly}
use Rattle.theorems.specs.Sized.{Sized}
use Rattle.theorems.specs.Accepted.{GoodWord}
use Rattle.theorems.proofs.Same.{word_check_same}
use Rattle.theorems.proofs.Refusing.{free_told}
use Rattle.theorems.proofs.Asked.{complete_exactly, word_free, word_exactly}

-- a bit that is not 1, and a check that is not, is 0
not_one : (b : ℕ) → b < 2 → (b ≡ 1 → ⊥) → b ≡ 0
not_one b h d = omega arith

-- a verdict on the full word w, by whatever order
module _ (f : Format) (K : ℕ) (w : List ℕ) where
  abbrev c : Code
  c = f.code

  abbrev row : ℕ → ℕ
  row n = check c n (bit w)

  row_unset : (n : ℕ) → (row n ≡ 1 → ⊥) → row n ≡ 0
  row_unset n = not_one (row n) (check_below c n (bit w))

  -- the shortened places of w are 0
  abbrev pub Unset : Type 0
  Unset = (n : ℕ) → K ≤ f.first n → n < places_of_payload c → bit w n ≡ 0

  unset : Nowhere (ShortenedSet f K (bit w)) → Unset
  unset none n a b = not_one (bit w n) (bit< w n) (λ e. none n (a, b, e))

  pub all_accepted : Unset → AllHold c (bit w) → WordVerdict f K (bit w) Accepted
  all_accepted shortened hold = (
    λ n s. omega (arith, shortened n s.0 s.1, s.2),
    λ n s. omega (arith, hold n s.0, s.1),
  )

  pub accepted_all : WordVerdict f K (bit w) Accepted → Unset × AllHold c (bit w)
  accepted_all v = (unset v.0, λ n h. row_unset n (λ e. v.1 n (h, e)))

  pub verdict_named : (n m : ℕ) → WordVerdict f K (bit w) (Rejected (Check n m))
      → Unset × (n < checks c) × (check c n (bit w) ≡ 1)
      × ((k : ℕ) → k < n → check c k (bit w) ≡ 0) × (m ≡ how_many (checks c) (row_fails c (bit w)))
  verdict_named n m v =
      let below : (k : ℕ) → k < n → row k ≡ 0 =
      λ k l. row_unset k (λ e. v.1.1 k l (omega (arith, l, v.1.0.0), e)) in
      (unset v.0, v.1.0.0, v.1.0.1, below, v.2)

module _ (f : Format) (K : ℕ) (w : List ℕ) where
  good_word : GoodWord f K w → WordChecked f K w (Judged Accepted)
  good_word g = record {
    told = free_told (word_order f K w) (word_free f K w g.asked);
    verdict = all_accepted f K w g.shortened g.all_hold;
  }

  word_good : WordChecked f K w (Judged Accepted) → GoodWord f K w
  word_good x =
      let all = accepted_all f K w x.verdict in
      record {
        asked = (word_exactly f K w (Judged Accepted) x).0 (Accepted, refl);
        shortened = all.0;
        all_hold = all.1;
      }

  pub word_accepted : (j : Judgement) → WordChecked f K w j → Exactly (j ≡ Judged Accepted) (GoodWord f K w)
  word_accepted j x = (
    λ e. word_good (subst (WordChecked f K w) e x),
    λ g. word_check_same f K w j (Judged Accepted) x (good_word g),
  )

  pub shortened_named : (n : ℕ) → WordChecked f K w (Judged (Rejected (Shortened n)))
      → (K ≤ f.first n) × (n < places_of_payload f.code) × (bit w n ≡ 1)
      × ((k : ℕ) → K ≤ f.first k → k < n → bit w k ≡ 0)
  shortened_named n x =
      let v = x.verdict in
      let below : (k : ℕ) → K ≤ f.first k → k < n → bit w k ≡ 0 =
      λ k a l. not_one (bit w k) (bit< w k) (λ e. v.1 k l (a, omega (arith, l, v.0.1), e)) in
      (v.0.0, v.0.1, v.0.2, below)

  pub check_named : (n m : ℕ) → WordChecked f K w (Judged (Rejected (Check n m)))
      → Unset f K w × (n < checks f.code) × (check f.code n (bit w) ≡ 1)
      × ((k : ℕ) → k < n → check f.code k (bit w) ≡ 0)
      × (m ≡ how_many (checks f.code) (row_fails f.code (bit w)))
  check_named n m x = verdict_named f K w n m x.verdict

-- a full word w that was completed to w', by whatever order
module _ (f : Format) (sized : Sized f) (w w' : List ℕ) (bytes : length w ≡ need (places f.code))
    (x : Completion f.code w w') where
  abbrev front_bytes : ℕ
  front_bytes = places_of_payload f.code / 8

  abbrev p : List ℕ
  p = x.0

  front_bits : 8 * front_bytes ≡ places_of_payload f.code
  front_bits = omega arith

  front_length : length (take front_bytes w) ≡ front_bytes
  front_length = length-take-le front_bytes w (omega (arith, places_parts f.code sized.rows))

  pub payload_kept : (n : ℕ) → n < places_of_payload f.code → bit w' n ≡ bit w n
  payload_kept n h =
      ap (λ (v : List ℕ). bit v n) x.2
      ∙ bit_front (take front_bytes w) p n (omega (arith, front_length, front_bits))
      ∙ bit_take w front_bytes n (omega (arith, front_bits))

  word_bit : (n : ℕ) → bit w' n ≡ full_word f.code (bit w) p n
  word_bit n =
      run_each (places_of_payload f.code) (bit w) (bit p) n (λ v. bit w' n ≡ v) (payload_kept n)
      (λ h.
      let e : 8 * front_bytes + (n - places_of_payload f.code) ≡ n = omega (arith, front_bits) in
      ap (λ (v : List ℕ). bit v n) x.2
      ∙ rw e at (bit_back (take front_bytes w) p front_bytes (n - places_of_payload f.code) front_length))

  pub completed_length : length w' ≡ need (places f.code)
  completed_length =
      ap length x.2
      ∙ length-append (take front_bytes w) p
      ∙ omega (arith, front_length, front_bits, x.1.packed.bytes, places_parts f.code sized.rows)

  pub completed_packed : Packed (places f.code) w'
  completed_packed = record {
    bytes = completed_length;
    unused = λ u.
        let parts = places_parts f.code sized.rows in
        let high = run_high (places_of_payload f.code) (bit w) (bit p) u.0 (omega (arith, u.1)) in
        omega (
          arith,
          word_bit u.0,
          high,
          u.2,
          packed_clear x.1.packed (u.0 - places_of_payload f.code) (omega (arith, u.1)),
        );
  }

  pub completed_holds : AllHold f.code (bit w')
  completed_holds n h =
      check_same f.code n (bit w') (full_word f.code (bit w) p) (λ m l. word_bit m) ∙ x.1.all_hold n h

module _ (f : Format) (sized : Sized f) (K : ℕ) (w w' : List ℕ) (c : Completed f K w Done w') where
  complete_asks : CompleteAsks f K w
  complete_asks = (complete_exactly f K w Done w' c).0 refl

  completed_good : GoodWord f K w'
  completed_good =
      let bytes = complete_asks.bytes in
      let kept = payload_kept f sized w w' bytes c.effect in
      record {
        asked = record {
          lists = complete_asks.lists;
          count = complete_asks.count;
          bytes = completed_length f sized w w' bytes c.effect;
        };
        shortened = λ n a b. kept n b ∙ unset f K w complete_asks.shortened n a b;
        all_hold = completed_holds f sized w w' bytes c.effect;
      }

  pub complete_then_check : (j : Judgement) → WordChecked f K w' j → j ≡ Judged Accepted
  complete_then_check j h = (word_accepted f K w' j h).1 completed_good
