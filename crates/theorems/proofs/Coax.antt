-- W8 and W9 of paper 02, the two coax codes: any two outcomes that fit one promise are equal. And demand 1: each
-- operation is done, or gives a verdict, exactly where its inputs are what it asks, and a refusal changes nothing. Over
-- either code; where a parity comes in, it is asked that the code has one, and one only, for all checks.
--
--   coax_sized                                                                           the sizes of a coax code's
--                                                                                        format go together
--   coax_encoded, coax_finished                                                          the refusals that any format
--                                                                                        has besides never apply to a
--                                                                                        coax code; so what encode and
--                                                                                        the finish promise is what
--                                                                                        they promise of any format,
--                                                                                        with the delimiter 0 of 0
--                                                                                        bits
--   coax_finish_told                                                                     what the finish's order
--                                                                                        tells, that of any format
--                                                                                        tells
--   coax_encode_same, coax_complete_same, coax_check_same, coax_finish_same              two outcomes are equal
--   coax_encode_exactly, coax_complete_exactly, coax_check_exactly, coax_finish_exactly  done, or a verdict, exactly
--                                                                                        where the inputs are what is
--                                                                                        asked
--   coax_word_free where a word is what complete and the check ask, no refusal of their order applies
--   coax_encode_kept, coax_complete_kept, coax_finish_kept  where an operation is not done, every byte and every
--                                                           stream is as it was
--
-- A piece of a coax code is one of its format: piece_same, piece_exactly and piece_kept, at coax_format k, say it.
use mathlib.Core.Path.{◌≡◌, refl, ap}
use mathlib.Core.Logic.{inl, inr, ⊎_elim}
use mathlib.Core.List.{List}
use Prim.Native.Nat.{ℕ, ◌<◌}
use native.Mathlib.Omega.{arith}
use lib.Dec.{lit<}
use lib.ListN.{length}
use Rattle.rules.specs.Bits.{bit, Bytes, need}
use Rattle.rules.specs.Matrix.{places_of_payload}
use Rattle.rules.specs.Formats.{Format}
use Rattle.rules.specs.Verdicts.{WordVerdict}
use Rattle.rules.specs.Refusals.{tells, bad_count, wrong_bytes, with_unused_set, encode_order, finish_order}
use Rattle.rules.specs.Promises.{refusal_of, refusal_in, Encoded, Finished}
use Rattle.rules.specs.Coax.{coax_code, coax_format, coax_encode_order, coax_word_order, coax_finish_order}
use Rattle.rules.specs.Coax.{CoaxEncodeAsks, CoaxWordAsks, CoaxFinishAsks}
use Rattle.rules.specs.Coax.{CoaxEncoded, CoaxCompleted, CoaxChecked, CoaxFinished}
use Rattle.rules.specs.Answers.{Answer}
use Rattle.rules.specs.Answers.{Done}
use Rattle.rules.specs.declared.Verdict.{Verdict}
use Rattle.rules.specs.Judgements.{Judgement}
use Rattle.rules.specs.Judgements.{Judged}
use Rattle.rules.specs.declared.Stream.{Stream}
use Rattle.rules.specs.Answers.{Outcome}
use Rattle.rules.specs.declared.CoaxCode.{CoaxCode}
use Rattle.rules.specs.declared.CoaxCode.TheVariants.{Long, Short}
use Rattle.rules.proofs.TableLaws.{line_length}
use Rattle.rules.proofs.CoaxLaws.{coax_fits, coax_numbers}
use Rattle.laws.proofs.Bits.{bit_past}
use Rattle.laws.proofs.Told.{not_different, checked_same}
use Rattle.laws.proofs.Judged.{word_same}
use Rattle.laws.proofs.Asked.{not_above, coax_encode_asked, coax_word_asked, coax_finish_asked}
use Rattle.laws.proofs.Parities.{OneParity}
use Rattle.theorems.specs.Exactly.{Exactly, Free}
use Rattle.theorems.specs.Sized.{Sized}
use Rattle.theorems.proofs.Same.{completion_same, written_line_same, finished_same}
use Rattle.theorems.proofs.Asked.{packed_free, counted_free, stream_free}
use Rattle.theorems.proofs.Refusing.{done_exactly, judged_exactly, kept_part}

-- a payload has at least one bit, by computing
payload_some : (k : CoaxCode) → 0 < places_of_payload (coax_code k)
payload_some Long = lit< tt
payload_some Short = lit< tt

pub coax_sized : (k : CoaxCode) → Sized (coax_format k)
coax_sized k = record {
  rows = (coax_numbers k).rows;
  whole = omega (arith, (coax_numbers k).whole);
  some = payload_some k;
  most = omega arith;
  sent = omega arith;
  kept = λ t h. refl;
  lines = line_length (coax_code k) (coax_fits k);
}

-- where the inputs are what an operation asks, no refusal of its order applies
module _ (f : Format) where
  coax_encode_free : (K : ℕ) (u : List ℕ) (room : ℕ) → CoaxEncodeAsks f K u room → Free (coax_encode_order f K u room)
  coax_encode_free K u room a = (counted_free f a.count, (λ x. x a.bytes, (λ x. omega (arith, a.fits), tt)))

  pub coax_word_free : (K : ℕ) (w : List ℕ) → CoaxWordAsks f K w → Free (coax_word_order f K w)
  coax_word_free K w a = (counted_free f a.count, packed_free a.word tt)

  coax_finish_free : (t : Stream) (room : ℕ) → CoaxFinishAsks f t room → Free (coax_finish_order f t room)
  coax_finish_free t room a =
      stream_free f a.stream (counted_free f a.count, (λ x. omega (arith, a.fits), tt))

module _ (k : CoaxCode) where
  abbrev f : Format
  f = coax_format k

  -- a payload of the code's count fills its bytes
  full : (K : ℕ) (u : List ℕ) → ((bad_count f K).applies → ⊥) → ((wrong_bytes u K).applies → ⊥)
      → (with_unused_set u K).applies → ⊥
  full K u count bytes s =
      let least = not_above K (places_of_payload (coax_code k)) (λ l. count (inl l)) in
      let most = not_above (places_of_payload (coax_code k)) K (λ l. count (inr l)) in
      let long = not_different (length u) (need K) bytes in
      omega (arith, (coax_numbers k).whole, bit_past u s.0 (omega (arith, (coax_numbers k).whole, s.1)), s.2)

  encode_told : (K : ℕ) (u : List ℕ) (room r : ℕ) → tells (coax_encode_order f K u room) r
      → tells (encode_order f K u 0 room) r
  encode_told K u room r =
      ⊎_elim inl
      (λ a. inr (
        a.0,
        inr (
          λ x. x (omega arith),
          ⊎_elim inl (λ b. inr (b.0, inr (full K u a.0 b.0, inr (λ x. omega arith, b.1)))) a.1,
        ),
      ))

  pub coax_finish_told : (t : Stream) (room r : ℕ) → tells (coax_finish_order f t room) r
      → tells (finish_order f t 0 room) r
  coax_finish_told t room r =
      ⊎_elim inl
      (λ a. inr (
        a.0,
        ⊎_elim inl
            (λ b. inr (
              b.0,
              ⊎_elim inl (λ c. inr (c.0, inr (λ x. x (omega arith), inr (λ x. omega arith, c.1)))) b.1,
            )) a.1,
      ))

  pub coax_encoded : (K : ℕ) (u o : List ℕ) (a : Answer) (o' : List ℕ) → CoaxEncoded k K u o a o'
      → Encoded f K u 0 o a o'
  coax_encoded K u o a o' x =
      record { told = encode_told K u (length o) (refusal_of a) x.told; effect = x.effect }

  pub coax_finished : (t : Stream) (o : List ℕ) (r : Outcome) (o' : List ℕ) → CoaxFinished k t o r o'
      → Finished f 0 t o r o'
  coax_finished t o r o' x =
      record { told = coax_finish_told t (length o) (refusal_of r.answer) x.told; effect = x.effect }

  module _ (one : OneParity (coax_code k)) where
    pub coax_encode_same : (K : ℕ) (u o : List ℕ) (a b : Answer) (o' o'' : List ℕ) → Bytes o' → Bytes o''
        → CoaxEncoded k K u o a o' → CoaxEncoded k K u o b o'' → (a ≡ b) × (o' ≡ o'')
    coax_encode_same K u o = written_line_same f one (coax_encode_order f K u (length o)) K u 0 o

    pub coax_complete_same : (K : ℕ) (w : List ℕ) (a b : Answer) (w' w'' : List ℕ) → Bytes w' → Bytes w''
        → CoaxCompleted k K w a w' → CoaxCompleted k K w b w'' → (a ≡ b) × (w' ≡ w'')
    coax_complete_same K w = completion_same f one (coax_word_order f K w) w

    pub coax_finish_same : (t : Stream) (o : List ℕ) (r r' : Outcome) (o' o'' : List ℕ) → Bytes o' → Bytes o''
        → CoaxFinished k t o r o' → CoaxFinished k t o r' o'' → (r ≡ r') × (o' ≡ o'')
    coax_finish_same t o = finished_same f one (coax_finish_order f t (length o)) 0 t o

  pub coax_check_same : (K : ℕ) (w : List ℕ) (j j' : Judgement) → CoaxChecked k K w j → CoaxChecked k K w j' → j ≡ j'
  coax_check_same K w =
      checked_same (coax_word_order f K w) (WordVerdict f K (bit w)) (word_same f K (bit w))

  pub coax_encode_exactly : (K : ℕ) (u o : List ℕ) (a : Answer) (o' : List ℕ) → CoaxEncoded k K u o a o'
      → Exactly (a ≡ Done) (CoaxEncodeAsks f K u (length o))
  coax_encode_exactly K u o a o' x = (
    λ e. coax_encode_asked f (ap refusal_of e) K u (length o) x.told,
    λ i. (done_exactly (coax_encode_order f K u (length o)) tt a x).1 (coax_encode_free f K u (length o) i),
  )

  pub coax_complete_exactly : (K : ℕ) (w : List ℕ) (a : Answer) (w' : List ℕ) → CoaxCompleted k K w a w'
      → Exactly (a ≡ Done) (CoaxWordAsks f K w)
  coax_complete_exactly K w a w' x = (
    λ e. coax_word_asked f (ap refusal_of e) K w x.told,
    λ i. (done_exactly (coax_word_order f K w) tt a x).1 (coax_word_free f K w i),
  )

  pub coax_check_exactly : (K : ℕ) (w : List ℕ) (j : Judgement) → CoaxChecked k K w j
      → Exactly ((v : Verdict) × (j ≡ Judged v)) (CoaxWordAsks f K w)
  coax_check_exactly K w j x = (
    λ e. coax_word_asked f (ap refusal_in e.1) K w x.told,
    λ i. (judged_exactly (coax_word_order f K w) tt j x).1 (coax_word_free f K w i),
  )

  pub coax_finish_exactly : (t : Stream) (o : List ℕ) (r : Outcome) (o' : List ℕ) → CoaxFinished k t o r o'
      → Exactly (r.answer ≡ Done) (CoaxFinishAsks f t (length o))
  coax_finish_exactly t o r o' x = (
    λ e. coax_finish_asked f (ap refusal_of e) t (length o) x.told,
    λ i. (done_exactly (coax_finish_order f t (length o)) tt r.answer x).1 (coax_finish_free f t (length o) i),
  )

  pub coax_encode_kept : (K : ℕ) (u o : List ℕ) (a : Answer) (o' : List ℕ) → (a ≡ Done → ⊥) → CoaxEncoded k K u o a o'
      → o' ≡ o
  coax_encode_kept K u o a o' d x = kept_part a d x

  pub coax_complete_kept : (K : ℕ) (w : List ℕ) (a : Answer) (w' : List ℕ) → (a ≡ Done → ⊥) → CoaxCompleted k K w a w'
      → w' ≡ w
  coax_complete_kept K w a w' d x = kept_part a d x

  pub coax_finish_kept : (t : Stream) (o : List ℕ) (r : Outcome) (o' : List ℕ) → (r.answer ≡ Done → ⊥)
      → CoaxFinished k t o r o' → (r.stream ≡ t) × (o' ≡ o)
  coax_finish_kept t o r o' d x = kept_part r.answer d x
