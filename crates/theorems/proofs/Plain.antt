-- W2 of paper 02: the pair of lists that changes nothing gives paper 01's words. With it each promise says, no less and
-- no more, what it says of fibre_kept: there both interleavers keep the order and no list is lent, so that the orders,
-- the words, the verdicts and the running checks are paper 01's, as W3, W4 and W9 amend them.
--
--   plain_pair      there is such a pair, as bytes
--   plain_fits      it is one of reorderings, so it is never refused
--   plain_encoded, plain_line_checked, plain_completed, plain_word_checked, plain_taken, plain_finished
--                   each promise
--   plain_host_encoded, plain_host_word, plain_host_line
--                   each promise of the C boundary
--   plain_lessons   the ten lessons are right with it
use mathlib.Core.Path.{◌≡◌, sym, ap₂, subst}
use mathlib.Core.List.{List, ◌++◌}
use Prim.Native.Nat.{ℕ}
use lib.Dec.{lit≤}
use lib.ListN.{length}
use Rattle.rules.specs.Bits.{bit, Bytes}
use Rattle.rules.specs.Matrix.{checks, places_of_payload}
use Rattle.rules.specs.Table.{fibre}
use Rattle.rules.specs.Lists.{Plain, none, pair}
use Rattle.rules.specs.Formats.{Format, fibre_by, fibre_format, fibre_kept}
use Rattle.rules.specs.Verdicts.{WordVerdict, TailVerdict, LineVerdict}
use Rattle.rules.specs.Streams.{Fed}
use Rattle.rules.specs.Refusals.{Refusal, of_lists}
use Rattle.rules.specs.Refusals.{encode_order, piece_order, finish_order, complete_order, word_order, line_order}
use Rattle.rules.specs.Asked.{ListsFit}
use Rattle.rules.specs.Promises.{refusal_of, refusal_in, by, judged, Promise, Checked}
use Rattle.rules.specs.Promises.{Completed, WordChecked, Encoded, LineChecked, PieceTaken, Finished}
use Rattle.rules.specs.Lessons.{AllRight, lessons}
use Rattle.rules.specs.Answers.{Answer}
use Rattle.rules.specs.Answers.{Done, Refused}
use Rattle.rules.specs.declared.Verdict.{Verdict}
use Rattle.rules.specs.Judgements.{Judgement}
use Rattle.rules.specs.Judgements as judgement
use Rattle.rules.specs.declared.Stream.{Stream}
use Rattle.rules.specs.Answers.{Outcome}
use Rattle.rules.proofs.LessonLaws.{lessons_right}
use Rattle.laws.proofs.Judged.{word_by, tail_by}
use Rattle.laws.proofs.Lent.{lent_told, lent_rest}
use Rattle.laws.proofs.Reorderings.{plain_listed, plain_place, plain_exists}
use Rattle.host.specs.Numbers.{Answered, Judging, HostEncoded, HostWord, HostLine}
use Rattle.theorems.specs.Exactly.{Exactly}

pub plain_pair : (a : List ℕ) × (b : List ℕ) × Bytes a × Bytes b × Plain (places_of_payload fibre) a
    × Plain (checks fibre) b
plain_pair =
    let a = plain_exists (places_of_payload fibre) (lit≤ tt) in
    let b = plain_exists (checks fibre) (lit≤ tt) in
    (a.0, b.0, a.1, b.1, a.2, b.2)

-- what is said twice in the same words
alike : {A : Type 0} → Exactly A A
alike = (λ x. x, λ x. x)

by_as : (x : Answer) (B : Type 0) {A A' : Type 0} → Exactly A A' → Exactly (by x A B) (by x A' B)
by_as Done B e = e
by_as (Refused n) B e = alike

judged_as : {P P' : Verdict → Type 0} → ((v : Verdict) → Exactly (P v) (P' v)) → (j : Judgement)
    → Exactly (judged P j) (judged P' j)
judged_as e (judgement.Judged v) = e v
judged_as e (judgement.Refused n) = alike

-- the same, told by number at the C boundary
answered_as : {P P' : Answer → Type 0} {r : ℕ} → ((x : Answer) → Exactly (P x) (P' x))
    → Exactly (Answered P r) (Answered P' r)
answered_as e = (
  λ x. record { answer = x.answer; promised = (e x.answer).0 x.promised; result = x.result },
  λ x. record { answer = x.answer; promised = (e x.answer).1 x.promised; result = x.result },
)

judging_as : {P P' : Judgement → Type 0} {r : ℕ} → ((j : Judgement) → Exactly (P j) (P' j))
    → Exactly (Judging P r) (Judging P' r)
judging_as e = (
  λ x. record { judgement = x.judgement; checked = (e x.judgement).0 x.checked; result = x.result },
  λ x. record { judgement = x.judgement; checked = (e x.judgement).1 x.checked; result = x.result },
)

module _ (a b : List ℕ) (first : Plain (places_of_payload fibre) a) (second : Plain (checks fibre) b) where
  -- the lists are lent, and the order is kept
  abbrev lent_kept : Format
  lent_kept = fibre_by (λ t. t) (λ t. t) (pair a b)

  plain_format : fibre_format a b ≡ lent_kept
  plain_format =
      ap₂ (λ (r s : ℕ → ℕ). fibre_by r s (pair a b)) (plain_place (places_of_payload fibre) a first)
      (plain_place (checks fibre) b second)

  pub plain_fits : ListsFit (fibre_format a b)
  plain_fits = (plain_listed (places_of_payload fibre) a first, plain_listed (checks fibre) b second)

  -- what holds of one format, holds of the other; and where it is Q, as no list is refused
  module _ (P : Format → Type 0) (Q : Type 0) (unlent : Exactly (P lent_kept) Q) where
    plainly : Exactly (P (fibre_format a b)) Q
    plainly = (λ p. unlent.0 (subst P plain_format p), λ q. subst P (sym plain_format) (unlent.1 q))

  -- A where the answer is Done, or P of a verdict, for what is said of the one format; A' and P' for the other
  module _ (o : List Refusal) where
    promised : (x : Answer) {A A' B : Type 0} → Exactly A A'
        → Exactly (Promise (of_lists lent_kept ++ o) x A B) (Promise o x A' B)
    promised x e = (
      λ p. record {
        told = lent_rest lent_kept o (refusal_of x) plain_fits p.told;
        effect = (by_as x _ e).0 p.effect;
      },
      λ p. record {
        told = lent_told lent_kept o (refusal_of x) plain_fits p.told;
        effect = (by_as x _ e).1 p.effect;
      },
    )

    checked : {P P' : Verdict → Type 0} → ((v : Verdict) → Exactly (P v) (P' v)) → (j : Judgement)
        → Exactly (Checked (of_lists lent_kept ++ o) P j) (Checked o P' j)
    checked e j = (
      λ p. record {
        told = lent_rest lent_kept o (refusal_in j) plain_fits p.told;
        verdict = (judged_as e j).0 p.verdict;
      },
      λ p. record {
        told = lent_told lent_kept o (refusal_in j) plain_fits p.told;
        verdict = (judged_as e j).1 p.verdict;
      },
    )

  -- no verdict, and nothing that is fed, asks for the lists that are lent
  abbrev kept : ℕ → ℕ
  kept t = t

  word_unlent : (K : ℕ) (w : ℕ → ℕ) (v : Verdict) → Exactly (WordVerdict lent_kept K w v) (WordVerdict fibre_kept K w v)
  word_unlent K w v =
      (word_by kept kept kept kept (pair a b) none K w v, word_by kept kept kept kept none (pair a b) K w v)

  tail_unlent : (K : ℕ) (l : List ℕ) (d : ℕ) (p : List ℕ) (v : Verdict)
      → Exactly (TailVerdict lent_kept K l d p v) (TailVerdict fibre_kept K l d p v)
  tail_unlent K l d p v =
      (tail_by kept kept kept kept (pair a b) none K l d p v, tail_by kept kept kept kept none (pair a b) K l d p v)

  line_unlent : (K : ℕ) (l : List ℕ) (d : ℕ) (v : Verdict)
      → Exactly (LineVerdict lent_kept K l d v) (LineVerdict fibre_kept K l d v)
  line_unlent K l d v = (
    λ x. (x.0, x.1, (tail_unlent K l d x.0 v).0 x.2),
    λ x. (x.0, x.1, (tail_unlent K l d x.0 v).1 x.2),
  )

  fed_unlent : (n : ℕ) (s : List ℕ) (t v : Stream) → Exactly (Fed lent_kept n s t v) (Fed fibre_kept n s t v)
  fed_unlent n s t v = (
    λ x. record { number = x.number; held = x.held; checks = x.checks },
    λ x. record { number = x.number; held = x.held; checks = x.checks },
  )

  pub plain_encoded : (K : ℕ) (u : List ℕ) (d : ℕ) (o : List ℕ) (x : Answer) (o' : List ℕ)
      → Exactly (Encoded (fibre_format a b) K u d o x o') (Encoded fibre_kept K u d o x o')
  plain_encoded K u d o x o' =
      plainly (λ f. Encoded f K u d o x o') _ (promised (encode_order fibre_kept K u d (length o)) x alike)

  pub plain_line_checked : (K : ℕ) (l : List ℕ) (d : ℕ) (j : Judgement)
      → Exactly (LineChecked (fibre_format a b) K l d j) (LineChecked fibre_kept K l d j)
  plain_line_checked K l d j = plainly (λ f. LineChecked f K l d j) _
      (checked (line_order fibre_kept K l d) (line_unlent K l d) j)

  pub plain_completed : (K : ℕ) (w : List ℕ) (x : Answer) (w' : List ℕ)
      → Exactly (Completed (fibre_format a b) K w x w') (Completed fibre_kept K w x w')
  plain_completed K w x w' = plainly (λ f. Completed f K w x w') _ (promised (complete_order fibre_kept K w) x alike)

  pub plain_word_checked : (K : ℕ) (w : List ℕ) (j : Judgement)
      → Exactly (WordChecked (fibre_format a b) K w j) (WordChecked fibre_kept K w j)
  plain_word_checked K w j = plainly (λ f. WordChecked f K w j) _
      (checked (word_order fibre_kept K w) (word_unlent K (bit w)) j)

  pub plain_taken : (n : ℕ) (s : List ℕ) (t : Stream) (r : Outcome)
      → Exactly (PieceTaken (fibre_format a b) n s t r) (PieceTaken fibre_kept n s t r)
  plain_taken n s t r =
      plainly (λ f. PieceTaken f n s t r) _
      (promised (piece_order fibre_kept t n s) r.answer (fed_unlent n s t r.stream))

  pub plain_finished : (d : ℕ) (t : Stream) (o : List ℕ) (r : Outcome) (o' : List ℕ)
      → Exactly (Finished (fibre_format a b) d t o r o') (Finished fibre_kept d t o r o')
  plain_finished d t o r o' =
      plainly (λ f. Finished f d t o r o') _
      (promised (finish_order fibre_kept t d (length o)) r.answer alike)

  pub plain_host_encoded : (K : ℕ) (u : List ℕ) (d : ℕ) (o : List ℕ) (r : ℕ) (o' : List ℕ)
      → Exactly (HostEncoded a b K u d o r o') (Answered (λ x. Encoded fibre_kept K u d o x o') r)
  plain_host_encoded K u d o r o' = answered_as (λ x. plain_encoded K u d o x o')

  pub plain_host_word : (K : ℕ) (w : List ℕ) (r : ℕ)
      → Exactly (HostWord a b K w r) (Judging (WordChecked fibre_kept K w) r)
  plain_host_word K w r = judging_as (plain_word_checked K w)

  pub plain_host_line : (K : ℕ) (l : List ℕ) (d r : ℕ)
      → Exactly (HostLine a b K l d r) (Judging (LineChecked fibre_kept K l d) r)
  plain_host_line K l d r = judging_as (plain_line_checked K l d)

  pub plain_lessons : AllRight (fibre_format a b) lessons
  plain_lessons = subst (λ (f : Format). AllRight f lessons) (sym plain_format) lessons_right
