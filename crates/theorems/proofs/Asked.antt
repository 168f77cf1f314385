-- Demand 1, in plain words: each operation is done, or gives a verdict, exactly where its inputs are what it asks. Any
-- format.
--
--   packed_free, counted_free, stream_free  the refusals of bytes, of a count's limits and of a stream's state do not
--                                           apply
--   X-free                                  where the inputs are what operation X asks, no refusal of its order
--                                           applies
--   X-exactly                               X is done, or gives a verdict, exactly then
use mathlib.Core.Path.{◌≡◌, ap}
use mathlib.Core.Logic.{⊎_elim}
use mathlib.Core.List.{List, ◌++◌}
use Prim.Native.Nat.{ℕ}
use native.Mathlib.Omega.{arith}
use lib.ListN.{length}
use Rattle.rules.specs.Bits.{Packed}
use Rattle.rules.specs.Matrix.{checks, places_of_payload}
use Rattle.rules.specs.Lists.{Lists, none, pair, AreListed}
use Rattle.rules.specs.Formats.{Format}
use Rattle.rules.specs.Refusals.{Refusal, bad_count, broken_block, wrong_bytes, with_unused_set, other_code, bad_state}
use Rattle.rules.specs.Refusals.{bad_lists, of_lists}
use Rattle.rules.specs.Refusals.{encode_order, piece_order, finish_order, complete_order, word_order, line_order}
use Rattle.rules.specs.Asked.{ListsFit, WholeBlocks, Serves}
use Rattle.rules.specs.Asked.{EncodeAsks, CompleteAsks, PieceAsks, FinishAsks, WordAsks, LineAsks}
use Rattle.rules.specs.Coax.{Counted}
use Rattle.rules.specs.Promises.{refusal_of, refusal_in}
use Rattle.rules.specs.Promises.{Completed, WordChecked, Encoded, LineChecked, PieceTaken, Finished}
use Rattle.rules.specs.Answers.{Answer}
use Rattle.rules.specs.Answers.{Done}
use Rattle.rules.specs.declared.Verdict.{Verdict}
use Rattle.rules.specs.Judgements.{Judgement}
use Rattle.rules.specs.Judgements.{Judged}
use Rattle.rules.specs.declared.Stream.{Stream}
use Rattle.rules.specs.Answers.{Outcome}
use Rattle.laws.proofs.Lent.{not_bad, lent_numbered}
use Rattle.laws.proofs.Asked.{encode_asked, complete_asked, piece_asked, finish_asked, word_asked, line_asked}
use Rattle.theorems.specs.Exactly.{Exactly, Free}
use Rattle.theorems.proofs.Refusing.{done_exactly, judged_exactly}

-- before any others, R, the refusals of bytes do not apply
pub packed_free : {b : ℕ} {s : List ℕ} {R : Type 0} → Packed b s → R
    → ((wrong_bytes s b).applies → ⊥) × (((with_unused_set s b).applies → ⊥) × R)
packed_free p rest = (λ x. x p.bytes, (p.unused, rest))

-- lists of n and of m places that fit, before any others, o
lists_by : (n m : ℕ) (o : List Refusal) (v : Lists) → AreListed n m v → Free o → Free (bad_lists n m v ++ o)
lists_by n m o none fit rest = rest
lists_by n m o (pair a b) fit rest =
    (⊎_elim (not_bad n a fit.0) (not_bad m b fit.1), rest)

module _ (f : Format) where
  -- before any others, o, the refusal of lists does not apply
  lists_free : (o : List Refusal) → ListsFit f → Free o → Free (of_lists f ++ o)
  lists_free o = lists_by (places_of_payload f.code) (checks f.code) o f.lists

  pub counted_free : {K : ℕ} → Counted f K → (bad_count f K).applies → ⊥
  counted_free c = ⊎_elim (λ l. omega (arith, c.least)) (λ l. omega (arith, c.most))

  -- before any others, R, the refusals of a payload's count do not apply
  count_free : {K : ℕ} {R : Type 0} → WholeBlocks f K → R
      → ((bad_count f K).applies → ⊥) × (((broken_block f K).applies → ⊥) × R)
  count_free w rest =
      (counted_free (record { least = w.least; most = w.most }), (λ x. x w.whole, rest))

  -- before any others, R, the refusals of a stream's state do not apply
  pub stream_free : {t : Stream} {R : Type 0} → Serves f t → R
      → ((other_code f t).applies → ⊥) × (((bad_state f t).applies → ⊥) × R)
  stream_free s rest = (λ x. x s.number, (⊎_elim (λ l. omega (arith, s.held)) s.unused, rest))

  encode_free : (K : ℕ) (u : List ℕ) (d room : ℕ) → EncodeAsks f K u d room → Free (encode_order f K u d room)
  encode_free K u d room a =
      lists_free _ a.lists
      (count_free a.count
      (packed_free a.payload (λ x. omega (arith, a.delimiter), (λ x. omega (arith, a.fits), tt))))

  complete_free : (K : ℕ) (w : List ℕ) → CompleteAsks f K w → Free (complete_order f K w)
  complete_free K w a =
      lists_free _ a.lists
      (count_free a.count (λ x. x a.bytes, (λ x. a.shortened x.0 x.1, tt)))

  piece_free : (t : Stream) (b : ℕ) (s : List ℕ) → PieceAsks f t b s → Free (piece_order f t b s)
  piece_free t b s a =
      lists_free _ a.lists
      (stream_free a.stream (packed_free a.piece (λ x. omega (arith, a.most), tt)))

  finish_free : (t : Stream) (d room : ℕ) → FinishAsks f t d room → Free (finish_order f t d room)
  finish_free t d room a =
      lists_free _ a.lists
      (stream_free a.stream
      (count_free a.count (λ x. omega (arith, a.delimiter), (λ x. omega (arith, a.fits), tt))))

  pub word_free : (K : ℕ) (w : List ℕ) → WordAsks f K w → Free (word_order f K w)
  word_free K w a = lists_free _ a.lists (count_free a.count (λ x. x a.bytes, tt))

  pub line_free : (K : ℕ) (l : List ℕ) (d : ℕ) → LineAsks f K l d → Free (line_order f K l d)
  line_free K l d a =
      lists_free _ a.lists
      (count_free a.count (packed_free a.line (λ x. omega (arith, a.delimiter), tt)))

  pub encode_exactly : (K : ℕ) (u : List ℕ) (d : ℕ) (o : List ℕ) (a : Answer) (o' : List ℕ) → Encoded f K u d o a o'
      → Exactly (a ≡ Done) (EncodeAsks f K u d (length o))
  encode_exactly K u d o a o' x = (
    λ e. encode_asked f (ap refusal_of e) K u d (length o) x.told,
    λ i. (done_exactly (encode_order f K u d (length o)) (lent_numbered f _ tt) a x).1 (encode_free K u d (length o) i),
  )

  pub complete_exactly : (K : ℕ) (w : List ℕ) (a : Answer) (w' : List ℕ) → Completed f K w a w'
      → Exactly (a ≡ Done) (CompleteAsks f K w)
  complete_exactly K w a w' x = (
    λ e. complete_asked f (ap refusal_of e) K w x.told,
    λ i. (done_exactly (complete_order f K w) (lent_numbered f _ tt) a x).1 (complete_free K w i),
  )

  pub piece_exactly : (b : ℕ) (s : List ℕ) (t : Stream) (r : Outcome) → PieceTaken f b s t r
      → Exactly (r.answer ≡ Done) (PieceAsks f t b s)
  piece_exactly b s t r x = (
    λ e. piece_asked f (ap refusal_of e) t b s x.told,
    λ i. (done_exactly (piece_order f t b s) (lent_numbered f _ tt) r.answer x).1 (piece_free t b s i),
  )

  pub finish_exactly : (d : ℕ) (t : Stream) (o : List ℕ) (r : Outcome) (o' : List ℕ) → Finished f d t o r o'
      → Exactly (r.answer ≡ Done) (FinishAsks f t d (length o))
  finish_exactly d t o r o' x = (
    λ e. finish_asked f (ap refusal_of e) t d (length o) x.told,
    λ i.
        (done_exactly (finish_order f t d (length o)) (lent_numbered f _ tt) r.answer x).1
        (finish_free t d (length o) i),
  )

  pub word_exactly : (K : ℕ) (w : List ℕ) (j : Judgement) → WordChecked f K w j
      → Exactly ((v : Verdict) × (j ≡ Judged v)) (WordAsks f K w)
  word_exactly K w j x = (
    λ e. word_asked f (ap refusal_in e.1) K w x.told,
    λ i. (judged_exactly (word_order f K w) (lent_numbered f _ tt) j x).1 (word_free K w i),
  )

  pub line_exactly : (K : ℕ) (l : List ℕ) (d : ℕ) (j : Judgement) → LineChecked f K l d j
      → Exactly ((v : Verdict) × (j ≡ Judged v)) (LineAsks f K l d)
  line_exactly K l d j x = (
    λ e. line_asked f (ap refusal_in e.1) K l d x.told,
    λ i. (judged_exactly (line_order f K l d) (lent_numbered f _ tt) j x).1 (line_free K l d i),
  )
