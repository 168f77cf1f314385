-- What an order says of the inputs where it tells no refusal: they are what the operation asks. Each fact is asked for
-- by its refusal's number, wherever that stands. Any format.
--
--   X-asked    the inputs of operation X
--   not_above  a number that is not above another is at most that one
use mathlib.Core.Path.{◌≡◌}
use mathlib.Core.Logic.{inl, inr}
use mathlib.Core.List.{List}
use Prim.Native.Nat.{ℕ, ◌≤◌, ◌<◌}
use native.Mathlib.Decide.{dec_lt}
use native.Mathlib.Omega.{arith}
use Rattle.rules.specs.Bits.{Packed}
use Rattle.rules.specs.Formats.{Format}
use Rattle.rules.specs.Refusals.{tells, bad_count, broken_block, wrong_bytes, with_unused_set, other_code, bad_state}
use Rattle.rules.specs.Refusals.{encode_order, piece_order, finish_order, complete_order, word_order, line_order}
use Rattle.rules.specs.Coax.{coax_encode_order, coax_word_order, coax_finish_order}
use Rattle.rules.specs.Coax.{Counted, CoaxEncodeAsks, CoaxWordAsks, CoaxFinishAsks}
use Rattle.rules.specs.Asked.{WholeBlocks, Serves, EncodeAsks, CompleteAsks, PieceAsks, FinishAsks, WordAsks, LineAsks}
use Rattle.rules.specs.declared.Stream.{Stream}
use Rattle.laws.proofs.Told.{not_refused, not_different}
use Rattle.laws.proofs.Lent.{lent_not}

pub not_above : (a b : ℕ) → (a < b → ⊥) → b ≤ a
not_above a b h = elim (dec_lt a b) [
  | yes l ↦ absurd (h l)
  | no l ↦ omega arith
]

packed : {b : ℕ} {s : List ℕ} → ((wrong_bytes s b).applies → ⊥) → ((with_unused_set s b).applies → ⊥) → Packed b s
packed bytes unused = record { bytes = not_different _ _ bytes; unused = unused }

module _ (f : Format) where
  counted : {K : ℕ} → ((bad_count f K).applies → ⊥) → Counted f K
  counted {K} bad = record {
    least = not_above K f.least (λ l. bad (inl l));
    most = not_above f.most K (λ l. bad (inr l));
  }

  pub whole_blocks : {K : ℕ} → ((bad_count f K).applies → ⊥) → ((broken_block f K).applies → ⊥) → WholeBlocks f K
  whole_blocks bad broken =
      let c = counted bad in
      record { least = c.least; most = c.most; whole = not_different _ _ broken }

  serves : {t : Stream} → ((other_code f t).applies → ⊥) → ((bad_state f t).applies → ⊥) → Serves f t
  serves {t} other bad = record {
    number = not_different _ _ other;
    held = not_above f.most t.held (λ l. bad (inl l));
    unused = λ s. bad (inr s);
  }

  module _ {r : ℕ} (e : r ≡ 0) where
    pub encode_asked : (K : ℕ) (u : List ℕ) (d room : ℕ) → tells (encode_order f K u d room) r → EncodeAsks f K u d room
    encode_asked K u d room t =
        let lent = lent_not f _ e t tt in
        let not = lent.1 in
        record {
          lists = lent.0;
          count = whole_blocks (not 1) (not 10);
          payload = packed (not 2) (not 3);
          delimiter = not_above _ d (not 4);
          fits = not_above room _ (not 5);
        }

    pub complete_asked : (K : ℕ) (w : List ℕ) → tells (complete_order f K w) r → CompleteAsks f K w
    complete_asked K w t =
        let lent = lent_not f _ e t tt in
        let not = lent.1 in
        record {
          lists = lent.0;
          count = whole_blocks (not 1) (not 10);
          bytes = not_different _ _ (not 2);
          shortened = λ n s. not 8 (n, s);
        }

    pub piece_asked : (t : Stream) (b : ℕ) (s : List ℕ) → tells (piece_order f t b s) r → PieceAsks f t b s
    piece_asked t b s h =
        let lent = lent_not f _ e h tt in
        let not = lent.1 in
        record {
          lists = lent.0;
          stream = serves (not 12) (not 7);
          piece = packed (not 2) (not 3);
          most = not_above f.most _ (not 6);
        }

    pub finish_asked : (t : Stream) (d room : ℕ) → tells (finish_order f t d room) r → FinishAsks f t d room
    finish_asked t d room h =
        let lent = lent_not f _ e h tt in
        let not = lent.1 in
        record {
          lists = lent.0;
          stream = serves (not 12) (not 7);
          count = whole_blocks (not 1) (not 10);
          delimiter = not_above _ d (not 4);
          fits = not_above room _ (not 5);
        }

    pub word_asked : (K : ℕ) (w : List ℕ) → tells (word_order f K w) r → WordAsks f K w
    word_asked K w t =
        let lent = lent_not f _ e t tt in
        let not = lent.1 in
        record { lists = lent.0; count = whole_blocks (not 1) (not 10); bytes = not_different _ _ (not 2) }

    pub line_asked : (K : ℕ) (l : List ℕ) (d : ℕ) → tells (line_order f K l d) r → LineAsks f K l d
    line_asked K l d t =
        let lent = lent_not f _ e t tt in
        let not = lent.1 in
        record {
          lists = lent.0;
          count = whole_blocks (not 1) (not 10);
          line = packed (not 2) (not 3);
          delimiter = not_above _ d (not 4);
        }

    pub coax_encode_asked : (K : ℕ) (u : List ℕ) (room : ℕ) → tells (coax_encode_order f K u room) r
        → CoaxEncodeAsks f K u room
    coax_encode_asked K u room t =
        let not = not_refused (coax_encode_order f K u room) tt e t in
        record { count = counted (not 1); bytes = not_different _ _ (not 2); fits = not_above room _ (not 5) }

    pub coax_word_asked : (K : ℕ) (w : List ℕ) → tells (coax_word_order f K w) r → CoaxWordAsks f K w
    coax_word_asked K w t =
        let not = not_refused (coax_word_order f K w) tt e t in
        record { count = counted (not 1); word = packed (not 2) (not 3) }

    pub coax_finish_asked : (t : Stream) (room : ℕ) → tells (coax_finish_order f t room) r → CoaxFinishAsks f t room
    coax_finish_asked t room h =
        let not = not_refused (coax_finish_order f t room) tt e h in
        record { stream = serves (not 12) (not 7); count = counted (not 1); fits = not_above room _ (not 5) }
