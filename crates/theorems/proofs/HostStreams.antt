-- The C boundary of streams, over any format: HostPiece and HostFinish are at fibre_format, their coax forms at
-- coax_format. A state is the bytes that the host keeps.
--
--   host_piece_same, host_finish_same          two outcomes of one call are equal: number, state and output
--   host_piece_zero, host_finish_zero          0 exactly when done
--   host_piece_refused, host_finish_refused    any other number is a refusal, 1 to 65,535, and every byte is as it was
--   host_piece_reached, host_finish_reached    a call on the state of a stream is an attempt on that stream, so that
--                                              what Streams says holds after any calls
--   fresh_state                                byte n and 399 zero bytes are the fresh stream of code n
--   host_finish_fresh                          a finish that is done leaves just these
use mathlib.Core.Path.{◌≡◌, refl, sym, ap, ap₂, ◌∙◌}
use mathlib.Core.Logic.{⊎_elim}
use mathlib.Core.List.{List, ◌∷◌}
use Prim.Native.Nat.{ℕ, zero, suc, ◌+◌, ◌^◌, ◌<◌}
use native.Mathlib.Omega.{arith}
use lib.Dec.{lit<, T, ltb}
use lib.ListN.{length, drop, replicate}
use lib.Seq.{get_or-drop}
use Rattle.rules.specs.Bits.{bit, Bytes, zeros, run}
use Rattle.rules.specs.Formats.{Format}
use Rattle.rules.specs.Streams.{fresh, Fed}
use Rattle.rules.specs.Refusals.{Refusal, tells, piece_order, finish_order}
use Rattle.rules.specs.Promises.{refusal_of, TailWritten, PieceTaken, Finished}
use Rattle.rules.specs.Answers.{Answer}
use Rattle.rules.specs.Answers.{Done, Refused}
use Rattle.rules.specs.Answers.{Outcome}
use Rattle.laws.proofs.Adds.{adds_same}
use Rattle.laws.proofs.Bits.{byte_zeros}
use Rattle.laws.proofs.Lent.{lent_passes}
use Rattle.laws.proofs.Parities.{OneParity}
use Rattle.laws.proofs.Told.{numbers_pass, promise_same}
use Rattle.states.specs.States.{low_first, state_bytes, stream_in}
use Rattle.states.proofs.States.{state_single}
use Rattle.host.specs.Numbers.{Answered}
use Rattle.host.specs.Streams.{wrong_state, StatePiece, StateFinish}
use Rattle.theorems.specs.Exactly.{Exactly}
use Rattle.theorems.specs.Attempts.{chosen, Reached, piece, finish}
use Rattle.theorems.proofs.Same.{stream_of, tail_written_same}
use Rattle.theorems.proofs.Host.{answered_zero, answered_refused}

-- the running checks of a state of bytes are bytes
check_bytes_law : (s : List ℕ) → Bytes s → Bytes (drop 16 s)
check_bytes_law s h i = rw (get_or-drop 16 s i 0) (h (16 + i))

-- of a state of 400 bytes 17 is not told
passed : (q : List Refusal) (s : List ℕ) {r : ℕ} → length s ≡ state_bytes → tells (wrong_state s ∷ q) r → tells q r
passed q s long t = ⊎_elim (λ x. absurd (x.0 long)) (λ x. x.1) t

-- the outcome that an answer and a state are
abbrev left : Answer → List ℕ → Outcome
left a s' = record { answer = a; stream = stream_in s' }

-- byte n, and 399 zero bytes
pub fresh_state : (n : ℕ) → stream_in (n ∷ replicate 399 0) ≡ fresh n
unfolding low_first
fresh_state n = stream_of (omega arith) refl refl

fresh_bytes : (n : ℕ) → n < 256 → Bytes (n ∷ replicate 399 0)
fresh_bytes n h zero = h
fresh_bytes n h (suc i) = rw (byte_zeros 399 i) (lit< tt)

-- a state s, and what a call leaves: an answer a and a state s'
module _ (f : Format) (s : List ℕ) where
  module _ (n : ℕ) (p : List ℕ) where
    -- what a piece that is done leaves is single
    fed_single : (v v' : List ℕ) → Bytes v → Bytes v' → (length v ≡ state_bytes) × Fed f n p (stream_in s) (stream_in v)
        → (length v' ≡ state_bytes) × Fed f n p (stream_in s) (stream_in v') → v ≡ v'
    fed_single v v' h h' x y =
        state_single v v' h h' x.0 y.0
        (stream_of (x.1.number ∙ sym y.1.number) (x.1.held ∙ sym y.1.held)
        (adds_same (check_bytes_law v h) (check_bytes_law v' h') x.1.checks y.1.checks))

    pub host_piece_same : (r r' : ℕ) (s' s'' : List ℕ) → Bytes s' → Bytes s''
        → Answered (λ a. StatePiece f n p s a s') r → Answered (λ a. StatePiece f n p s a s'') r'
        → (r ≡ r') × (s' ≡ s'')
    host_piece_same r r' s' s'' h h' x y =
        let same = promise_same Bytes _ (λ v. v ≡ s) fed_single (λ v v' e e'. e ∙ sym e') _ x.answer y.answer s'
        s'' h h' x.promised y.promised in
        (x.result ∙ ap refusal_of same.0 ∙ sym y.result, same.1)

    pub host_piece_zero : (r : ℕ) (s' : List ℕ) → Answered (λ a. StatePiece f n p s a s') r
        → Exactly (r ≡ 0) (StatePiece f n p s Done s')
    host_piece_zero r s' x = answered_zero x

    pub host_piece_refused : (r : ℕ) (s' : List ℕ) → Answered (λ a. StatePiece f n p s a s') r → (r ≡ 0 → ⊥)
        → tells (wrong_state s ∷ piece_order f (stream_in s) n p) r × (0 < r) × (r < 2 ^ 16) × (s' ≡ s)
    host_piece_refused r s' x = answered_refused x (lent_passes f _ (λ n. ltb n (2 ^ 16)) refl tt)

    -- a call on a state of 400 bytes is an attempt on its stream
    piece_taken : (a : Answer) (s' : List ℕ) → length s ≡ state_bytes → StatePiece f n p s a s'
        → PieceTaken f n p (stream_in s) (left a s')
    piece_taken Done s' long x =
        record { told = passed (piece_order f (stream_in s) n p) s long x.told; effect = x.effect.1 }
    piece_taken (Refused m) s' long x = record {
      told = passed (piece_order f (stream_in s) n p) s long x.told;
      effect = (x.effect.0, ap stream_in x.effect.1);
    }

    pub host_piece_reached : {u : ℕ → ℕ} {h r : ℕ} {s' : List ℕ} → Reached f u h (stream_in s) → length s ≡ state_bytes
        → Bytes s' → (x : Answered (λ a. StatePiece f n p s a s') r)
        → Reached f (chosen x.answer (run h u (run n (bit p) zeros)) u) (chosen x.answer (h + n) h) (stream_in s')
    host_piece_reached {s' = s'} reached long bytes x =
        piece n p (left x.answer s') reached (piece_taken x.answer s' long x.promised) (check_bytes_law s' bytes)

  module _ (q : List Refusal) (d : ℕ) (o : List ℕ) where
    module _ (one : OneParity f.code) where
      -- what a finish that is done leaves is single: the state, and the output
      abbrev Left : List ℕ × List ℕ → Type 0
      Left v =
          (length v.0 ≡ state_bytes) × (stream_in v.0 ≡ fresh f.number)
          × TailWritten f (stream_in s).checks d o v.1

      abbrev BothBytes : List ℕ × List ℕ → Type 0
      BothBytes v = Bytes v.0 × Bytes v.1

      both_of : {v v' : List ℕ × List ℕ} → v.0 ≡ v'.0 → v.1 ≡ v'.1 → v ≡ v'
      both_of a b = ap₂ (λ (x y : List ℕ). (x, y)) a b

      left_single : (v v' : List ℕ × List ℕ) → BothBytes v → BothBytes v' → Left v → Left v' → v ≡ v'
      left_single v v' h h' x y =
          both_of (state_single v.0 v'.0 h.0 h'.0 x.0 y.0 (x.1 ∙ sym y.1))
          (tail_written_same f one (stream_in s).checks d o v.1 v'.1 h.1 h'.1 x.2 y.2)

      pub host_finish_same : (r r' : ℕ) (s' s'' o' o'' : List ℕ) → Bytes s' → Bytes s'' → Bytes o' → Bytes o''
          → Answered (λ a. StateFinish q f d s o a s' o') r → Answered (λ a. StateFinish q f d s o a s'' o'') r'
          → (r ≡ r') × (s' ≡ s'') × (o' ≡ o'')
      host_finish_same r r' s' s'' o' o'' h h' k k' x y =
          let same = promise_same BothBytes Left (λ v. (v.0 ≡ s) × (v.1 ≡ o)) left_single
          (λ v v' e e'. both_of (e.0 ∙ sym e'.0) (e.1 ∙ sym e'.1)) (wrong_state s ∷ q) x.answer y.answer
          (s', o') (s'', o'') (h, k) (h', k') x.promised y.promised in (
            x.result ∙ ap refusal_of same.0 ∙ sym y.result,
            ap (λ (v : List ℕ × List ℕ). v.0) same.1,
            ap (λ (v : List ℕ × List ℕ). v.1) same.1,
          )

    -- r is the number of a finish by the order q
    module _ {r : ℕ} {s' o' : List ℕ} (x : Answered (λ a. StateFinish q f d s o a s' o') r) where
      pub host_finish_zero : Exactly (r ≡ 0) (StateFinish q f d s o Done s' o')
      host_finish_zero = answered_zero x

      pub host_finish_refused : T (numbers_pass (λ n. ltb n (2 ^ 16)) q) → (r ≡ 0 → ⊥)
          → tells (wrong_state s ∷ q) r × (0 < r) × (r < 2 ^ 16) × ((s' ≡ s) × (o' ≡ o))
      host_finish_refused short = answered_refused x short

      pub host_finish_fresh : f.number < 256 → Bytes s' → r ≡ 0 → s' ≡ f.number ∷ replicate 399 0
      host_finish_fresh small bytes e =
          let done = (host_finish_zero.0 e).effect in
          state_single s' _ bytes (fresh_bytes f.number small) done.0 refl
          (done.1 ∙ sym (fresh_state f.number))

  -- a finish by an order q that tells what f's own order does; that of a coax code does, by coax_finish_told
  module _ (q : List Refusal) (d : ℕ) (o : List ℕ)
      (own : (r : ℕ) → tells q r → tells (finish_order f (stream_in s) d (length o)) r) where
    finish_done : (a : Answer) (s' o' : List ℕ) → length s ≡ state_bytes → StateFinish q f d s o a s' o'
        → Finished f d (stream_in s) o (left a s') o'
    finish_done Done s' o' long x =
        record { told = own 0 (passed q s long x.told); effect = (x.effect.1, x.effect.2) }
    finish_done (Refused m) s' o' long x = record {
      told = own m (passed q s long x.told);
      effect = (x.effect.0, (ap stream_in x.effect.1.0, x.effect.1.1));
    }

    pub host_finish_reached : {u : ℕ → ℕ} {h r : ℕ} (s' o' : List ℕ) → Reached f u h (stream_in s)
        → length s ≡ state_bytes → (x : Answered (λ a. StateFinish q f d s o a s' o') r)
        → Reached f (chosen x.answer zeros u) (chosen x.answer 0 h) (stream_in s')
    host_finish_reached s' o' reached long x =
        finish d o (left x.answer s') o' reached (finish_done x.answer s' o' long x.promised)
