-- W9 of paper 02, 'Streams from C': what the calls of a stream promise. The host keeps a state, the bytes s, which are
-- the stream that stream_in says; after the call they are s'.
--
--   wrong_state s            17, the boundary's own: the state has other than 400 bytes
--   StatePiece f b p s a s'  a piece p of b bits, with the answer a: 17 comes before every other refusal. Where it is
--                            done, the stream was fed; a refusal leaves every byte as it was
--   StateFinish q f d s ..   a finish, by the order q, which writes the tail to o: where it is done, the stream is a
--                            fresh one of the same code
--   HostPiece a b ..         what birdovesta_stream_piece promises, by the lists a and b
--   HostFinish a b ..        what birdovesta_stream_finish promises
--   HostCoaxPiece k ..       what birdovesta_stream_piece_16200 and birdovesta_stream_piece_5940 promise, for each
--                            code k
--   HostCoaxFinish k ..      what birdovesta_stream_finish_16200 and birdovesta_stream_finish_5940 promise
--
-- Believe this file beside the paper; nothing here is proved.
use Rattle.std.specs.Prelude.{◌≡◌, List, ◌∷◌, ℕ, length}
use Rattle.rules.specs.Formats.{Format, fibre_format}
use Rattle.rules.specs.Streams.{fresh, Fed}
use Rattle.rules.specs.Refusals.{Refusal, refusal, piece_order, finish_order}
use Rattle.rules.specs.Promises.{Promise, TailWritten}
use Rattle.rules.specs.Coax.{coax_format, coax_finish_order}
use Rattle.rules.specs.Answers.{Answer}
use Rattle.rules.specs.declared.CoaxCode.{CoaxCode}
use Rattle.states.specs.States.{state_bytes, stream_in}
use Rattle.host.specs.Numbers.{Answered}

abbrev pub wrong_state : List ℕ → Refusal
wrong_state s = refusal 17 (length s ≡ state_bytes → ⊥)

abbrev pub StatePiece : Format → ℕ → List ℕ → List ℕ → Answer → List ℕ → Type 0
StatePiece f b p s a s' =
    Promise (wrong_state s ∷ piece_order f (stream_in s) b p) a
    ((length s' ≡ state_bytes) × Fed f b p (stream_in s) (stream_in s'))
    (s' ≡ s)

abbrev pub StateFinish : List Refusal → Format → ℕ → List ℕ → List ℕ → Answer → List ℕ → List ℕ → Type 0
StateFinish q f d s o a s' o' =
    Promise (wrong_state s ∷ q) a
    ((length s' ≡ state_bytes) × (stream_in s' ≡ fresh f.number) × TailWritten f (stream_in s).checks d o o')
    ((s' ≡ s) × (o' ≡ o))

abbrev pub HostPiece : List ℕ → List ℕ → ℕ → List ℕ → List ℕ → ℕ → List ℕ → Type 0
HostPiece a b n p s r s' = Answered (λ x. StatePiece (fibre_format a b) n p s x s') r

abbrev pub HostFinish : List ℕ → List ℕ → ℕ → List ℕ → List ℕ → ℕ → List ℕ → List ℕ → Type 0
HostFinish a b d s o r s' o' =
    let q = finish_order (fibre_format a b) (stream_in s) d (length o) in
    Answered (λ x. StateFinish q (fibre_format a b) d s o x s' o') r

abbrev pub HostCoaxPiece : CoaxCode → ℕ → List ℕ → List ℕ → ℕ → List ℕ → Type 0
HostCoaxPiece k n p s r s' = Answered (λ x. StatePiece (coax_format k) n p s x s') r

abbrev pub HostCoaxFinish : CoaxCode → List ℕ → List ℕ → ℕ → List ℕ → List ℕ → Type 0
HostCoaxFinish k s o r s' o' =
    let q = coax_finish_order (coax_format k) (stream_in s) (length o) in
    Answered (λ x. StateFinish q (coax_format k) 0 s o x s' o') r
