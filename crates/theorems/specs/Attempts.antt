-- Demand 3, and W2 and W9 of paper 02: a stream that was reached from its own fresh stream, that of its code, by any
-- attempts, by one format and so by one pair of lists; the bits that it accepted, and its running checks.
--
--   chosen a x y        x where the answer a is Done, y where it is a refusal
--   Reached f u h t     the stream t was reached from the fresh stream of f's code, by any pieces and finishes,
--                       accepted or refused; h is how many bits it accepted since it was last fresh, and u is these
--                       bits, followed by zeros
--   Running f u h t     what demand 3 says of such a stream: it has the code's number and holds h bits, and its running
--                       checks are those of u, reordered
--
-- Believe this file beside the paper. Streams proves that a stream that was reached is running.
use Rattle.std.specs.Prelude.{◌≡◌, List, ℕ, ◌+◌, ◌≤◌, ◌<◌, length}
use Rattle.rules.specs.Bits.{bit, Bytes, zeros, run}
use Rattle.rules.specs.Matrix.{check}
use Rattle.rules.specs.Formats.{Format}
use Rattle.rules.specs.Words.{reordered}
use Rattle.rules.specs.Streams.{stream_bytes, fresh}
use Rattle.rules.specs.Promises.{PieceTaken, Finished}
use Rattle.rules.specs.Answers.{Answer}
use Rattle.rules.specs.Answers.{Done, Refused}
use Rattle.rules.specs.declared.Stream.{Stream}
use Rattle.rules.specs.Answers.{Outcome}

abbrev pub chosen : {A : Type 0} → Answer → A → A → A
chosen Done x y = x
chosen (Refused n) x y = y

pub data Reached (f : Format) : (ℕ → ℕ) → ℕ → Stream → Type 0 where
  begun : Reached f zeros 0 (fresh f.number)
  piece : {u : ℕ → ℕ} {h : ℕ} {t : Stream} (b : ℕ) (s : List ℕ) (r : Outcome) → Reached f u h t → PieceTaken f b s t r
      → Bytes r.stream.checks
      → Reached f (chosen r.answer (run h u (run b (bit s) zeros)) u) (chosen r.answer (h + b) h) r.stream
  finish : {u : ℕ → ℕ} {h : ℕ} {t : Stream} (d : ℕ) (o : List ℕ) (r : Outcome) (o' : List ℕ) → Reached f u h t
      → Finished f d t o r o'
      → Reached f (chosen r.answer zeros u) (chosen r.answer 0 h) r.stream

pub record Running (f : Format) (u : ℕ → ℕ) (h : ℕ) (t : Stream) : Type 0 where
  pub number : t.number ≡ f.number
  pub held : t.held ≡ h
  pub most : h ≤ f.most
  pub bits : (n : ℕ) → u n < 2
  pub after : (n : ℕ) → h ≤ n → u n ≡ 0
  pub long : length t.checks ≡ stream_bytes
  pub bytes : Bytes t.checks
  pub checks : (n : ℕ) → bit t.checks n ≡ check f.code n (reordered f u)
