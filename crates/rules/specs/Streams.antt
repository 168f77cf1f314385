-- Paper 01, 'Stream', and W2 and W9 of paper 02: a fresh stream, and what an accepted piece adds. Any state from
-- outside counts.
--
--   stream_bytes    384: the bytes of running checks that a stream holds; of a code with fewer checks than they have
--                   bits, the first are in use
--   fresh n         the fresh stream of the code numbered n: 0 bits held and 384 zero bytes of running checks
--   Fed f b s t t'  t' is the stream t after the piece s of b bits: its number stays, the bits stand at the next b
--                   places, and the checks of these, reordered, are added to the running checks; check n is bit n of
--                   these
--
-- Believe this file beside the paper; nothing here is proved.
use Rattle.std.specs.Prelude.{◌≡◌, List, ℕ, ◌+◌, replicate}
use Rattle.rules.specs.Bits.{bit, placed, Adds}
use Rattle.rules.specs.Matrix.{check}
use Rattle.rules.specs.Formats.{Format}
use Rattle.rules.specs.Words.{reordered}
use Rattle.rules.specs.declared.Stream.{Stream}

abbrev pub stream_bytes : ℕ
stream_bytes = 384

abbrev pub fresh : ℕ → Stream
fresh n = record { number = n; held = 0; checks = replicate stream_bytes 0 }

pub record Fed (f : Format) (b : ℕ) (s : List ℕ) (t t' : Stream) : Type 0 where
  pub number : t'.number ≡ t.number
  pub held : t'.held ≡ t.held + b
  pub checks : Adds t.checks t'.checks (λ n. check f.code n (reordered f (placed t.held b (bit s))))
