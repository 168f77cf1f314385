-- W9 of paper 02, 'Streams from C': which stream 400 bytes are.
--
--   low_first s  the number that the bytes s are, low byte first
--   state_bytes  400: the bytes of a stream's state
--   stream_in s  the stream that the state s is: bytes 0 to 7 are its code's number, bytes 8 to 15 the bits held, each
--                low byte first, and the 384 bytes from there on the running checks
--
-- Believe this file beside the paper. The law state_single says that no two states are one stream.
use Rattle.std.specs.Prelude.{List, [], ◌∷◌, ℕ, ◌+◌, ◌*◌, take, drop}
use Rattle.rules.specs.declared.Stream.{Stream}

unfoldable pub low_first : List ℕ → ℕ
low_first [] = 0
low_first (x ∷ s) = x + 256 * low_first s

abbrev pub state_bytes : ℕ
state_bytes = 400

abbrev pub stream_in : List ℕ → Stream
stream_in s = record { number = low_first (take 8 s); held = low_first (take 8 (drop 8 s)); checks = drop 16 s }
