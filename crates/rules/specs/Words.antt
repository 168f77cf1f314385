-- Paper 01, 'From payload to line word', and W2 of paper 02: the full word of a payload, in inner order, the parity
-- that makes all its checks hold, and the line word.
--
--   padded K u           step 1: K bits of u, then zeros
--   reordered f x        step 2: inner place t is taken from place first t of x
--   full_word c x p      the inner payload places x, then the inner parity p, as bytes
--   Parity c x p         step 3: p, the bytes of its bits alone, makes every check of the full word 0
--   OwnChecks c s p      p, such bytes too, is the parity whose own checks are the bits of s
--   outgoing f p         step 2 of the parity: outgoing parity bit t is inner parity bit second t
--   tail f p d           the sent ones of these, then the delimiter d, lowest bit first
--   line_word f K u p d  step 4: K bits of u, then the tail
--   tail_bits f          the tail's length
--   line_bits f K        the line word's length
--   digit d n            bit n of the number d
--
-- Believe this file beside the paper; nothing here is proved.
use Rattle.std.specs.Prelude.{◌≡◌, List, ℕ, ◌+◌, ◌/◌, ◌%◌, ◌^◌, ◌<◌}
use Rattle.rules.specs.Bits.{bit, zeros, run, Packed}
use Rattle.rules.specs.Matrix.{Code, checks, places_of_payload, check, AllHold}
use Rattle.rules.specs.Formats.{Format}

abbrev pub padded : ℕ → (ℕ → ℕ) → ℕ → ℕ
padded K u = run K u zeros

abbrev pub reordered : Format → (ℕ → ℕ) → ℕ → ℕ
reordered f x t = x (f.first t)

abbrev pub full_word : Code → (ℕ → ℕ) → List ℕ → ℕ → ℕ
full_word c x p = run (places_of_payload c) x (bit p)

pub record Parity (c : Code) (x : ℕ → ℕ) (p : List ℕ) : Type 0 where
  pub packed : Packed (checks c) p
  pub all_hold : AllHold c (full_word c x p)

pub record OwnChecks (c : Code) (s p : List ℕ) : Type 0 where
  pub packed : Packed (checks c) p
  pub same : (n : ℕ) → n < checks c → check c n (full_word c zeros p) ≡ bit s n

abbrev pub digit : ℕ → ℕ → ℕ
digit d n = d / 2 ^ n % 2

abbrev pub outgoing : Format → List ℕ → ℕ → ℕ
outgoing f p t = bit p (f.second t)

abbrev pub tail : Format → List ℕ → ℕ → ℕ → ℕ
tail f p d = run f.sent (outgoing f p) (run f.delimiter (digit d) zeros)

abbrev pub line_word : Format → ℕ → (ℕ → ℕ) → List ℕ → ℕ → ℕ → ℕ
line_word f K u p d = run K u (tail f p d)

abbrev pub tail_bits : Format → ℕ
tail_bits f = f.sent + f.delimiter

abbrev pub line_bits : Format → ℕ → ℕ
line_bits f K = K + tail_bits f
