-- Demand 3, and W2, W4, W8 and W9 of paper 02, as one statement over what a code fixes. It speaks of every stream that
-- was reached from the code's own fresh stream by any attempts, by one format and so by one pair of lists; h is how
-- many bits were accepted since it was last fresh, and u is these bits.
--
--   DemandThree f    what demand 3 says of the format f:
--     takes            a piece of any count is accepted, where the lists fit, its bytes are right and there is room
--                      for its bits
--     running          the stream has the code's number and holds h bits, and its running checks are those of u,
--                      followed by zeros, all reordered
--     served           so the stream serves the code: in a call of that code neither 12 nor 7 applies to it
--     alike            two cuttings of one payload, told bit by bit, leave the same stream
--     not_told         and no finish tells them apart: the same answer, the same stream, the same output
--     encodes          a finish that is done writes to o the tail that encode, given the whole payload v, wrote to l
--     again            and hands back the fresh stream of the same code
--
-- The payloads are those that the finish and encode take: of the fibre code, 257 to 14,392 bits in whole data blocks;
-- of a coax code, exactly 14,400 or 5,040 bits. The tail is the sent parity and the delimiter; of a coax code, the
-- whole parity alone. A coax code has no lists, so that these always fit.
--
-- Believe this file beside the paper. Demand proves it of each code.
use Rattle.std.specs.Prelude.{◌≡◌, List, ℕ, ◌+◌, ◌≤◌, ◌<◌}
use Rattle.rules.specs.Bits.{bit, Bytes, Packed}
use Rattle.rules.specs.Formats.{Format}
use Rattle.rules.specs.Words.{tail_bits}
use Rattle.rules.specs.Streams.{fresh}
use Rattle.rules.specs.Asked.{ListsFit, Serves}
use Rattle.rules.specs.Promises.{Encoded, PieceTaken, Finished}
use Rattle.rules.specs.Answers.{Done}
use Rattle.rules.specs.declared.Stream.{Stream}
use Rattle.rules.specs.Answers.{Outcome}
use Rattle.theorems.specs.Attempts.{Reached, Running}

pub record DemandThree (f : Format) : Type 0 where
  pub takes : {u : ℕ → ℕ} {h : ℕ} {t : Stream} (b : ℕ) (s : List ℕ) (r : Outcome) → Reached f u h t → ListsFit f
      → Packed b s → h + b ≤ f.most → PieceTaken f b s t r → r.answer ≡ Done
  pub running : {u : ℕ → ℕ} {h : ℕ} {t : Stream} → Reached f u h t → Running f u h t
  pub served : {u : ℕ → ℕ} {h : ℕ} {t : Stream} → Reached f u h t → Serves f t
  pub alike : {u v : ℕ → ℕ} {h : ℕ} {s t : Stream} → Reached f u h s → Reached f v h t
      → ((n : ℕ) → n < h → u n ≡ v n) → s ≡ t
  pub not_told : {u v : ℕ → ℕ} {h : ℕ} {s t : Stream} → Reached f u h s → Reached f v h t
      → ((n : ℕ) → n < h → u n ≡ v n) → (d : ℕ) (o : List ℕ) (r r' : Outcome) (o' o'' : List ℕ) → Bytes o' → Bytes o''
      → Finished f d s o r o' → Finished f d t o r' o'' → (r ≡ r') × (o' ≡ o'')
  pub encodes : {u : ℕ → ℕ} {h : ℕ} {t : Stream} (d : ℕ) (o : List ℕ) (r : Outcome) (o' v l l' : List ℕ)
      → Reached f u h t → ((n : ℕ) → n < h → bit v n ≡ u n) → r.answer ≡ Done → Finished f d t o r o'
      → Encoded f h v d l Done l' → (n : ℕ) → n < tail_bits f → bit o' n ≡ bit l' (h + n)
  pub again : (d : ℕ) (t : Stream) (o : List ℕ) (r : Outcome) (o' : List ℕ) → r.answer ≡ Done → Finished f d t o r o'
      → r.stream ≡ fresh f.number
