-- How a command names a coax code, and what the program's operations promise, by the code that a command serves: just
-- what the operation of that code does.
--
--   name_of k         how CODE names the coax code k: by the bits of its words
--   NamedBy s n       what the name s names: the code of that name, or nothing where no code has it
--   number_of c       the number by which a stream says that it serves the code c
--   first_in v        the first list of a pair v, which is both lists joined: its first 29,184 bytes
--   second_in v       the second list: the rest, 6,144 bytes where the pair is as long as it has to be
--   pair_bytes        the bytes of both lists: 35,328
--   fibre_in v        the fibre code by a pair. The coax codes have no lists, and do not read v
--   PlainPair v       a pair of which both lists change nothing
--   EncodedBy c v ..  encode; a coax word has no delimiter
--   CompletedBy c v .. complete
--   TakenBy c v ..     a piece of a stream
--   FinishedBy c v ..  a stream's finish
--   CutAt v n          a pair is cut at n: before it is the first list, and from it on the second
--   PairSaid v s       what is answered of a pair: that both lists are reorderings of their places, or refusal 16
--
-- Nothing here is proved.
use Rattle.std.specs.Prelude.{◌≡◌, ◌⊎◌, List, Option, Some, None, ℕ, ◌+◌, ◌*◌, take, drop}
use Rattle.rules.specs.Matrix.{checks, places_of_payload}
use Rattle.rules.specs.Table.{fibre}
use Rattle.rules.specs.Lists.{Listed, Plain}
use Rattle.rules.specs.Formats.{Format, fibre_format, fibre_kept}
use Rattle.rules.specs.Refusals.{BadList}
use Rattle.rules.specs.Promises.{Completed, Encoded, PieceTaken, Finished}
use Rattle.rules.specs.Coax.{coax_number, coax_format, CoaxEncoded, CoaxCompleted, CoaxFinished}
use Rattle.rules.specs.Answers.{Answer}
use Rattle.rules.specs.declared.Refusal.TheVariants as refusal
use Rattle.rules.specs.declared.Stream.{Stream}
use Rattle.rules.specs.Answers.{Outcome}
use Rattle.rules.specs.declared.CoaxCode.{CoaxCode}
use Rattle.rules.specs.declared.CoaxCode.TheVariants.{Long, Short}
use Rattle.lines.specs.Texts.{text}
use Rattle.answers.specs.declared.Said.{Said}
use Rattle.answers.specs.declared.Said.TheVariants.{Refused, Reordering}
use Rattle.codes.specs.declared.Code.{Code}
use Rattle.codes.specs.declared.Code.TheVariants.{Fibre, Coax}

abbrev pub name_of : CoaxCode → List ℕ
name_of Long = text "16200"
name_of Short = text "5940"

abbrev pub NamedBy : List ℕ → Option CoaxCode → Type 0
NamedBy s (Some k) = s ≡ name_of k
NamedBy s None = (k : CoaxCode) → s ≡ name_of k → ⊥

abbrev pub number_of : Code → ℕ
number_of Fibre = fibre_kept.number
number_of (Coax k) = coax_number k

abbrev pub first_in : List ℕ → List ℕ
first_in v = take (2 * places_of_payload fibre) v

abbrev pub second_in : List ℕ → List ℕ
second_in v = drop (2 * places_of_payload fibre) v

abbrev pub pair_bytes : ℕ
pair_bytes = 2 * places_of_payload fibre + 2 * checks fibre

abbrev pub fibre_in : List ℕ → Format
fibre_in v = fibre_format (first_in v) (second_in v)

pub record PlainPair (v : List ℕ) : Type 0 where
  pub first : Plain (places_of_payload fibre) (first_in v)
  pub second : Plain (checks fibre) (second_in v)

abbrev pub EncodedBy : Code → List ℕ → ℕ → List ℕ → ℕ → List ℕ → Answer → List ℕ → Type 0
EncodedBy Fibre v K u d o a o' = Encoded (fibre_in v) K u d o a o'
EncodedBy (Coax k) v K u d o a o' = CoaxEncoded k K u o a o'

abbrev pub CompletedBy : Code → List ℕ → ℕ → List ℕ → Answer → List ℕ → Type 0
CompletedBy Fibre v K w a w' = Completed (fibre_in v) K w a w'
CompletedBy (Coax k) v K w a w' = CoaxCompleted k K w a w'

abbrev pub TakenBy : Code → List ℕ → ℕ → List ℕ → Stream → Outcome → Type 0
TakenBy Fibre v b s t r = PieceTaken (fibre_in v) b s t r
TakenBy (Coax k) v b s t r = PieceTaken (coax_format k) b s t r

abbrev pub FinishedBy : Code → List ℕ → ℕ → Stream → List ℕ → Outcome → List ℕ → Type 0
FinishedBy Fibre v d t o r o' = Finished (fibre_in v) d t o r o'
FinishedBy (Coax k) v d t o r o' = CoaxFinished k t o r o'

pub record CutAt (v : List ℕ) (n : ℕ) : Type 0 where
  pub first : take n v ≡ first_in v
  pub second : drop n v ≡ second_in v

abbrev pub PairSaid : List ℕ → Said → Type 0
PairSaid v s =
    ((s ≡ Reordering) × Listed (places_of_payload fibre) (first_in v) × Listed (checks fibre) (second_in v))
    ⊎ ((s ≡ Refused refusal.Lists)
    × (BadList (places_of_payload fibre) (first_in v) ⊎ BadList (checks fibre) (second_in v)))
