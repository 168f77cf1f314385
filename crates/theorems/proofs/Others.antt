-- W9 of paper 02: a call of a code refuses a stream of another number by 12, whatever the stream. Any format.
--
--   other_piece_refused   so does a piece
--   other_finish_refused  so does a finish
--
-- They stand apart from the law of the order, other_refused of Serving: so an edit of that law is refused by itself.
use mathlib.Core.Path.{◌≡◌}
use mathlib.Core.List.{List}
use Prim.Native.Nat.{ℕ}
use Rattle.rules.specs.Formats.{Format}
use Rattle.rules.specs.Asked.{ListsFit}
use Rattle.rules.specs.Promises.{refusal_of, PieceTaken, Finished}
use Rattle.rules.specs.declared.Stream.{Stream}
use Rattle.rules.specs.Answers.{Outcome}
use Rattle.theorems.proofs.Serving.{other_refused}

-- a call of the format g, and a stream t of another number
module _ (g : Format) (fit : ListsFit g) (t : Stream) (other : t.number ≡ g.number → ⊥) where
  pub other_piece_refused : (b : ℕ) (s : List ℕ) (r : Outcome) → PieceTaken g b s t r → refusal_of r.answer ≡ 12
  other_piece_refused b s r p = other_refused g fit t other _ (refusal_of r.answer) p.told

  pub other_finish_refused : (d : ℕ) (o : List ℕ) (r : Outcome) (o' : List ℕ) → Finished g d t o r o'
      → refusal_of r.answer ≡ 12
  other_finish_refused d o r o' p = other_refused g fit t other _ (refusal_of r.answer) p.told
