-- What a stream's call leaves in the state that it was lent, of any operation.
--
--   state_refused   a state of other than 400 bytes is refused by 17, and all is left
--   state_piece     of a piece of the stream that the state is: its promise, with 17 in front
--   state_finish    the same of a finish, by any order
use mathlib.Core.Path.{◌≡◌, refl, sym, subst, ◌∙◌}
use mathlib.Core.Logic.{inl, inr}
use mathlib.Core.List.{List, ◌∷◌}
use Prim.Native.Nat.{ℕ}
use lib.Dec.{lit<}
use lib.ListN.{length}
use Rattle.rules.specs.Formats.{Format}
use Rattle.rules.specs.Streams.{fresh, Fed}
use Rattle.rules.specs.Refusals.{Refusal}
use Rattle.rules.specs.Promises.{refusal_of, Promise, TailWritten, PieceTaken}
use Rattle.rules.specs.Answers.{Answer}
use Rattle.rules.specs.Answers.{Done, Refused}
use Rattle.rules.specs.declared.Stream.{Stream}
use Rattle.rules.specs.Answers.{Outcome}
use Rattle.states.specs.States.{state_bytes, stream_in}
use Rattle.host.specs.Numbers.{Answered}
use Rattle.host.specs.Streams.{wrong_state, StatePiece, StateFinish}
use Rattle.host.specs.HandedBack.{Back}

pub state_refused : {q : List Refusal} {A B : Type 0} (s : List ℕ) → (length s ≡ state_bytes → ⊥) → B
    → Answered (λ a. Promise (wrong_state s ∷ q) a A B) 17
state_refused s d b = record {
  answer = Refused 17;
  promised = record { told = inl (d, refl); effect = (lit< tt, b) };
  result = refl;
}

-- s and s' are the state before and after, of 400 bytes, and r the number of the outcome o
module _ {s s' : List ℕ} (long : length s ≡ state_bytes) {r : ℕ} (o : Outcome)
    (back : (r ≡ refusal_of o.answer) × Back o.answer s s' o.stream) where
  handed : {q : List Refusal} {A B A' B' : Type 0} (a : Answer) (v : Stream) → Back a s s' v
      → (length s' ≡ state_bytes → stream_in s' ≡ v → A → A') → (s' ≡ s → B → B') → Promise q a A B
      → Promise (wrong_state s ∷ q) a A' B'
  handed Done v b done kept p =
      record { told = inr (λ d. d long, p.told); effect = done b.0 b.1 p.effect }
  handed (Refused n) v b done kept p =
      record { told = inr (λ d. d long, p.told); effect = (p.effect.0, kept b p.effect.1) }

  pub state_piece : (f : Format) (n : ℕ) (p : List ℕ) → PieceTaken f n p (stream_in s) o
      → Answered (λ a. StatePiece f n p s a s') r
  state_piece f n p taken = record {
    answer = o.answer;
    promised =
        handed o.answer o.stream back.1 (λ l e fed. (l, subst (Fed f n p (stream_in s)) (sym e) fed))
        (λ e x. e) taken;
    result = back.0;
  }

  pub state_finish : (q : List Refusal) (f : Format) (d : ℕ) (u u' : List ℕ)
      → Promise q o.answer ((o.stream ≡ fresh f.number) × TailWritten f (stream_in s).checks d u u')
      ((o.stream ≡ stream_in s) × (u' ≡ u))
      → Answered (λ a. StateFinish q f d s u a s' u') r
  state_finish q f d u u' finished = record {
    answer = o.answer;
    promised =
        handed o.answer o.stream back.1 (λ l e x. (l, e ∙ x.0, x.1)) (λ e x. (e, x.1)) finished;
    result = back.0;
  }
