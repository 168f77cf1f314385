-- Demand 1: each operation refuses by number, exactly where a refusal of its order applies, and a refusal changes
-- nothing. Any format.
-- Asked says the same of each operation in plain words.
--
--   free_told       where no refusal of an order applies, it tells none
--   told_free       an order tells none exactly where none of its refusals applies
--   done_exactly    so an operation is done exactly there
--   judged_exactly  and a check gives a verdict exactly there
--   none_done       an operation that is told no refusal is done
--   done_part       what a done operation leaves
--   kept_part       what an operation leaves that is not done
--   X-kept          where operation X is not done, every byte and every stream is as it was
use mathlib.Core.Path.{◌≡◌, refl, ap}
use mathlib.Core.Logic.{inr}
use mathlib.Core.List.{List, [], ◌∷◌}
use Prim.Native.Nat.{ℕ}
use native.Mathlib.Omega.{arith}
use lib.Dec.{T, ltb}
use Rattle.rules.specs.Formats.{Format}
use Rattle.rules.specs.Refusals.{Refusal, tells}
use Rattle.rules.specs.Promises.{refusal_of, refusal_in, Promise, Checked, Completed, Encoded, PieceTaken, Finished}
use Rattle.rules.specs.Answers.{Answer}
use Rattle.rules.specs.Answers.{Done, Refused}
use Rattle.rules.specs.declared.Verdict.{Verdict}
use Rattle.rules.specs.Judgements.{Judgement}
use Rattle.rules.specs.Judgements as judgement
use Rattle.rules.specs.declared.Stream.{Stream}
use Rattle.rules.specs.Answers.{Outcome}
use Rattle.rules.proofs.Tests.{both_right}
use Rattle.laws.proofs.Told.{numbered, told_left, told_single}
use Rattle.theorems.specs.Exactly.{Exactly, Free}

pub free_told : (o : List Refusal) → Free o → tells o 0
free_told [] f = refl
free_told (t ∷ o) f = inr (f.0, free_told o f.1)

told_free_at : (o : List Refusal) → T (numbered o) → {r : ℕ} → r ≡ 0 → tells o r → Free o
told_free_at [] h e x = tt
told_free_at (t ∷ o) h e x =
    let l = told_left t o o h e x in
    (l.0, told_free_at o (both_right (ltb 0 t.number) (numbered o) h) e l.1)

pub told_free : (o : List Refusal) → T (numbered o) → (r : ℕ) → tells o r → Exactly (r ≡ 0) (Free o)
told_free o h r x = (λ e. told_free_at o h e x, λ f. told_single o r 0 x (free_told o f))

pub none_done : {o : List Refusal} {A B : Type 0} (a : Answer) → refusal_of a ≡ 0 → Promise o a A B → a ≡ Done
none_done Done e x = refl
none_done (Refused n) e x = absurd (omega (arith, x.effect.0))

pub done_part : {o : List Refusal} {A B : Type 0} (a : Answer) → a ≡ Done → Promise o a A B → A
done_part Done e x = x.effect
done_part (Refused n) e x = absurd (omega (arith, ap refusal_of e, x.effect.0))

pub kept_part : {o : List Refusal} {A B : Type 0} (a : Answer) → (a ≡ Done → ⊥) → Promise o a A B → B
kept_part Done d x = absurd (d refl)
kept_part (Refused n) d x = x.effect.1

module _ (o : List Refusal) (h : T (numbered o)) where
  pub done_exactly : {A B : Type 0} (a : Answer) → Promise o a A B → Exactly (a ≡ Done) (Free o)
  done_exactly a x =
      let t = told_free o h (refusal_of a) x.told in
      (λ e. t.0 (ap refusal_of e), λ f. none_done a (t.1 f) x)

  pub judged_exactly : {P : Verdict → Type 0} (j : Judgement) → Checked o P j
      → Exactly ((v : Verdict) × (j ≡ judgement.Judged v)) (Free o)
  judged_exactly (judgement.Judged v) x = (λ e. (told_free o h 0 x.told).0 refl, λ f. (v, refl))
  judged_exactly (judgement.Refused n) x =
      let t = told_free o h n x.told in
      (λ e. t.0 (ap refusal_in e.1), λ f. absurd (omega (arith, x.verdict, t.1 f)))

module _ (f : Format) where
  pub complete_kept : (K : ℕ) (w : List ℕ) (a : Answer) (w' : List ℕ) → (a ≡ Done → ⊥) → Completed f K w a w' → w' ≡ w
  complete_kept K w a w' d x = kept_part a d x

  pub encode_kept : (K : ℕ) (u : List ℕ) (d : ℕ) (o : List ℕ) (a : Answer) (o' : List ℕ) → (a ≡ Done → ⊥)
      → Encoded f K u d o a o' → o' ≡ o
  encode_kept K u d o a o' n x = kept_part a n x

  pub piece_kept : (b : ℕ) (s : List ℕ) (t : Stream) (r : Outcome) → (r.answer ≡ Done → ⊥) → PieceTaken f b s t r
      → r.stream ≡ t
  piece_kept b s t r d x = kept_part r.answer d x

  pub finish_kept : (d : ℕ) (t : Stream) (o : List ℕ) (r : Outcome) (o' : List ℕ) → (r.answer ≡ Done → ⊥)
      → Finished f d t o r o' → (r.stream ≡ t) × (o' ≡ o)
  finish_kept d t o r o' n x = kept_part r.answer n x
