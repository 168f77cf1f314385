-- W9 of paper 02: a stream serves the code that began it, and no other. Any format; and the numbers of the three codes.
--
--   own_piece_served, own_finish_served  no call of the code that began a stream refuses it by 12, nor by 7
--   other_refused                        an order of lists, a stream's state and any others tells 12 of a stream with
--                                        another number, where the lists fit
--   reached_other                        a stream that one code began has another number than any code with another
--                                        number
--   numbers_apart                        no two of the three codes have one number
--
-- That a piece and a finish so refuse a stream with another number by 12 is in Others. That a stream which is refused
-- stays as it was is said by piece_kept and finish_kept of Refusing.
use mathlib.Core.Path.{◌≡◌, refl, sym, ◌∙◌}
use mathlib.Core.Bool.{Bool, not}
use mathlib.Core.Logic.{◌⊎◌, inl, inr, ⊎_elim}
use mathlib.Core.List.{List, ◌++◌}
use Prim.Native.Nat.{ℕ}
use native.Mathlib.Omega.{arith}
use lib.Dec.{T, eqb}
use Rattle.rules.specs.Matrix.{checks, places_of_payload}
use Rattle.rules.specs.Lists.{Lists, none, pair}
use Rattle.rules.specs.Formats.{Format, fibre_format}
use Rattle.rules.specs.Refusals.{Refusal, tells, bad_lists, of_lists, of_stream}
use Rattle.rules.specs.Asked.{ListsFit, Serves}
use Rattle.rules.specs.Promises.{refusal_of, PieceTaken, Finished}
use Rattle.rules.specs.Coax.{coax_format}
use Rattle.rules.specs.declared.Stream.{Stream}
use Rattle.rules.specs.Answers.{Outcome}
use Rattle.rules.specs.declared.CoaxCode.TheVariants.{Long, Short}
use Rattle.rules.proofs.Tests.{both}
use Rattle.laws.proofs.Told.{numbers_pass, told_single, told_passes}
use Rattle.laws.proofs.Lent.{lent_told}
use Rattle.theorems.specs.Sized.{Sized}
use Rattle.theorems.specs.Attempts.{Reached}
use Rattle.theorems.proofs.Asked.{stream_free}
use Rattle.theorems.proofs.Streams.{running, served}

-- any number but those of a stream's state
abbrev another : ℕ → Bool
another n = both (not (eqb n 12)) (not (eqb n 7))

-- lists of n and of m places, before any others, o
lists_either : (n m : ℕ) (o : List Refusal) (r : ℕ) (v : Lists) → tells (bad_lists n m v ++ o) r → (r ≡ 16) ⊎ tells o r
lists_either n m o r none x = inr x
lists_either n m o r (pair a b) x = ⊎_elim (λ l. inl l.1) (λ l. inr l.1) x

module _ (f : Format) where
  -- of a stream that serves, what an order tells is told by the lists or by the others, o
  module _ {t : Stream} (s : Serves f t) (o : List Refusal) (r : ℕ) where
    stream_rest : tells (of_stream f t ++ o) r → tells o r
    stream_rest =
        let free = stream_free f {R = Unit} s tt in
        ⊎_elim (λ a. absurd (free.0 a.0)) (λ a. ⊎_elim (λ b. absurd (free.1.0 b.0)) (λ b. b.1) a.1)

    own_served : T (numbers_pass another o) → tells (of_lists f ++ (of_stream f t ++ o)) r
        → (r ≡ 12 → ⊥) × (r ≡ 7 → ⊥)
    own_served pass x = (λ e. rw e at passed, λ e. rw e at passed)
      where
        passed : T (another r)
        passed =
            ⊎_elim (λ e. rw e tt) (λ y. told_passes another tt o pass r (stream_rest y))
            (lists_either (places_of_payload f.code) (checks f.code) (of_stream f t ++ o) r f.lists x)

  module _ (sized : Sized f) {u : ℕ → ℕ} {h : ℕ} {t : Stream} (x : Reached f u h t) where
    pub own_piece_served : (b : ℕ) (s : List ℕ) (r : Outcome) → PieceTaken f b s t r
        → (refusal_of r.answer ≡ 12 → ⊥) × (refusal_of r.answer ≡ 7 → ⊥)
    own_piece_served b s r p = own_served (served f sized x) _ (refusal_of r.answer) tt p.told

    pub own_finish_served : (d : ℕ) (o : List ℕ) (r : Outcome) (o' : List ℕ) → Finished f d t o r o'
        → (refusal_of r.answer ≡ 12 → ⊥) × (refusal_of r.answer ≡ 7 → ⊥)
    own_finish_served d o r o' p = own_served (served f sized x) _ (refusal_of r.answer) tt p.told

  pub reached_other : (g : Format) {u : ℕ → ℕ} {h : ℕ} {t : Stream} → Reached f u h t → (f.number ≡ g.number → ⊥)
      → t.number ≡ g.number → ⊥
  reached_other g x other e = other (sym (running f x).number ∙ e)

-- a call of the format g, and a stream t of another number
module _ (g : Format) (fit : ListsFit g) (t : Stream) (other : t.number ≡ g.number → ⊥) where
  pub other_refused : (o : List Refusal) (r : ℕ) → tells (of_lists g ++ (of_stream g t ++ o)) r → r ≡ 12
  other_refused o r x =
      told_single (of_lists g ++ (of_stream g t ++ o)) r 12 x
      (lent_told g (of_stream g t ++ o) 12 fit (inl (other, refl)))

pub numbers_apart : (a b : List ℕ) → ((fibre_format a b).number ≡ (coax_format Long).number → ⊥)
    × ((fibre_format a b).number ≡ (coax_format Short).number → ⊥)
    × ((coax_format Long).number ≡ (coax_format Short).number → ⊥)
numbers_apart a b = (λ e. omega arith, λ e. omega arith, λ e. omega arith)
