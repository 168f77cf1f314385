-- Laws of refusal orders, and of what is promised by one.
--
--   Single P            at most one number fits P
--   told_single         an order tells one number
--   Tested o xs         each of xs is what the test of a refusal of o tells, in order, if no refusal before it
--                       applies: none, or test a rest, with what the first one tells
--   told_tested         then the first of xs that is not 0 is what the order tells
--   First o r           r is the first that is not 0 of such answers to the tests of o
--   told_first          the other way: what an order tells is that first one
--   first_told          both ways are one: what is that first one is what the order tells
--   answer_first        so what an operation answers by a promise, a refusal's number or 0 where it is done, is the
--                       first of its order's tests that is not 0
--   checked_first       the same of a check
--   told_left           where none is told, the first refusal does not apply, and none of the rest is told
--   refusal_of_law o k  when the refusal numbered k of the order o applies
--   numbers_pass f o    every number of the order o passes the test f
--   told_passes         so does the number that it tells, if 0 does
--   not_refused         where an order tells none, no refusal of it applies, wherever it stands
--   not_different       two numbers that do not differ are equal
--   done_promise        where an order tells none, and what is to be done is done, the promise is kept with Done
--   judged_checked      the same of a check that gave a verdict
--   promise_same        two outcomes by one promise, answer and later contents, are equal, if each case leaves one
--                       content
--   checked_same        two answers of a check are equal, if their verdicts are
use mathlib.Core.Path.{◌≡◌, refl, sym, ap, subst, ◌∙◌}
use mathlib.Core.Bool.{Bool, true, false, cond}
use mathlib.Core.Logic.{inl, inr, ⊎_elim}
use mathlib.Core.List.{List, [], ◌∷◌}
use Prim.Native.Nat.{ℕ, ◌<◌}
use native.Mathlib.Decide.{ℕ_discrete}
use native.Mathlib.Omega.{arith}
use lib.Dec.{T, eqb, ltb, lit<}
use borrow.Author.Tests.{eq-eqb, ne_eqb}
use Rattle.rules.specs.Refusals.{Refusal, tells}
use Rattle.rules.specs.Promises.{refusal_of, refusal_in, by, Promise, Checked}
use Rattle.rules.specs.Terms.{first_of, FirstTold}
use Rattle.rules.specs.Answers.{Answer}
use Rattle.rules.specs.Answers.{Done, Refused}
use Rattle.rules.specs.declared.Verdict.{Verdict}
use Rattle.rules.specs.Judgements.{Judgement}
use Rattle.rules.proofs.Tests.{both, both_left, both_right}
use Rattle.rules.specs.Judgements as judgement

abbrev pub Single : (ℕ → Type 0) → Type 0
Single P = (r s : ℕ) → P r → P s → r ≡ s

pub told_single : (o : List Refusal) → Single (tells o)
told_single [] r s a b = a ∙ sym b
told_single (t ∷ o) r s x y =
    ⊎_elim (λ a. ⊎_elim (λ b. a.1 ∙ sym b.1) (λ b. absurd (b.0 a.0)) y)
    (λ a. ⊎_elim (λ b. absurd (a.0 b.0)) (λ b. told_single o r s a.1 b.1) y) x

abbrev pub refusal_of_law : List Refusal → ℕ → Type 0
refusal_of_law [] k = ⊥
refusal_of_law (t ∷ o) k = cond (eqb t.number k) t.applies (refusal_of_law o k)

abbrev pub numbers_pass : (ℕ → Bool) → List Refusal → Bool
numbers_pass f [] = true
numbers_pass f (t ∷ o) = both (f t.number) (numbers_pass f o)

pub told_passes : (f : ℕ → Bool) → T (f 0) → (o : List Refusal) → T (numbers_pass f o) → (r : ℕ) → tells o r → T (f r)
told_passes f z [] h r x = rw x z
told_passes f z (t ∷ o) h r x =
    ⊎_elim (λ a. rw a.1 (both_left (f t.number) (numbers_pass f o) h))
    (λ b. told_passes f z o (both_right (f t.number) (numbers_pass f o) h) r b.1) x

-- every number of an order is above 0
abbrev pub numbered : List Refusal → Bool
numbered o = numbers_pass (ltb 0) o

first_numbered : (t : Refusal) (o : List Refusal) → T (numbered (t ∷ o)) → 0 < t.number
first_numbered t o h = lit< (both_left (ltb 0 t.number) (numbered o) h)

rest_numbered : (t : Refusal) (o : List Refusal) → T (numbered (t ∷ o)) → T (numbered o)
rest_numbered t o h = both_right (ltb 0 t.number) (numbered o) h

pub told_left : (t : Refusal) (o p : List Refusal) → T (numbered (t ∷ o)) → {r : ℕ} → r ≡ 0 → tells (t ∷ p) r
    → (t.applies → ⊥) × tells p r
told_left t o p h e x = ⊎_elim (λ a. absurd (omega (arith, a.1, first_numbered t o h))) (λ b. b) x

pub data Tested : List Refusal → List ℕ → Type 1 where
  none : Tested [] []
  test : {t : Refusal} {o : List Refusal} {x : ℕ} {xs : List ℕ} → tells (t ∷ []) x → ((t.applies → ⊥) → Tested o xs)
      → Tested (t ∷ o) (x ∷ xs)

tested_first : {o : List Refusal} {xs : List ℕ} → T (numbered o) → Tested o xs → tells o (first_of xs)
unfolding first_of
tested_first h none = refl
tested_first h (test {t} {o} {x} {xs} p q) =
    ⊎_elim
    (λ a. inl (a.0, rw (ne_eqb x 0 (λ e. omega (arith, a.1, first_numbered t o h))) a.1))
    (λ a. inr (a.0, rw (eq-eqb x 0 a.1) (tested_first (rest_numbered t o h) (q a.0)))) p

pub told_tested : (o : List Refusal) {xs : List ℕ} {r : ℕ} → T (numbered o) → FirstTold xs r → Tested o xs → tells o r
told_tested o h e p = rw e.same (tested_first h p)

pub record First (o : List Refusal) (r : ℕ) : Type 1 where
  pub answers : List ℕ
  pub tested : Tested o answers
  pub first : FirstTold answers r

-- one answer that is not 0 is the first, and one that is 0 is no answer
one_first : (r : ℕ) → r ≡ first_of (r ∷ [])
unfolding first_of
one_first r = elim (ℕ_discrete r 0) [
  | yes e ↦ rw (eq-eqb r 0 e) e
  | no d ↦ rw (ne_eqb r 0 d) refl
]

-- an answer of 0 is passed over
none_first : (xs : List ℕ) → first_of xs ≡ first_of (0 ∷ xs)
unfolding first_of
none_first xs = refl

pub told_first : (o : List Refusal) {r : ℕ} → tells o r → First o r
unfolding first_of
told_first [] e = record { answers = []; tested = none; first = record { same = e } }
told_first (t ∷ o) {r} x =
    ⊎_elim
    (λ a. record {
      answers = r ∷ [];
      tested = test (inl a) (λ passed. absurd (passed a.0));
      first = record { same = one_first r };
    })
    (λ b. let rest = told_first o {r = r} b.1 in record {
      answers = 0 ∷ rest.answers;
      tested = test (inr (b.0, refl)) (λ passed. rest.tested);
      first = record { same = rest.first.same ∙ none_first rest.answers };
    }) x

pub first_told : (o : List Refusal) {r : ℕ} → T (numbered o) → First o r → tells o r
first_told o h x = told_tested o h x.first x.tested

-- a statement chosen by a test is false where both are
neither : (b : Bool) (A B : Type 0) → (A → ⊥) → (B → ⊥) → cond b A B → ⊥
neither true A B f g = f
neither false A B f g = g

pub not_refused : (o : List Refusal) → T (numbered o) → {r : ℕ} → r ≡ 0 → tells o r → (k : ℕ) → refusal_of_law o k → ⊥
not_refused [] h e x k = λ y. y
not_refused (t ∷ o) h e x k =
    let l = told_left t o o h e x in
    neither (eqb t.number k) t.applies (refusal_of_law o k) l.0
    (not_refused o (rest_numbered t o h) e l.1 k)

pub not_different : (a b : ℕ) → ((a ≡ b → ⊥) → ⊥) → a ≡ b
not_different a b h = elim (ℕ_discrete a b) [
  | yes e ↦ e
  | no d ↦ absurd (h d)
]

pub done_promise : {o : List Refusal} {r : ℕ} {A B : Type 0} → tells o r → r ≡ 0 → A → Promise o Done A B
done_promise {o} t e x = record { told = subst (tells o) e t; effect = x }

pub judged_checked : {o : List Refusal} {r : ℕ} {P : Verdict → Type 0} {v : Verdict} → tells o r → r ≡ 0 → P v
    → Checked o P (judgement.Judged v)
judged_checked {o} t e x = record { told = subst (tells o) e t; verdict = x }

-- an outcome v is the later contents of what was lent; G says that it is of bytes, P what a done operation leaves, Q
-- what a refused one does
module _ {O : Type 0} (G P Q : O → Type 0) (done : (v v' : O) → G v → G v' → P v → P v' → v ≡ v')
    (kept : (v v' : O) → Q v → Q v' → v ≡ v') where
  outcome_same : (a b : Answer) (v v' : O) → refusal_of a ≡ refusal_of b → G v → G v' → by a (P v) (Q v)
      → by b (P v') (Q v') → (a ≡ b) × (v ≡ v')
  outcome_same Done Done v v' e g g' x y = (refl, done v v' g g' x y)
  outcome_same Done (Refused n) v v' e g g' x y = absurd (omega (arith, y.0))
  outcome_same (Refused n) Done v v' e g g' x y = absurd (omega (arith, x.0))
  outcome_same (Refused n) (Refused m) v v' e g g' x y = (ap Refused e, kept v v' x.1 y.1)

  pub promise_same : (o : List Refusal) (a b : Answer) (v v' : O) → G v → G v' → Promise o a (P v) (Q v)
      → Promise o b (P v') (Q v') → (a ≡ b) × (v ≡ v')
  promise_same o a b v v' g g' x y =
      outcome_same a b v v' (told_single o (refusal_of a) (refusal_of b) x.told y.told) g g' x.effect
      y.effect

pub answer_first : (o : List Refusal) {a : Answer} {A B : Type 0} → Promise o a A B → First o (refusal_of a)
answer_first o x = told_first o x.told

pub checked_first : (o : List Refusal) {P : Verdict → Type 0} {j : Judgement} → Checked o P j → First o (refusal_in j)
checked_first o x = told_first o x.told

module _ (o : List Refusal) (P : Verdict → Type 0) (one : (v v' : Verdict) → P v → P v' → v ≡ v') where
  pub checked_same : (j j' : Judgement) → Checked o P j → Checked o P j' → j ≡ j'
  checked_same (judgement.Judged v) (judgement.Judged v') x y = ap judgement.Judged (one v v' x.verdict y.verdict)
  checked_same (judgement.Judged v) (judgement.Refused n) x y =
      absurd (omega (arith, told_single o 0 n x.told y.told, y.verdict))
  checked_same (judgement.Refused n) (judgement.Judged v) x y =
      absurd (omega (arith, told_single o n 0 x.told y.told, x.verdict))
  checked_same (judgement.Refused n) (judgement.Refused m) x y =
      ap judgement.Refused (told_single o n m x.told y.told)
