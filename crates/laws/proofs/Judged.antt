-- Laws of verdicts: any two that fit are equal, and how many rows may fail. Any code, any format, but for the last two.
--
--   lowest_same       two numbers that are each the lowest are equal
--   lowest_none       a lowest number is somewhere
--   word_same         two verdicts on one full word are equal
--   failing_lowest    where some row fails, one before which all hold, and which fails if it is a row, is the lowest
--   count_range       where a check fails, 1 row does at least, and no more than there are
--   tail_verdict_law  a verdict beside one parity is the verdict beside another with the same sent bits
--   line_same         two verdicts on one line word are equal, where its parity's bits are single
--   word_by           a verdict on a full word of the fibre code asks for the first reordering alone
--   tail_by           and one on the tail of a line word for the second alone
use mathlib.Core.Path.{◌≡◌, refl, sym, ap, ◌∙◌}
use mathlib.Core.List.{List}
use Prim.Native.Nat.{ℕ, ◌≤◌, ◌<◌}
use native.Mathlib.Decide.{dec_lt}
use native.Mathlib.Omega.{arith}
use lib.Dec.{eqb}
use Rattle.rules.specs.Bits.{bit}
use Rattle.rules.specs.Matrix.{Code, checks, check}
use Rattle.rules.specs.Lists.{Lists}
use Rattle.rules.specs.Formats.{Format, fibre_by}
use Rattle.rules.specs.Words.{padded, reordered, Parity, outgoing}
use Rattle.rules.specs.Verdicts.{Lowest, Nowhere, ShortenedSet, Fails, row_fails, how_many, WordVerdict}
use Rattle.rules.specs.Verdicts.{ParityDiffers, DelimiterDiffers, TailVerdict, LineVerdict}
use Rattle.rules.specs.declared.Cause.TheVariants as cause
use Rattle.rules.specs.declared.Cause.TheVariants.{Shortened, Check, Delimiter}
use Rattle.rules.specs.declared.Verdict.{Verdict}
use Rattle.rules.specs.declared.Verdict.TheVariants.{Accepted, Rejected}
use Rattle.rules.proofs.Counting.{how_many_none_law, how_many_some_law, how_many_below_law}

pub lowest_same : (P : ℕ → Type 0) (a b : ℕ) → Lowest P a → Lowest P b → a ≡ b
lowest_same P a b p q = elim (dec_lt a b) [
  | yes h ↦ absurd (q.1 a h p.0)
  | no h ↦ elim (dec_lt b a) [
    | yes l ↦ absurd (p.1 b l q.0)
    | no l ↦ omega arith
  ]
]

lowest_none : {A : Type 0} (P : ℕ → Type 0) (n : ℕ) → Lowest P n → Nowhere P → A
lowest_none P n p q = absurd (q n p.0)

-- what a search for P, and then for Q, finds
data Found : Type 0 where
  first : ℕ → Found
  second : ℕ → Found
  neither : Found

abbrev FirstOf : (ℕ → Type 0) → (ℕ → Type 0) → Found → Type 0
FirstOf P Q (first n) = Lowest P n
FirstOf P Q (second n) = Nowhere P × Lowest Q n
FirstOf P Q neither = Nowhere P × Nowhere Q

found_same : (P Q : ℕ → Type 0) (f g : Found) → FirstOf P Q f → FirstOf P Q g → f ≡ g
found_same P Q (first m) (first n) p q = ap first (lowest_same P m n p q)
found_same P Q (first m) (second n) p q = lowest_none P m p q.0
found_same P Q (first m) neither p q = lowest_none P m p q.0
found_same P Q (second m) (first n) p q = lowest_none P n q p.0
found_same P Q (second m) (second n) p q = ap second (lowest_same Q m n p.1 q.1)
found_same P Q (second m) neither p q = lowest_none Q m p.1 q.1
found_same P Q neither (first n) p q = lowest_none P n q p.0
found_same P Q neither (second n) p q = lowest_none Q n q.1 p.1
found_same P Q neither neither p q = refl

abbrev word_verdict : Code → (ℕ → ℕ) → Found → Verdict
word_verdict c w (first n) = Rejected (Shortened n)
word_verdict c w (second n) = Rejected (Check n (how_many (checks c) (row_fails c w)))
word_verdict c w neither = Accepted

abbrev tail_verdict : Found → Verdict
tail_verdict (first n) = Rejected (cause.Parity n)
tail_verdict (second n) = Rejected (Delimiter n)
tail_verdict neither = Accepted

-- a verdict v stands for what the search found
abbrev Stands : (Found → Verdict) → (ℕ → Type 0) → (ℕ → Type 0) → Verdict → Type 0
Stands name P Q v = (f : Found) × (v ≡ name f) × FirstOf P Q f

stands_same : (name : Found → Verdict) (P Q : ℕ → Type 0) (v v' : Verdict) → Stands name P Q v → Stands name P Q v'
    → v ≡ v'
stands_same name P Q v v' a b = a.1 ∙ ap name (found_same P Q a.0 b.0 a.2 b.2) ∙ sym b.1

module _ (f : Format) (K : ℕ) (w : ℕ → ℕ) where
  abbrev c : Code
  c = f.code

  word_stands : (v : Verdict) → WordVerdict f K w v → Stands (word_verdict c w) (ShortenedSet f K w) (Fails c w) v
  word_stands Accepted p = (neither, refl, p)
  word_stands (Rejected (Shortened n)) p = (first n, refl, p)
  word_stands (Rejected (Check n m)) p = (second n, ap (λ (m : ℕ). Rejected (Check n m)) p.2, (p.0, p.1))
  word_stands (Rejected (cause.Parity n)) p = absurd p
  word_stands (Rejected (Delimiter n)) p = absurd p

  pub word_same : (v v' : Verdict) → WordVerdict f K w v → WordVerdict f K w v' → v ≡ v'
  word_same v v' a b =
      stands_same (word_verdict c w) (ShortenedSet f K w) (Fails c w) v v' (word_stands v a) (word_stands v' b)

  pub count_range : (n m : ℕ) → WordVerdict f K w (Rejected (Check n m)) → (0 < m) × (m ≤ checks c)
  count_range n m p = (
    rw p.2 (how_many_some_law (checks c) (row_fails c w) n p.1.0.0 (ap (λ (x : ℕ). eqb x 1) p.1.0.1)),
    rw p.2 (how_many_below_law (checks c) (row_fails c w)),
  )

pub failing_lowest : (c : Code) (w : ℕ → ℕ) {m r : ℕ} → m ≡ how_many (checks c) (row_fails c w) → (m ≡ 0 → ⊥)
    → ((n : ℕ) → n < r → check c n w ≡ 0) → (r < checks c → check c r w ≡ 1) → Lowest (Fails c w) r
failing_lowest c w {r = r} counted some hold fails = elim (dec_lt r (checks c)) [
  | yes h ↦ ((h, fails h), λ n l f. omega (arith, hold n l, f.1))
  | no h ↦
      let none = how_many_none_law (checks c) (row_fails c w) (λ n l. ap (λ (x : ℕ). eqb x 1) (hold n (omega arith))) in
      absurd (some (counted ∙ none))
]

module _ (f : Format) (K : ℕ) (l : List ℕ) (d : ℕ) where
  tail_stands : (p : List ℕ) (v : Verdict) → TailVerdict f K l d p v
      → Stands tail_verdict (ParityDiffers f K l p) (DelimiterDiffers f K l d) v
  tail_stands p Accepted h = (neither, refl, h)
  tail_stands p (Rejected (Shortened n)) h = absurd h
  tail_stands p (Rejected (Check n m)) h = absurd h
  tail_stands p (Rejected (cause.Parity n)) h = (first n, refl, h)
  tail_stands p (Rejected (Delimiter n)) h = (second n, refl, h)

  tail_same : (p : List ℕ) (v v' : Verdict) → TailVerdict f K l d p v → TailVerdict f K l d p v' → v ≡ v'
  tail_same p v v' a b =
      stands_same tail_verdict (ParityDiffers f K l p) (DelimiterDiffers f K l d) v v' (tail_stands p v a)
      (tail_stands p v' b)

  module _ (p q : List ℕ) (e : (n : ℕ) → n < f.sent → outgoing f p n ≡ outgoing f q n) where
    there : (n : ℕ) → ParityDiffers f K l p n → ParityDiffers f K l q n
    there n x = (x.0, λ g. x.1 (g ∙ sym (e n x.0)))

    back : (n : ℕ) → ParityDiffers f K l q n → ParityDiffers f K l p n
    back n x = (x.0, λ g. x.1 (g ∙ e n x.0))

    pub tail_verdict_law : (v : Verdict) → TailVerdict f K l d p v → TailVerdict f K l d q v
    tail_verdict_law Accepted h = (λ n x. h.0 n (back n x), h.1)
    tail_verdict_law (Rejected (cause.Parity n)) h = (there n h.0, λ m k x. h.1 m k (back m x))
    tail_verdict_law (Rejected (Delimiter n)) h = (λ m x. h.0 m (back m x), h.1)
    tail_verdict_law (Rejected (Shortened n)) h = h
    tail_verdict_law (Rejected (Check n m)) h = h

  pub line_same : ((p q : List ℕ) → Parity f.code (reordered f (padded K (bit l))) p
      → Parity f.code (reordered f (padded K (bit l))) q → (n : ℕ) → n < f.sent → outgoing f p n ≡ outgoing f q n)
      → (v v' : Verdict) → LineVerdict f K l d v → LineVerdict f K l d v' → v ≡ v'
  line_same one v v' x y =
      tail_same y.0 v v' (tail_verdict_law x.0 y.0 (one x.0 y.0 x.1 y.1) v x.2) y.2

-- the fibre code by a first and a second reordering, and by lists, which a verdict does not ask for
module _ (r r' s s' : ℕ → ℕ) (v v' : Lists) where
  pub word_by : (K : ℕ) (w : ℕ → ℕ) (x : Verdict) → WordVerdict (fibre_by r s v) K w x
      → WordVerdict (fibre_by r s' v') K w x
  word_by K w Accepted h = h
  word_by K w (Rejected (Shortened n)) h = h
  word_by K w (Rejected (Check n m)) h = h
  word_by K w (Rejected (cause.Parity n)) h = h
  word_by K w (Rejected (Delimiter n)) h = h

  pub tail_by : (K : ℕ) (l : List ℕ) (d : ℕ) (p : List ℕ) (x : Verdict) → TailVerdict (fibre_by r s v) K l d p x
      → TailVerdict (fibre_by r' s v') K l d p x
  tail_by K l d p Accepted h = h
  tail_by K l d p (Rejected (Shortened n)) h = h
  tail_by K l d p (Rejected (Check n m)) h = h
  tail_by K l d p (Rejected (cause.Parity n)) h = h
  tail_by K l d p (Rejected (Delimiter n)) h = h
