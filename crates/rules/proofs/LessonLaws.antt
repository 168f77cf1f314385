-- The ten proved lessons of paper 01's sheet are right where the order of the bits is kept, and so are those of the
-- coax codes. Plain of `theorems` has the ten with the pair of lists that changes nothing.
--
--   lessons_right    the single claim, of the ten
--   coax_right       of each coax code
--
-- The places' lessons are computed. A word with a single 1 has, as its checks, that place's column of the matrix.
use mathlib.Core.Path.{◌≡◌, refl, sym, ap, ◌∙◌}
use Prim.Native.Nat.{ℕ, ◌<◌, ◌≤◌}
use native.Mathlib.Omega.{arith}
use lib.ListN.{take, drop}
use lib.Dec.{T, eqb, eqb→eq, lit<}
use Rattle.rules.specs.Bits.{zeros, only}
use Rattle.rules.specs.Matrix.{Code, places, checks, places_of_payload, entry, one, total, checks_of}
use Rattle.rules.specs.Table.{lines}
use Rattle.rules.specs.Formats.{Format, fibre_kept}
use Rattle.rules.specs.Verdicts.{row_fails, how_many, WordVerdict}
use Rattle.rules.specs.CoaxTables.{long_lines, short_lines}
use Rattle.rules.specs.Coax.{coax_format}
use Rattle.rules.specs.Lessons.{AllRight, lessons, coax_lessons}
use Rattle.rules.specs.declared.CoaxCode.{CoaxCode}
use Rattle.rules.specs.declared.CoaxCode.TheVariants.{Long, Short}
use Rattle.rules.specs.declared.Cause.TheVariants.{Shortened, Check}
use Rattle.rules.specs.declared.Verdict.TheVariants.{Accepted, Rejected}
use Rattle.rules.proofs.Tests.{every, every_at}
use Rattle.rules.proofs.Counting.{how_many_same_law}
use Rattle.rules.proofs.Checks.{only_at, only_elsewhere, check_zeros, check_only}

-- the lessons on places, each by computing the whole column
place_lessons : AllRight fibre_kept (take 5 lessons)
unfolding checks_of one entry lines
place_lessons = (refl, (refl, (refl, (refl, (refl, tt)))))

-- over any format: the rows that fail where place p alone is 1 are those that p is in
module _ (f : Format) where
  abbrev c : Code
  c = f.code

  abbrev ones : ℕ → ℕ
  ones p = how_many (checks c) (λ m. eqb (one c m p) 1)

  count_only : (p : ℕ) → p < places c → how_many (checks c) (row_fails c (only p)) ≡ ones p
  count_only p h =
      how_many_same_law (checks c) (row_fails c (only p)) _ (λ m l. ap (λ (x : ℕ). eqb x 1) (check_only c m p h))

  -- a 1 at place p, which is not shortened, fails the checks of p: first n, where p is in none below n
  first_check : (K p n k : ℕ) → p < places c → ((m : ℕ) → K ≤ f.first m → m < places_of_payload c → m ≡ p → ⊥)
      → n < checks c → one c n p ≡ 1 → T (every n (λ m. eqb (one c m p) 0)) → k ≡ ones p
      → WordVerdict f K (only p) (Rejected (Check n k))
  first_check K p n k h s l e t o = (
    (λ m a. let z : only p m ≡ 0 = only_elsewhere p m (s m a.0 a.1) in omega (arith, a.2)),
    (
      (l, check_only c n p h ∙ e),
      λ m j a. let clear = eqb→eq (one c m p) 0 (every_at n (λ m. eqb (one c m p) 0) t m j) in
          omega (arith, sym (check_only c m p h) ∙ a.1, clear),
    ),
    o ∙ sym (count_only p h),
  )

  -- whatever the payload count K is
  zero_word : (K : ℕ) → WordVerdict f K zeros Accepted
  zero_word K = (λ n a. omega (arith, a.2), λ n a. omega (arith, check_zeros c n, a.1))

-- a 1 at place K, the first shortened one where the order is kept
first_shortened : (K : ℕ) → K < places_of_payload fibre_kept.code
    → WordVerdict fibre_kept K (only K) (Rejected (Shortened K))
first_shortened K h = ((omega arith, h, only_at K), λ m l a. omega (arith, a.0))

bit_zero : (K : ℕ) → 0 < K → WordVerdict fibre_kept K (only 0) (Rejected (Check 176 6))
unfolding total one entry lines
bit_zero K h = first_check fibre_kept K 0 176 6 (lit< tt) (λ m a b e. omega arith) (lit< tt) refl tt refl

first_parity : (K : ℕ) → WordVerdict fibre_kept K (only 14592) (Rejected (Check 551 3))
unfolding total one entry lines
first_parity K = first_check fibre_kept K 14592 551 3 (lit< tt) (λ m a b e. omega arith) (lit< tt) refl tt refl

pub lessons_right : AllRight fibre_kept lessons
lessons_right = (
  place_lessons.0,
  (
    place_lessons.1.0,
    (
      place_lessons.1.1.0,
      (
        place_lessons.1.1.1.0,
        (
          place_lessons.1.1.1.1.0,
          (
            zero_word fibre_kept _,
            (
              bit_zero _ (lit< tt),
              (first_shortened _ (lit< tt), (first_shortened _ (lit< tt), (first_parity _, tt))),
            ),
          ),
        ),
      ),
    ),
  ),
)

-- the coax codes' lessons on places, and on the word with place 0 alone
coax_place_lessons : (k : CoaxCode) → AllRight (coax_format k) (take 3 (coax_lessons k))
unfolding checks_of one entry long_lines short_lines
coax_place_lessons Long = (refl, (refl, (refl, tt)))
coax_place_lessons Short = (refl, (refl, (refl, tt)))

long_zero : WordVerdict (coax_format Long) 14400 (only 0) (Rejected (Check 267 4))
unfolding total one entry long_lines
long_zero =
    first_check (coax_format Long) 14400 0 267 4 (lit< tt) (λ m a b e. omega arith) (lit< tt) refl tt refl

short_zero : WordVerdict (coax_format Short) 5040 (only 0) (Rejected (Check 38 5))
unfolding total one entry short_lines
short_zero =
    first_check (coax_format Short) 5040 0 38 5 (lit< tt) (λ m a b e. omega arith) (lit< tt) refl tt refl

coax_word_lessons : (k : CoaxCode) → AllRight (coax_format k) (drop 3 (coax_lessons k))
coax_word_lessons Long = (zero_word (coax_format Long) 14400, (long_zero, tt))
coax_word_lessons Short = (zero_word (coax_format Short) 5040, (short_zero, tt))

pub coax_right : (k : CoaxCode) → AllRight (coax_format k) (coax_lessons k)
coax_right Long = let p = coax_place_lessons Long in (p.0, (p.1.0, (p.1.1.0, coax_word_lessons Long)))
coax_right Short = let p = coax_place_lessons Short in (p.0, (p.1.0, (p.1.1.0, coax_word_lessons Short)))
