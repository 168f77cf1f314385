-- Laws of searches by numbers: the lowest 1 of bits f, of which 64 k are passed.
--
--   Clear f n          the first n bits of f are 0
--   FirstOne f b r     r is the lowest place at which f is 1, and below b
--   clear_more         64 more, where their number is 0
--   one_found          the lowest 1 of the next number that is not 0
--   one_left           the lowest 1 of the number at the end, of which b % 64 bits count
--   none_left          none of them is 1
--   first_set          in bits of bytes, from a place on; none_set where there is none
--   first_different    of a sum of two: where they first differ; none_different where they do not
use mathlib.Core.Path.{◌≡◌, sym, ap, ◌∙◌}
use mathlib.Core.List.{List}
use Prim.Native.Nat.{ℕ, ◌+◌, ◌-◌, ◌*◌, ◌/◌, ◌%◌, ◌^◌, ◌≤◌, ◌<◌}
use native.Mathlib.Decide.{dec_lt}
use native.Mathlib.Nat.{zero-div}
use native.Mathlib.Omega.{arith}
use lib.Dec.{lit<}
use Rattle.rules.specs.Bits.{bit, sum}
use Rattle.rules.specs.Words.{digit}
use Rattle.laws.proofs.Bits.{numbers_same}
use Rattle.numbers.specs.Numbers.{Holds, LowestOne}
use Rattle.bits.specs.Searches.{FirstSet, FirstDifference}

abbrev pub Clear : (ℕ → ℕ) → ℕ → Type 0
Clear f n = (k : ℕ) → k < n → f k ≡ 0

pub record FirstOne (f : ℕ → ℕ) (b r : ℕ) : Type 0 where
  pub below : r < b
  pub clear : Clear f r
  pub set : f r ≡ 1

module _ (f : ℕ → ℕ) (k : ℕ) {x : ℕ} (c : Clear f (64 * k)) (h : Holds x (λ i. f (64 * k + i))) where
  -- a place of the number is one of f
  place : (n : ℕ) → 64 * k ≤ n → n < 64 * k + 64 → f n ≡ digit x (n - 64 * k)
  place n l m = let e : 64 * k + (n - 64 * k) ≡ n = omega arith in sym (h.each (n - 64 * k) (omega arith) ∙ ap f e)

  -- all places below the lowest 1 of the number are 0
  below : {r : ℕ} → LowestOne x r → Clear f (64 * k + r)
  below o n l = elim (dec_lt n (64 * k)) [
    | yes m ↦ c n m
    | no m ↦ place n (omega arith) (omega (arith, o.high)) ∙ o.clear (n - 64 * k) (omega arith)
  ]

  pub clear_more : x ≡ 0 → Clear f (64 * (k + 1))
  clear_more e n l = elim (dec_lt n (64 * k)) [
    | yes m ↦ c n m
    | no m ↦ place n (omega arith) (omega arith) ∙ rw (e, zero-div)
  ]

  pub one_found : (b : ℕ) {r : ℕ} → x < 2 ^ 64 → (x ≡ 0 → ⊥) → LowestOne x r → 64 * k + 64 ≤ b
      → FirstOne f b (64 * k + r)
  one_found b {r} small some o fits = elim (dec_lt r 64) [
    | yes l ↦ record { below = omega arith; clear = below o; set = sym (h.each r l) ∙ o.set l }
    | no l ↦ absurd (some (numbers_same 64 x 0 small (lit< tt) (λ t q. o.clear t (omega arith) ∙ rw zero-div)))
  ]

-- b bits: whole numbers, which are passed, and b % 64 bits of the number x that follows
module _ (f : ℕ → ℕ) (b : ℕ) {k x r : ℕ} (passed : k ≡ b / 64) (c : Clear f (64 * k))
    (h : Holds x (λ i. f (64 * (b / 64) + i)))
    (o : LowestOne x r) where
  before : Clear f (64 * (b / 64) + r)
  before = below f (b / 64) (rw passed at c) h o

  pub one_left : r < b % 64 → FirstOne f b (64 * (b / 64) + r)
  one_left l = record {
    below = omega arith;
    clear = before;
    set = sym (h.each r (omega arith)) ∙ o.set (omega arith);
  }

  pub none_left : b % 64 ≤ r → Clear f b
  none_left l n q = before n (omega arith)

-- in bits of bytes, from a place on
module _ (s : List ℕ) (from to : ℕ) (l : from ≤ to) where
  back : (n : ℕ) → Clear (λ n. bit s (from + n)) n → (k : ℕ) → from ≤ k → k < from + n → bit s k ≡ 0
  back n c k q m = let e : from + (k - from) ≡ k = omega arith in rw e at (c (k - from) (omega arith))

  pub first_set : (r n : ℕ) → n ≡ from + r → FirstOne (λ n. bit s (from + n)) (to - from) r → FirstSet s from to n
  first_set r n e f = record {
    low = omega arith;
    high = omega (arith, f.below);
    clear = λ k q m. back r f.clear k q (omega arith);
    set = λ h. rw e f.set;
  }

  pub none_set : Clear (λ n. bit s (from + n)) (to - from) → FirstSet s from to to
  none_set c = record {
    low = l;
    high = omega arith;
    clear = λ k q m. back (to - from) c k q (omega arith);
    set = λ h. absurd (omega arith);
  }

-- in the sum of two
module _ (x y : ℕ → ℕ) (hx : (n : ℕ) → x n < 2) (hy : (n : ℕ) → y n < 2) (b : ℕ) where
  pub first_different : (r : ℕ) → FirstOne (sum x y) b r → FirstDifference x y b r
  first_different r f = record {
    high = omega (arith, f.below);
    same = λ n l. omega (arith, f.clear n l, hx n, hy n);
    differs = λ l e. omega (arith, f.set, hx r, hy r);
  }

  pub none_different : Clear (sum x y) b → FirstDifference x y b b
  none_different c = record {
    high = omega arith;
    same = λ n l. omega (arith, c n l, hx n, hy n);
    differs = λ l e. absurd (omega arith);
  }
