-- Laws of a check by its block columns, over any block size and table.
--
--   spot_same      a block needs its column's bits only
--   spot_below     what a block takes of bits is a bit
--   term_same      so does a term, and
--   term_below     a term of a word of bits is a bit
--   check_column   a check of block j of a word alone is that column's term
--   check_past     a check past the last row is 0
use mathlib.Core.Path.{◌≡◌, refl, ap, ◌∙◌}
use mathlib.Core.List.{[]}
use Prim.Native.Nat.{ℕ, ◌+◌, ◌-◌, ◌*◌, ◌/◌, ◌%◌, ◌≤◌, ◌<◌}
use native.Mathlib.Nat.{mod-lt, mul_comm, zero-mul, le-div_iff_mul-le}
use native.Mathlib.Decide.{dec_lt}
use native.Mathlib.Omega.{arith}
use lib.Dec.{lit<}
use lib.IntN.{ℤ, pos, negsuc}
use lib.ListN.{length, get_or, get_or-eq_default}
use Rattle.rules.specs.Bits.{zeros, placed}
use Rattle.rules.specs.Matrix.{Code, places, checks, entry, one, check}
use Rattle.rules.specs.Terms.{spot, through, term}
use Rattle.rules.proofs.Sums.{total_none, total_one}
use Rattle.rules.proofs.Checks.{block_some, block_below, place_below, check_columns}
use Rattle.laws.proofs.Runs.{placed_below, placed_in, placed_above}

pub spot_same : (z : ℕ) → 0 < z → (a : ℤ) (f g : ℕ → ℕ) (r : ℕ) → ((t : ℕ) → t < z → f t ≡ g t)
    → spot z a f r ≡ spot z a g r
spot_same z h (pos a) f g r same = same ((r + a) % z) (mod-lt (r + a) h)
spot_same z h (negsuc n) f g r same = refl

pub spot_below : (z : ℕ) (a : ℤ) (f : ℕ → ℕ) (r : ℕ) → ((t : ℕ) → f t < 2) → spot z a f r < 2
spot_below z (pos a) f r bits = bits ((r + a) % z)
spot_below z (negsuc n) f r bits = lit< tt

spot_zeros : (z : ℕ) (a : ℤ) (r : ℕ) → spot z a zeros r ≡ 0
spot_zeros z (pos a) r = refl
spot_zeros z (negsuc n) r = refl

module _ (c : Code) (h : 0 < c.size) (n : ℕ) where
  pub term_same : (x y : ℕ → ℕ) (j : ℕ) → ((t : ℕ) → t < c.size → x (c.size * j + t) ≡ y (c.size * j + t))
      → term c n x j ≡ term c n y j
  unfolding through entry
  term_same x y j same =
      spot_same c.size h (entry c (n / c.size) j) (λ t. x (c.size * j + t)) (λ t. y (c.size * j + t))
      (n % c.size) same

  pub term_below : (w : ℕ → ℕ) (j : ℕ) → ((t : ℕ) → w t < 2) → term c n w j < 2
  unfolding through entry
  term_below w j bits =
      spot_below c.size (entry c (n / c.size) j) (λ t. w (c.size * j + t)) (n % c.size)
      (λ t. bits (c.size * j + t))

  term_zeros : (x : ℕ → ℕ) (j : ℕ) → ((t : ℕ) → t < c.size → x (c.size * j + t) ≡ 0) → term c n x j ≡ 0
  unfolding through entry
  term_zeros x j none = term_same x zeros j none ∙ spot_zeros c.size (entry c (n / c.size) j) (n % c.size)

module _ (c : Code) (h : 0 < c.size) (w : ℕ → ℕ) (j : ℕ) where
  abbrev pub block_alone : ℕ → ℕ
  block_alone = placed (c.size * j) c.size (λ t. w (c.size * j + t))

  elsewhere : (k t : ℕ) → t < c.size → (k ≡ j → ⊥) → block_alone (c.size * k + t) ≡ 0
  elsewhere k t l d = elim (dec_lt k j) [
    | yes b ↦ placed_below (c.size * j) c.size (λ t. w (c.size * j + t)) (c.size * k + t)
        (place_below c.size k j t b l)
    | no b ↦ placed_above (c.size * j) c.size (λ t. w (c.size * j + t)) (c.size * k + t)
        (omega (arith, place_below c.size j k (c.size - 1) (omega arith) (omega arith)))
  ]

  here : (t : ℕ) → t < c.size → block_alone (c.size * j + t) ≡ w (c.size * j + t)
  here t l =
      placed_in (c.size * j) c.size (λ t. w (c.size * j + t)) (c.size * j + t) (omega arith) (omega arith)
      ∙ ap (λ (k : ℕ). w (c.size * j + k)) (omega arith)

  pub check_column : (n : ℕ) → j < c.columns → check c n block_alone ≡ term c n w j % 2
  check_column n l =
      check_columns c h n block_alone
      ∙ ap (λ (s : ℕ). s % 2)
      (total_one c.columns (term c n block_alone) j l
      (λ k m d. term_zeros c h n block_alone k (λ t q. elsewhere k t q d))
      ∙ term_same c h n block_alone w j here)

-- where each line of the table has an entry for each block row, and no more
module _ (c : Code) (lines : (j : ℕ) → j < c.columns → length (get_or c.table j []) ≡ c.rows) where
  pub check_past : (w : ℕ → ℕ) (n : ℕ) → checks c ≤ n → check c n w ≡ 0
  unfolding entry one check
  check_past w n h = ap (λ (s : ℕ). s % 2) (total_none (places c) (λ p. one c n p * w p) none)
    where
      none : (p : ℕ) → p < places c → one c n p * w p ≡ 0
      none p l =
          let some = block_some c.size c.columns p l in
          let row : c.rows ≤ n / c.size = (le-div_iff_mul-le some).1 (rw (mul_comm c.rows c.size) h) in
          let long = lines (p / c.size) (block_below c.size c.columns p l) in
          rw (get_or-eq_default (get_or c.table (p / c.size) []) (negsuc 0) {n = n / c.size} (omega arith))
          (zero-mul (w p))
