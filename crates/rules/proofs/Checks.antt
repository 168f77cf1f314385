-- Laws of a check, over any block size and table.
--
--   block_of, local_of       the block and the local column of place z * j + t
--   place_below              it is a place of the first m blocks, where j is below m
--   block_some               where the first m blocks have a place, a block has one
--   block_below              the block of such a place is below m
--   check_columns            a check is the sum mod 2 of its terms, one for each block column
--   check_below              a check is 0 or 1
--   check_same               equal words have equal checks
--   check_zeros              every check of the word of zeros is 0
--   check_sum                the checks of a sum are the sums of the checks
--   one_below                a number of the matrix is 0 or 1
--   only_at, only_elsewhere  the word with a 1 at place p alone: 1 there, 0 elsewhere
--   check_only               its check n is row n, place p of the matrix
use mathlib.Core.Path.{◌≡◌, refl, sym, ap, ◌∙◌}
use mathlib.Core.Bool.{cond}
use Prim.Native.Nat.{ℕ, zero, suc, ◌+◌, ◌*◌, ◌/◌, ◌%◌, ◌<◌}
use native.Mathlib.Nat.{add-mod, mod-lt, mod-eq_of_lt, mul-one, mul-zero, zero-mul, one-mul, suc-mul, mul-suc, mul-add}
use native.Mathlib.Nat.{mul_comm, mul-le-mul_left, div-lt_iff_lt-mul}
use native.Mathlib.Omega.{arith}
use lib.Arith.{digits_div, digits_mod}
use lib.Dec.{eqb, lit<}
use lib.IntN.{ℤ, pos, negsuc}
use borrow.Author.Tests.{eq-eqb, ne_eqb}
use Rattle.rules.specs.Bits.{zeros, only, sum}
use Rattle.rules.specs.Matrix.{Code, places, entry, block, one, total, check}
use Rattle.rules.specs.Terms.{spot, through, term}
use Rattle.rules.proofs.Tests.{as_bit_below_law}
use Rattle.rules.proofs.Sums.{total_same, total_none, total_add, total_mod, total_one, total_blocks}

pub block_of : (z j t : ℕ) → t < z → (z * j + t) / z ≡ j
block_of z j t h = rw (mul_comm z j) (digits_div j h)

pub local_of : (z j t : ℕ) → t < z → (z * j + t) % z ≡ t
local_of z j t h = rw (mul_comm z j) (digits_mod j h)

pub place_below : (z j m t : ℕ) → j < m → t < z → z * j + t < z * m
place_below z j m t hj ht = omega (arith, mul-le-mul_left z hj, mul-suc z j)

pub block_some : (z m p : ℕ) → p < z * m → 0 < z
block_some zero m p h = absurd (omega (arith, h))
block_some (suc z) m p h = omega arith

pub block_below : (z m p : ℕ) → p < z * m → p / z < m
block_below z m p h = (div-lt_iff_lt-mul (block_some z m p h)).1 (rw (mul_comm m z) h)

-- a block's row has a single one, so its sum is a single bit
block_total : (z : ℕ) → 0 < z → (a : ℤ) (r : ℕ) (f : ℕ → ℕ) → total z (λ t. block z a r t * f t) ≡ spot z a f r
block_total z h (pos a) r f =
    total_one z (λ t. cond (eqb t ((r + a) % z)) 1 0 * f t) ((r + a) % z) (mod-lt (r + a) h)
    (λ t l d. rw (ne_eqb t ((r + a) % z) d) (zero-mul (f t)))
    ∙ rw (eq-eqb ((r + a) % z) ((r + a) % z) refl) (one-mul (f ((r + a) % z)))
block_total z h (negsuc n) r f = total_none z (λ t. 0 * f t) (λ t l. zero-mul (f t))

pub check_columns : (c : Code) → 0 < c.size → (n : ℕ) (w : ℕ → ℕ) → check c n w ≡ total c.columns (term c n w) % 2
unfolding check through entry one
check_columns c h n w =
    ap (λ (s : ℕ). s % 2)
    (total_blocks c.size c.columns (λ p. one c n p * w p)
    ∙ total_same c.columns (λ j. total c.size (λ t. one c n (c.size * j + t) * w (c.size * j + t)))
    (term c n w) (λ j l. column j))
  where
    column : (j : ℕ) → total c.size (λ t. one c n (c.size * j + t) * w (c.size * j + t)) ≡ term c n w j
    column j =
        total_same c.size (λ t. one c n (c.size * j + t) * w (c.size * j + t))
        (λ t. block c.size (entry c (n / c.size) j) (n % c.size) t * w (c.size * j + t)) (λ t l. here j t l)
        ∙ block_total c.size h (entry c (n / c.size) j) (n % c.size) (λ t. w (c.size * j + t))
      where
        here : (j t : ℕ) → t < c.size → one c n (c.size * j + t) * w (c.size * j + t)
            ≡ block c.size (entry c (n / c.size) j) (n % c.size) t * w (c.size * j + t)
        here j t l = rw (block_of c.size j t l, local_of c.size j t l)

pub check_below : (c : Code) (n : ℕ) (w : ℕ → ℕ) → check c n w < 2
unfolding check
check_below c n w = mod-lt _ (lit< tt)

pub check_same : (c : Code) (n : ℕ) (x y : ℕ → ℕ) → ((p : ℕ) → p < places c → x p ≡ y p) → check c n x ≡ check c n y
unfolding check
check_same c n x y h =
    ap (λ (s : ℕ). s % 2)
    (total_same (places c) (λ p. one c n p * x p) (λ p. one c n p * y p)
    (λ p l. ap (λ (b : ℕ). one c n p * b) (h p l)))

pub check_zeros : (c : Code) (n : ℕ) → check c n zeros ≡ 0
unfolding check
check_zeros c n = ap (λ (s : ℕ). s % 2) (total_none (places c) (λ p. one c n p * 0) (λ p l. mul-zero (one c n p)))

mul_mod : (o s : ℕ) → o * (s % 2) % 2 ≡ o * s % 2
mul_mod zero s = rw (zero-mul (s % 2), zero-mul s)
mul_mod (suc o) s = rw (suc-mul o (s % 2), suc-mul o s) (omega (arith, mul_mod o s))

pub check_sum : (c : Code) (n : ℕ) (x y : ℕ → ℕ) → check c n (sum x y) ≡ (check c n x + check c n y) % 2
unfolding check
check_sum c n x y =
    sym (total_mod (places c) (λ p. one c n p * ((x p + y p) % 2)))
    ∙ ap (λ (s : ℕ). s % 2)
    (total_same (places c) (λ p. one c n p * ((x p + y p) % 2) % 2) (λ p. (one c n p * x p + one c n p * y p) % 2)
    (λ p l. mul_mod (one c n p) (x p + y p) ∙ ap (λ (s : ℕ). s % 2) (mul-add (one c n p) (x p) (y p))))
    ∙ total_mod (places c) (λ p. one c n p * x p + one c n p * y p)
    ∙ ap (λ (s : ℕ). s % 2) (total_add (places c) (λ p. one c n p * x p) (λ p. one c n p * y p))
    ∙ add-mod (total (places c) (λ p. one c n p * x p)) (total (places c) (λ p. one c n p * y p)) 2

pub one_below : (c : Code) (n p : ℕ) → one c n p < 2
unfolding one
one_below c n p = of (entry c (n / c.size) (p / c.size))
  where
    of : (a : ℤ) → block c.size a (n % c.size) (p % c.size) < 2
    of (pos a) = as_bit_below_law (eqb (p % c.size) ((n % c.size + a) % c.size))
    of (negsuc k) = lit< tt

pub only_at : (p : ℕ) → only p p ≡ 1
only_at p = rw (eq-eqb p p refl)

pub only_elsewhere : (p n : ℕ) → (n ≡ p → ⊥) → only p n ≡ 0
only_elsewhere p n d = rw (ne_eqb n p d)

pub check_only : (c : Code) (n p : ℕ) → p < places c → check c n (only p) ≡ one c n p
unfolding check
check_only c n p h =
    ap (λ (s : ℕ). s % 2)
    (total_one (places c) (λ q. one c n q * only p q) p h (λ q l d. rw (only_elsewhere p q d) (mul-zero (one c n q)))
    ∙ rw (only_at p) (mul-one (one c n p)))
    ∙ mod-eq_of_lt (one_below c n p)
