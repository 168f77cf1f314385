-- Facts 1 and 2: words that satisfy all checks, added up or turned, satisfy them too. Any block size, any table.
--
--   sum_keeps        the sum of two such words
--   check_turned     check n of a turned word is a check of the word itself: the one as much further on
--   turn_keeps       such a word with all its blocks turned by one amount
use mathlib.Core.Path.{◌≡◌, refl, sym, ap, ◌∙◌}
use Prim.Native.Nat.{ℕ, ◌+◌, ◌*◌, ◌/◌, ◌%◌, ◌<◌}
use native.Mathlib.Nat.{mod-lt}
use native.Mathlib.Omega.{arith}
use lib.IntN.{ℤ, pos, negsuc}
use Rattle.rules.specs.Matrix.{Code, entry, check}
use Rattle.rules.specs.Terms.{spot, through, term}
use Rattle.rules.proofs.Sums.{total_same}
use Rattle.rules.proofs.Checks.{block_of, local_of, place_below, block_some, block_below, check_columns, check_sum}
use Rattle.facts.specs.Claims.{onward, all_turned, SumKeeps, TurnKeeps}
use Rattle.laws.proofs.Around.{around_swap}

pub sum_keeps : (c : Code) → SumKeeps c
sum_keeps c x y hx hy n l = omega (arith, check_sum c n x y, hx n l, hy n l)

module _ (z : ℕ) (some : 0 < z) (a : ℕ) where
  onward_in : (j t : ℕ) → t < z → onward z a (z * j + t) ≡ z * j + (t + a) % z
  onward_in j t h = rw (block_of z j t h, local_of z j t h)

  onward_below : (m n : ℕ) → n < z * m → onward z a n < z * m
  onward_below m n h = place_below z (n / z) m ((n % z + a) % z) (block_below z m n h) (mod-lt (n % z + a) some)

  spot_turned : (e : ℤ) (j r : ℕ) (w : ℕ → ℕ)
      → spot z e (λ t. w (onward z a (z * j + t))) r ≡ spot z e (λ t. w (z * j + t)) ((r + a) % z)
  spot_turned (pos x) j r w =
      ap w (onward_in j ((r + x) % z) (mod-lt (r + x) some) ∙ ap (λ (t : ℕ). z * j + t) (around_swap z r x a))
  spot_turned (negsuc k) j r w = refl

module _ (c : Code) (some : 0 < c.size) (a n : ℕ) (w : ℕ → ℕ) where
  abbrev m : ℕ
  m = onward c.size a n

  abbrev r : ℕ
  r = (n % c.size + a) % c.size

  term_turned : (j : ℕ) → term c n (all_turned c a w) j ≡ term c m w j
  unfolding through entry
  term_turned j =
      let h : r < c.size = mod-lt (n % c.size + a) some in
      rw (block_of c.size (n / c.size) r h, local_of c.size (n / c.size) r h)
      (spot_turned c.size some a (entry c (n / c.size) j) j (n % c.size) w)

  pub check_turned : check c n (all_turned c a w) ≡ check c m w
  check_turned =
      check_columns c some n (all_turned c a w)
      ∙ ap (λ (s : ℕ). s % 2) (total_same c.columns (term c n (all_turned c a w)) (term c m w) (λ j l. term_turned j))
      ∙ sym (check_columns c some m w)

pub turn_keeps : (c : Code) → TurnKeeps c
turn_keeps c a w hold n l =
    let some : 0 < c.size = block_some c.size c.rows n l in
    check_turned c some a n w ∙ hold (onward c.size a n) (onward_below c.size some a c.rows n l)
