-- Which checks a place is in, by the line of its block. Any block size, any table.
--
--   one_at       row r of block row i, at place p: by the entry there
--   has_one      row r of the block of turn x has its one x further on
--   where_one    and nowhere else
--   line_turn    a line that is not empty has a turn
--   place_in     so every place is in a check
use mathlib.Core.Path.{◌≡◌, refl, sym, ap, subst, ◌∙◌}
use mathlib.Core.Bool.{not}
use Prim.Native.Nat.{ℕ, ◌+◌, ◌*◌, ◌/◌, ◌%◌, ◌<◌}
use native.Mathlib.Nat.{mod-lt}
use lib.Dec.{T, eqb, eqb→eq}
use lib.IntN.{ℤ, pos, negsuc}
use borrow.Author.Tests.{eq-eqb}
use Rattle.rules.specs.Matrix.{Code, places, checks, entry, block, one}
use Rattle.rules.proofs.Tests.{every_at, some_not, as_bit_told_law}
use Rattle.rules.proofs.Checks.{block_of, local_of, place_below, block_some, block_below}
use Rattle.laws.proofs.Around.{around_back}
use Rattle.facts.specs.Lines.{is_none, empty, none_empty}

pub one_at : (c : Code) (i r p : ℕ) → r < c.size
    → one c (c.size * i + r) p ≡ block c.size (entry c i (p / c.size)) r (p % c.size)
unfolding one
one_at c i r p h = rw (block_of c.size i r h, local_of c.size i r h)

pub has_one : (z x r t : ℕ) → (r + x) % z ≡ t → block z (pos x) r t ≡ 1
has_one z x r t e = rw (eq-eqb t ((r + x) % z) (sym e))

pub where_one : (z x r t : ℕ) → block z (pos x) r t ≡ 1 → t ≡ (r + x) % z
where_one z x r t e =
    eqb→eq t ((r + x) % z) (subst T (sym (ap (λ (n : ℕ). eqb n 1) e) ∙ as_bit_told_law (eqb t ((r + x) % z))) tt)

is_turn : (a : ℤ) → T (not (is_none a)) → (x : ℕ) × (a ≡ pos x)
is_turn (pos x) t = (x, refl)
is_turn (negsuc n) t = absurd t

pub line_turn : (c : Code) → T (none_empty c) → (j : ℕ) → j < c.columns
    → (i : ℕ) × (i < c.rows) × (x : ℕ) × (entry c i j ≡ pos x)
line_turn c u j h =
    let i = some_not c.rows (λ i. is_none (entry c i j)) (every_at c.columns (λ j. not (empty c j)) u j h) in
    let x = is_turn (entry c i.0 j) i.2 in
    (i.0, i.1, x.0, x.1)

pub place_in : (c : Code) → T (none_empty c) → (p : ℕ) → p < places c → (n : ℕ) × (n < checks c) × (one c n p ≡ 1)
place_in c u p h =
    let some : 0 < c.size = block_some c.size c.columns p h in
    let i = line_turn c u (p / c.size) (block_below c.size c.columns p h) in
    let r = around_back c.size some (p % c.size) i.2 (mod-lt p some) in (
      c.size * i.0 + r.0,
      place_below c.size i.0 c.rows r.0 i.1 r.1,
      one_at c i.0 r.0 p r.1
          ∙ ap (λ (a : ℤ). block c.size a r.0 (p % c.size)) i.3
          ∙ has_one c.size i.2 r.0 (p % c.size) r.2,
    )
