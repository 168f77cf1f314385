-- Fact 4: whether two places lie in exactly the same checks is settled by the lines of the table. Any block size, any
-- table.
--
--   lines_alike_law  the lines of two places that lie in the same checks are alike
--   one_line         of one line, they are one place
--   places_apart     where no line is empty and no two are alike, no two places lie in the same checks
use mathlib.Core.Path.{◌≡◌, sym, ap, ap₂, ◌∙◌}
use mathlib.Core.Bool.{Bool, not}
use Prim.Native.Nat.{ℕ, ◌+◌, ◌*◌, ◌/◌, ◌%◌, ◌<◌}
use native.Mathlib.Nat.{mod-lt, mod-eq_of_lt, div-add-mod}
use native.Mathlib.Decide.{dec_lt}
use native.Mathlib.Omega.{arith}
use lib.Dec.{T, T_not, eqb, eqb→eq, eqb_refl}
use lib.IntN.{ℤ, pos, negsuc}
use Rattle.rules.specs.Matrix.{Code, places, entry, block, checks_of}
use Rattle.rules.proofs.Tests.{every, every_at, every_of}
use Rattle.rules.proofs.Checks.{place_below, block_some, block_below}
use Rattle.laws.proofs.Around.{around_swap, around_cancel, around_meet, around_back}
use Rattle.facts.specs.Claims.{PlacesApart}
use Rattle.facts.specs.Lines.{none_empty, paired, row_by_row, as_far, lines_alike, none_alike}
use Rattle.facts.proofs.Places.{one_at, has_one, where_one, line_turn}
use Rattle.facts.proofs.Members.{checks_told}

is_equal : (m n : ℕ) → m ≡ n → T (eqb m n)
is_equal m n e = rw e (eqb_refl n)

-- column t of the block of turn x has its one in the row where column s of the block of turn y has its own
abbrev meets : ℕ → ℕ → ℕ → ℕ → ℕ → Bool
meets z t s x y = eqb ((s + x) % z) ((t + y) % z)

module _ (z : ℕ) (some : 0 < z) where
  -- in the row where column t of the block of turn x has its one, a column with the same numbers has one too
  one_too : (t x : ℕ) → t < z → (b : ℤ) (s : ℕ) → ((r : ℕ) → r < z → block z (pos x) r t ≡ block z b r s)
      → (r : ℕ) × ((r + x) % z ≡ t) × (block z b r s ≡ 1)
  one_too t x h b s same =
      let r = around_back z some t x h in
      (r.0, r.2, sym (same r.0 r.1) ∙ has_one z x r.0 t r.2)

  blocks_meet : (t s : ℕ) → t < z → s < z → (a b : ℤ) → ((r : ℕ) → r < z → block z a r t ≡ block z b r s)
      → T (paired a b (meets z t s))
  blocks_meet t s ht hs (pos x) (pos y) same =
      let r = one_too t x ht (pos y) s same in
      is_equal ((s + x) % z) ((t + y) % z)
      (ap (λ (n : ℕ). (n + x) % z) (where_one z y r.0 s r.2)
      ∙ around_swap z r.0 y x
      ∙ ap (λ (n : ℕ). (n + y) % z) r.1)
  blocks_meet t s ht hs (pos x) (negsuc n) same = absurd (omega (arith, (one_too t x ht (negsuc n) s same).2))
  blocks_meet t s ht hs (negsuc m) (pos y) same =
      absurd (omega (arith, (one_too s y hs (negsuc m) t (λ r l. sym (same r l))).2))
  blocks_meet t s ht hs (negsuc m) (negsuc n) same = tt

-- what follows for each pair of turns, follows row by row
paired_each : (a b : ℤ) (f g : ℕ → ℕ → Bool) → ((x y : ℕ) → T (f x y) → T (g x y)) → T (paired a b f) → T (paired a b g)
paired_each (pos x) (pos y) f g h t = h x y t
paired_each (pos x) (negsuc n) f g h t = t
paired_each (negsuc m) (pos y) f g h t = t
paired_each (negsuc m) (negsuc n) f g h t = tt

rows_each : (c : Code) (j k : ℕ) (f g : ℕ → ℕ → Bool) → ((x y : ℕ) → T (f x y) → T (g x y))
    → T (row_by_row c j k f) → T (row_by_row c j k g)
rows_each c j k f g h t =
    every_of c.rows (λ i. paired (entry c i j) (entry c i k) g)
    (λ i l. paired_each (entry c i j) (entry c i k) f g h
    (every_at c.rows (λ i. paired (entry c i j) (entry c i k) f) t i l))

module _ (c : Code) (p q : ℕ) (hp : p < places c) (same : checks_of c p ≡ checks_of c q) where
  abbrev z : ℕ
  z = c.size

  abbrev meet : ℕ → ℕ → Bool
  meet = meets z (p % z) (q % z)

  some : 0 < z
  some = block_some z c.columns p hp

  row_meets : (i : ℕ) → i < c.rows → T (paired (entry c i (p / z)) (entry c i (q / z)) meet)
  row_meets i h =
      blocks_meet z some (p % z) (q % z) (mod-lt p some) (mod-lt q some) (entry c i (p / z)) (entry c i (q / z))
      (λ r l.
      sym (one_at c i r p l)
      ∙ checks_told c p q same (z * i + r) (place_below z i c.rows r h l)
      ∙ one_at c i r q l)

  pub lines_alike_law : T (lines_alike c (p / z) (q / z))
  lines_alike_law =
      rows_each c (p / z) (q / z) meet (λ x y. row_by_row c (p / z) (q / z) (as_far z x y))
      (λ x y e. rows_each c (p / z) (q / z) meet (as_far z x y) (far x y e) met) met
    where
      met : T (row_by_row c (p / z) (q / z) meet)
      met = every_of c.rows (λ i. paired (entry c i (p / z)) (entry c i (q / z)) meet) row_meets

      far : (x y : ℕ) → T (meet x y) → (u v : ℕ) → T (meet u v) → T (as_far z x y u v)
      far x y e u v f =
          is_equal ((x + v) % z) ((u + y) % z)
          (around_meet z some (q % z) (p % z) x y u v (eqb→eq _ _ e) (eqb→eq _ _ f))

  -- a row in which the line has a turn tells the column
  pub one_line : T (none_empty c) → p / z ≡ q / z → p ≡ q
  one_line u e =
      let i = line_turn c u (p / z) (block_below z c.columns p hp) in
      let there : entry c i.0 (q / z) ≡ pos i.2 = ap (entry c i.0) (sym e) ∙ i.3 in
      let met : T (meet i.2 i.2) = rw (i.3, there) at (row_meets i.0 i.1) in
      let local : q % z % z ≡ p % z % z = around_cancel z some (q % z) (p % z) i.2 (eqb→eq _ _ met) in
      sym (div-add-mod p z)
      ∙ ap₂ (λ (j t : ℕ). z * j + t) e (sym (mod-eq_of_lt (mod-lt p some)) ∙ sym local ∙ mod-eq_of_lt (mod-lt q some))
      ∙ div-add-mod q z

-- the test of a line and an earlier one
told_apart : (c : Code) → T (none_alike c) → (j k : ℕ) → j < k → k < c.columns → T (lines_alike c j k) → ⊥
told_apart c a j k l h =
    T_not (lines_alike c j k)
    (every_at k (λ j. not (lines_alike c j k))
    (every_at c.columns (λ k. every k (λ j. not (lines_alike c j k))) a k h) j l)

pub places_apart : (c : Code) → T (none_empty c) → T (none_alike c) → PlacesApart c
places_apart c u a p q hp hq same = elim (dec_lt (p / c.size) (q / c.size)) [
  | yes l ↦ absurd (told_apart c a _ _ l (block_below c.size c.columns q hq) (lines_alike_law c p q hp same))
  | no l ↦ elim (dec_lt (q / c.size) (p / c.size)) [
    | yes m ↦ absurd (told_apart c a _ _ m (block_below c.size c.columns p hp) (lines_alike_law c q p hq (sym same)))
    | no m ↦ one_line c p q hp same u (omega arith)
  ]
]
