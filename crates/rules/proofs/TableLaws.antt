-- Paper 01, 'The matrix': the facts of a table, by one computed test over the whole of it.
--
--   fits c         the test of a code's table: a line for each block column, an entry for each block row, each -1 or a
--                  turn below the block size, which fits 15 bits
--   counts         the test of a table's counts: its entries in all, those that are not -1, and of these the ones after
--                  so many lines
--   table_facts    Table 142-1: 69 lines of 12 entries, 828 in all, each from -1 to 255; 275 are not -1, of which 53
--                  are in lines 58 to 69
--   fibre_fits     so it passes the test
--
-- Of any table that passes:
--
--   line_read      an entry that the code reads from a line is that of the definitions
--   line_proper    the entries of a line pass their test
--   line_length    there are as many as block rows
--   turn_below     a turn is below the block size
--   entry_as       within the table no default stands for an entry
--   entry_read     an entry that the code reads is that of the definitions
use mathlib.Core.Path.{◌≡◌, refl, ap, ◌∙◌}
use mathlib.Core.Bool.{Bool}
use mathlib.Core.List.{List, [], ◌∷◌}
use Prim.Native.Nat.{ℕ, zero, suc, ◌+◌, ◌<◌}
use native.Mathlib.Omega.{arith}
use native.Mathlib.Nat.{lt_trans, not-suc-le-zero, le_of_suc-le-suc}
use lib.Dec.{T, ltb, eqb, ltb→lt, eqb→eq}
use lib.IntN.{ℤ, pos, negsuc}
use lib.ListN.{get_or, length, drop}
use lib.Signed.{mag}
use mir.Facts.{to_z-of_z}
use mir.Syntax.{w16}
use mir.Val.{SFits, to_z, of_z}
use Rattle.rules.specs.Matrix.{Code, entry}
use Rattle.rules.specs.Table.{lines, fibre}
use Rattle.rules.specs.Terms.{proper, Proper}
use Rattle.rules.proofs.Tests.{both, both_left, both_right, all, all_at, all_in}

-- the four parts of the test: the entries, the lengths of the lines, their number, the block size
abbrev entries : Code → Bool
entries c = all (all (proper c.size)) c.table

abbrev lengths : Code → Bool
lengths c = all (λ l. eqb (length l) c.rows) c.table

abbrev pub fits : Code → Bool
fits c = both (entries c) (both (lengths c) (both (eqb (length c.table) c.columns) (ltb c.size 32768)))

abbrev present : List ℤ → ℕ
present [] = 0
present (pos a ∷ es) = suc (present es)
present (negsuc n ∷ es) = present es

-- f of each line, added up
abbrev over : (List ℤ → ℕ) → List (List ℤ) → ℕ
over f [] = 0
over f (l ∷ ls) = f l + over f ls

abbrev pub counts : ℕ → ℕ → ℕ → ℕ → List (List ℤ) → Bool
counts entries turns after later ls =
    both (eqb (over length ls) entries)
    (both (eqb (over present ls) turns) (eqb (over present (drop after ls)) later))

pub table_facts : T (both (fits fibre) (counts 828 275 57 53 lines))
unfolding lines
table_facts = tt

pub fibre_fits : T (fits fibre)
fibre_fits = both_left (fits fibre) (counts 828 275 57 53 lines) table_facts

-- in a list's range its default does not matter
get_d_any : {A : Type 0} (xs : List A) (i : ℕ) (a b : A) → i < length xs → get_or xs i a ≡ get_or xs i b
get_d_any [] i a b h = absurd (not-suc-le-zero h)
get_d_any (x ∷ xs) zero a b h = refl
get_d_any (x ∷ xs) (suc i) a b h = get_d_any xs i a b (le_of_suc-le-suc h)

-- an element of a line as it is read, in 16 bits
pub line_read : (l : List ℤ) (i : ℕ) → i < length l → mag (get_or l i (pos 0)) < 32768
    → to_z w16 (of_z w16 (get_or l i (pos 0))) ≡ get_or l i (negsuc 0)
line_read l i h small = to_z-of_z {w = w16} record { sfits = small } ∙ get_d_any l i (pos 0) (negsuc 0) h

small : (z : ℕ) (a : ℤ) → z < 32768 → T (proper z a) → mag a < 32768
small z (pos a) h t = lt_trans (ltb→lt a z t) h
small z (negsuc n) h t = omega (arith, eqb→eq n 0 t)

module _ (c : Code) (fine : T (fits c)) where
  rest : T (both (lengths c) (both (eqb (length c.table) c.columns) (ltb c.size 32768)))
  rest = both_right (entries c) _ fine

  last : T (both (eqb (length c.table) c.columns) (ltb c.size 32768))
  last = both_right (lengths c) _ rest

  pub line_proper : (j : ℕ) → Proper c.size (get_or c.table j [])
  line_proper j i =
      all_at (proper c.size) (negsuc 0) tt (get_or c.table j [])
      (all_at (all (proper c.size)) [] tt c.table (both_left (entries c) _ fine) j) i

  count : length c.table ≡ c.columns
  count = eqb→eq (length c.table) c.columns (both_left (eqb (length c.table) c.columns) _ last)

  pub line_length : (j : ℕ) → j < c.columns → length (get_or c.table j []) ≡ c.rows
  line_length j h =
      eqb→eq _ c.rows
      (all_in (λ l. eqb (length l) c.rows) [] c.table (both_left (lengths c) _ rest) j (rw count h))

  entry_proper : (i j : ℕ) → T (proper c.size (entry c i j))
  unfolding entry
  entry_proper i j = line_proper j i

  pub turn_below : (i j : ℕ) {a : ℕ} → entry c i j ≡ pos a → a < c.size
  turn_below i j {a} e = ltb→lt a c.size (rw e at (entry_proper i j))

  entry_fits : (i j : ℕ) → SFits w16 (entry c i j)
  entry_fits i j =
      let size = ltb→lt c.size 32768 (both_right (eqb (length c.table) c.columns) _ last) in
      record { sfits = small c.size (entry c i j) size (entry_proper i j) }

  -- within the table no default stands for an entry
  pub entry_as : (i j : ℕ) (d : ℤ) → i < c.rows → j < c.columns → get_or (get_or c.table j []) i d ≡ entry c i j
  unfolding entry
  entry_as i j d hi hj = get_d_any (get_or c.table j []) i d (negsuc 0) (omega (arith, line_length j hj))

  -- an entry as it is read from the code's table, in 16 bits
  pub entry_read : (i j : ℕ) → i < c.rows → j < c.columns
      → to_z w16 (of_z w16 (get_or (get_or c.table j []) i (pos 0))) ≡ entry c i j
  entry_read i j hi hj = ap (λ (z : ℤ). to_z w16 (of_z w16 z)) (entry_as i j (pos 0) hi hj) ∙ to_z-of_z (entry_fits i j)
