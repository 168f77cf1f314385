-- Two computed tests over the lines of a table. The laws of proofs/ turn them into claims on all places.
--
--   is_none a           the entry a is -1, a zero block
--   empty c j           all entries of line j are -1
--   none_empty c        no line is empty
--   paired a b f        two entries of one row: f of them where both are turns; passed where neither is, failed where
--                       one is
--   row_by_row c j k f  the entries of lines j and k, paired in each row
--   as_far z x y u v    it is as far from y to x, round a block of z, as from v to u
--   lines_alike c j k   lines j and k have turns in the same rows, and all these turns are equally far apart
--   none_alike c        no two lines are alike
--
-- Nothing here is proved.
use Rattle.std.specs.Prelude.{Bool, true, false, not, ℕ, ◌+◌, ◌%◌, eqb, ℤ, pos, negsuc}
use Rattle.rules.specs.Matrix.{Code, entry}
use Rattle.rules.proofs.Tests.{every}

abbrev pub is_none : ℤ → Bool
is_none (pos a) = false
is_none (negsuc n) = true

abbrev pub empty : Code → ℕ → Bool
empty c j = every c.rows (λ i. is_none (entry c i j))

abbrev pub none_empty : Code → Bool
none_empty c = every c.columns (λ j. not (empty c j))

abbrev pub paired : ℤ → ℤ → (ℕ → ℕ → Bool) → Bool
paired (pos x) (pos y) f = f x y
paired (pos x) (negsuc n) f = false
paired (negsuc m) (pos y) f = false
paired (negsuc m) (negsuc n) f = true

abbrev pub row_by_row : Code → ℕ → ℕ → (ℕ → ℕ → Bool) → Bool
row_by_row c j k f = every c.rows (λ i. paired (entry c i j) (entry c i k) f)

abbrev pub as_far : ℕ → ℕ → ℕ → ℕ → ℕ → Bool
as_far z x y u v = eqb ((x + v) % z) ((u + y) % z)

abbrev pub lines_alike : Code → ℕ → ℕ → Bool
lines_alike c j k = row_by_row c j k (λ x y. row_by_row c j k (as_far c.size x y))

abbrev pub none_alike : Code → Bool
none_alike c = every c.columns (λ k. every k (λ j. not (lines_alike c j k)))
