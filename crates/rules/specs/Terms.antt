-- For the contracts of inner functions: a check by its block columns, the first of some numbers, the fibre code by one
-- list alone, and what a code asks of a stream. No promise of a public operation cites this file. The law
-- check_columns says that a check is the sum mod 2 of its terms.
--
--   proper z a      the test of an entry, for blocks of z bits: it is -1, or a turn below z
--   Proper z l      each entry of the line l passes it
--   spot z a f r    what the block of entry a takes at local row r from its column's bits f
--   through z l f n what a line l of the table adds to check n, from its column's bits f
--   term c n w j    what block column j adds to check n of w
--   first_of xs     the first of the numbers xs that is not 0, or 0 where all are
--   FirstTold xs r  r is that one
--   by_first a      the fibre code where the payload goes in by the list a; what does not ask for the parity's order
--   by_second b     and where the parity goes out by the list b; what does not ask for the payload's order
--   limits f        what a code asks of a stream, as the numbers that a test is given
use Rattle.std.specs.Prelude.{◌≡◌, Bool, cond, List, [], ◌∷◌, ℕ, ◌+◌, ◌*◌, ◌/◌, ◌%◌, T}
use Rattle.std.specs.Prelude.{ltb, eqb, ℤ, pos, negsuc, get_or}
use Rattle.rules.specs.Matrix.{Code, checks, places_of_payload}
use Rattle.rules.specs.Table.{fibre}
use Rattle.rules.specs.Lists.{place_in, none}
use Rattle.rules.specs.Formats.{Format, fibre_by}
use Rattle.rules.specs.declared.Limits.{Limits}

abbrev pub proper : ℕ → ℤ → Bool
proper z (pos a) = ltb a z
proper z (negsuc n) = eqb n 0

abbrev pub Proper : ℕ → List ℤ → Type 0
Proper z l = (i : ℕ) → T (proper z (get_or l i (negsuc 0)))

abbrev pub spot : ℕ → ℤ → (ℕ → ℕ) → ℕ → ℕ
spot z (pos a) f r = f ((r + a) % z)
spot z (negsuc n) f r = 0

unfoldable pub through : ℕ → List ℤ → (ℕ → ℕ) → ℕ → ℕ
through z l f n = spot z (get_or l (n / z) (negsuc 0)) f (n % z)

abbrev pub term : Code → ℕ → (ℕ → ℕ) → ℕ → ℕ
term c n w j = through c.size (get_or c.table j []) (λ t. w (c.size * j + t)) n

unfoldable pub first_of : List ℕ → ℕ
first_of [] = 0
first_of (x ∷ xs) = cond (eqb x 0) (first_of xs) x

pub record FirstTold (xs : List ℕ) (r : ℕ) : Type 0 where
  pub same : r ≡ first_of xs

abbrev pub by_first : List ℕ → Format
by_first a = fibre_by (place_in (places_of_payload fibre) a) (λ t. t) none

abbrev pub by_second : List ℕ → Format
by_second b = fibre_by (λ t. t) (place_in (checks fibre) b) none

abbrev pub limits : Format → Limits
limits f = record { number = f.number; most = f.most; used = checks f.code }
