-- Paper 01, 'The matrix': what an entry stands for, what a check is, and which checks a place lies in. Any block size,
-- any table.
--
--   Code                 a block size, block rows, block columns, and a table: a line for each block column, an entry
--                        for each block row
--   places c             the places of a full word
--   checks c             the checks, and as many parity places, which come last
--   places_of_payload c  the places before them
--   entry c i j          the entry of block row i, block column j, both from 0; -1 is a zero block
--   block z a r t        local row r, local column t of the block of entry a: the identity moved right by a
--   one c n p            row n, place p of the matrix: 1 or 0
--   total n f            f 0 + f 1 + .. + f (n - 1)
--   check c n w          check n of the word w: the sum mod 2 of all places with a one in that row
--   AllHold c w          every check of w is 0
--   checks_of c p        the checks that place p is in, lowest first
--
-- Believe this file beside the paper; nothing here is proved.
use Rattle.std.specs.Prelude.{◌≡◌, cond, List, [], ◌∷◌, ◌++◌, ℕ, zero, suc, ◌+◌, ◌-◌, ◌*◌, ◌/◌}
use Rattle.std.specs.Prelude.{◌%◌, ◌<◌, eqb, ℤ, pos, negsuc, get_or}

pub record Code : Type 0 where
  pub size : ℕ
  pub rows : ℕ
  pub columns : ℕ
  pub table : List (List ℤ)

abbrev pub places : Code → ℕ
places c = c.size * c.columns

abbrev pub checks : Code → ℕ
checks c = c.size * c.rows

abbrev pub places_of_payload : Code → ℕ
places_of_payload c = c.size * (c.columns - c.rows)

unfoldable pub entry : Code → ℕ → ℕ → ℤ
entry c i j = get_or (get_or c.table j []) i (negsuc 0)

abbrev pub block : ℕ → ℤ → ℕ → ℕ → ℕ
block z (pos a) r t = cond (eqb t ((r + a) % z)) 1 0
block z (negsuc n) r t = 0

unfoldable pub one : Code → ℕ → ℕ → ℕ
one c n p = block c.size (entry c (n / c.size) (p / c.size)) (n % c.size) (p % c.size)

unfoldable pub total : ℕ → (ℕ → ℕ) → ℕ
total zero f = 0
total (suc n) f = total n f + f n

unfoldable pub check : Code → ℕ → (ℕ → ℕ) → ℕ
check c n w = total (places c) (λ p. one c n p * w p) % 2

abbrev pub AllHold : Code → (ℕ → ℕ) → Type 0
AllHold c w = (n : ℕ) → n < checks c → check c n w ≡ 0

abbrev pub checks_below : Code → ℕ → ℕ → List ℕ
checks_below c p zero = []
checks_below c p (suc n) = checks_below c p n ++ cond (eqb (one c n p) 1) (n ∷ []) []

unfoldable pub checks_of : Code → ℕ → List ℕ
checks_of c p = checks_below c p (checks c)
