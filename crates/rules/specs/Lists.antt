-- W2 of paper 02: what a reordering of places is, and what a lent list says. A list is bytes, two for an entry, the low
-- byte first, here as at the C boundary.
--
--   Reordering n r  r reorders n places: what it names for 0 to n - 1 is each of the n places, once
--   entry_of l t    entry t of the list l
--   Listed n l      l is a list of n entries, and these are a reordering of n places
--   place_in n l t  the place that a list l of n entries names at t; it says nothing of places from n on, which stay
--   Plain n l       l changes nothing: it has n entries, and entry t is t
--   Lists           the lists that a call is lent:
--     none              none
--     pair a b          the first a, and the second b
--   AreListed n m v   where two are lent, the first is a reordering of n places, and the second of m
--
-- Believe this file beside the paper; nothing here is proved.
use Rattle.std.specs.Prelude.{◌≡◌, cond, List, ℕ, ◌+◌, ◌*◌, ◌<◌, ltb, length, get_or}

pub record Reordering (n : ℕ) (r : ℕ → ℕ) : Type 0 where
  pub below : (t : ℕ) → t < n → r t < n
  pub named : (p : ℕ) → p < n → (t : ℕ) × (t < n) × (r t ≡ p)
  pub once : (s t : ℕ) → s < n → t < n → r s ≡ r t → s ≡ t

abbrev pub entry_of : List ℕ → ℕ → ℕ
entry_of l t = get_or l (2 * t) 0 + 256 * get_or l (2 * t + 1) 0

pub record Listed (n : ℕ) (l : List ℕ) : Type 0 where
  pub bytes : length l ≡ 2 * n
  pub reorders : Reordering n (entry_of l)

unfoldable pub place_in : ℕ → List ℕ → ℕ → ℕ
place_in n l t = cond (ltb t n) (entry_of l t) t

pub record Plain (n : ℕ) (l : List ℕ) : Type 0 where
  pub bytes : length l ≡ 2 * n
  pub kept : (t : ℕ) → t < n → entry_of l t ≡ t

pub data Lists : Type 0 where
  none : Lists
  pair : List ℕ → List ℕ → Lists

abbrev pub AreListed : ℕ → ℕ → Lists → Type 0
AreListed n m none = Unit
AreListed n m (pair a b) = Listed n a × Listed m b
