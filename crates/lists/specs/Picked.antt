-- What the functions on lists ask and promise. A place of a list has a mark where the mark is not 0.
--
--   Names l n m               the first n entries of l are there, and each names one of m places
--   PickedByte l s i r        the byte r has the bits of s that eight entries of l name, from entry 8 i on
--   Picked l s t t'           t' is as long as t, and each of its bits n is the bit of s that entry n of l names
--   Kept w s t                t is as long as s, and has of its bits those that are 1 in w too
--   FirstShortened n K a w r  r is the lowest of n places that is 1 in w and has an entry of a from K on, or n
--   Marked k n l m            of n places, those that have a mark in m are those that the first k entries of l name
--   AllMarked n m r           r says whether each of n places has a mark in m
--   Tested n l r              r says whether l is a list of n entries that are a reordering
--   AtFault n l t             entry t names none of n places, or one that an entry before it names
--   FirstFault n l r          r is the lowest entry of n that is at fault, or n
--
-- Nothing here is proved.
use Rattle.std.specs.Prelude.{◌≡◌, Bool, true, false, List, ◌⊎◌, ℕ, min, ◌+◌, ◌*◌, ◌≤◌, ◌<◌, length, get_or}
use Rattle.rules.specs.Bits.{bit}
use Rattle.rules.specs.Lists.{Reordering, Listed, entry_of}
use Rattle.rules.specs.Words.{digit}

pub record Names (l : List ℕ) (n m : ℕ) : Type 0 where
  pub long : 2 * n ≤ length l
  pub below : (t : ℕ) → t < n → entry_of l t < m

pub record PickedByte (l s : List ℕ) (i r : ℕ) : Type 0 where
  pub each : (t : ℕ) → t < 8 → digit r t ≡ bit s (entry_of l (8 * i + t))

pub record Picked (l s t t' : List ℕ) : Type 0 where
  pub length_same : length t' ≡ length t
  pub each : (n : ℕ) → n < 8 * length t → bit t' n ≡ bit s (entry_of l n)

pub record Kept (w s t : List ℕ) : Type 0 where
  pub length_same : length t ≡ length s
  pub each : (n : ℕ) → n < 8 * length s → bit t n ≡ min (bit s n) (bit w n)

pub record FirstShortened (n K : ℕ) (a w : List ℕ) (r : ℕ) : Type 0 where
  pub high : r ≤ n
  pub clear : (t : ℕ) → t < r → K ≤ entry_of a t → bit w t ≡ 0
  pub set : r < n → (K ≤ entry_of a r) × (bit w r ≡ 1)

pub record Marked (k n : ℕ) (l m : List ℕ) : Type 0 where
  pub room : length m ≡ n + 1
  pub named : (p : ℕ) → p < n → (get_or m p 0 ≡ 0 → ⊥) → (t : ℕ) × (t < k) × (entry_of l t ≡ p)
  pub marked : (t : ℕ) → t < k → entry_of l t < n → get_or m (entry_of l t) 0 ≡ 0 → ⊥

pub record AllMarked (n : ℕ) (m : List ℕ) (r : Bool) : Type 0 where
  pub marked : r ≡ true → (p : ℕ) → p < n → get_or m p 0 ≡ 0 → ⊥
  pub unmarked : r ≡ false → (p : ℕ) × (p < n) × (get_or m p 0 ≡ 0)

pub record Tested (n : ℕ) (l : List ℕ) (r : Bool) : Type 0 where
  pub listed : r ≡ true → Listed n l
  pub fault : r ≡ false → (length l ≡ 2 * n → ⊥) ⊎ (Reordering n (entry_of l) → ⊥)

abbrev pub AtFault : ℕ → List ℕ → ℕ → Type 0
AtFault n l t = (n ≤ entry_of l t) ⊎ ((s : ℕ) × (s < t) × (entry_of l s ≡ entry_of l t))

pub record FirstFault (n : ℕ) (l : List ℕ) (r : ℕ) : Type 0 where
  pub high : r ≤ n
  pub fine : (t : ℕ) → t < r → AtFault n l t → ⊥
  pub fault : r < n → AtFault n l r
