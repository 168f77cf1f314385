-- W14 of paper 02: facts to teach from, each a claim on a code. A word is a full word, its places in the order of the
-- matrix. No place is taken for shortened.
--
--   onward z a n       the place a further on than n in its block of z: from the block's end it goes on at its start
--   all_turned c a w   the word w with all its blocks turned by a, as an entry a turns a block
--   changed p w        the word w with place p changed: 1 for 0, 0 for 1
--   SumKeeps c         the sum mod 2 of two words that satisfy all checks satisfies them too
--   TurnKeeps c        a word that satisfies all checks does so too with all its blocks turned by one and the same
--                      amount
--   ChangeBreaksOwn c  one changed place of a word that satisfies all checks breaks exactly the checks that the place
--                      is in
--   ChangeBreaks c     one changed place of such a word always breaks a check
--   PlacesApart c      no two different places lie in exactly the same checks
--
-- Believe this file beside the paper; nothing here is proved. Fibre proves each claim of Table 142-1, and Coax each of
-- Tables 101-3 and 101-4.
use Rattle.std.specs.Prelude.{◌≡◌, cond, ℕ, ◌+◌, ◌*◌, ◌/◌, ◌%◌, ◌<◌, eqb}
use Rattle.rules.specs.Bits.{sum}
use Rattle.rules.specs.Matrix.{Code, places, checks, one, check, AllHold, checks_of}

abbrev pub onward : ℕ → ℕ → ℕ → ℕ
onward z a n = z * (n / z) + (n % z + a) % z

abbrev pub all_turned : Code → ℕ → (ℕ → ℕ) → ℕ → ℕ
all_turned c a w n = w (onward c.size a n)

abbrev pub changed : ℕ → (ℕ → ℕ) → ℕ → ℕ
changed p w n = cond (eqb n p) ((w n + 1) % 2) (w n)

abbrev pub SumKeeps : Code → Type 0
SumKeeps c = (x y : ℕ → ℕ) → AllHold c x → AllHold c y → AllHold c (sum x y)

abbrev pub TurnKeeps : Code → Type 0
TurnKeeps c = (a : ℕ) (w : ℕ → ℕ) → AllHold c w → AllHold c (all_turned c a w)

abbrev pub ChangeBreaksOwn : Code → Type 0
ChangeBreaksOwn c =
    (p : ℕ) (w : ℕ → ℕ) → p < places c → AllHold c w → (n : ℕ) → n < checks c → check c n (changed p w) ≡ one c n p

abbrev pub ChangeBreaks : Code → Type 0
ChangeBreaks c =
    (p : ℕ) (w : ℕ → ℕ) → p < places c → AllHold c w → (n : ℕ) × (n < checks c) × (check c n (changed p w) ≡ 1)

abbrev pub PlacesApart : Code → Type 0
PlacesApart c = (p q : ℕ) → p < places c → q < places c → checks_of c p ≡ checks_of c q → p ≡ q
