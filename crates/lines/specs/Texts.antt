-- Texts, and how facts are spelled.
--
--   text s                the bytes of a text
--   decimal n             the number n in decimal digits, as few as hold it; numbers here have at most 20
--   new_line              the byte that ends a line
--   fact words n          the line of one fact, as `written 354`
--   facts words n more m  the line of two facts, as `check 176 fails 6`
--   tally n words         the line of a count, as `21 right`
--   numbered b            a byte by its number, as `<10>`
--   shown b               a byte of a name: as it is where it is printable, from 32 to 126, else by its number
--
-- Believe this file; nothing here is proved.
use Rattle.std.specs.Prelude.{cond, List, [], ◌∷◌, ◌++◌, ℕ, zero, suc, ◌+◌, ◌/◌, ◌%◌, ltb}
use Prim.Native.Char.{code}
use Prim.Native.String.{String, [] as noText, ◌∷◌ as ◌∷ᵗ◌}

abbrev pub text : String → List ℕ
text noText = []
text (c ∷ᵗ s) = code c ∷ text s

-- the last digit of n, after the digits of what is left, if anything is
unfoldable pub digits_of : ℕ → ℕ → List ℕ
digits_of zero n = []
digits_of (suc most) n = cond (ltb n 10) [] (digits_of most (n / 10)) ++ ((48 + n % 10) ∷ [])

abbrev pub decimal : ℕ → List ℕ
decimal n = digits_of 20 n

abbrev pub new_line : List ℕ
new_line = 10 ∷ []

abbrev pub fact : List ℕ → ℕ → List ℕ
fact words n = words ++ decimal n ++ new_line

abbrev pub facts : List ℕ → ℕ → List ℕ → ℕ → List ℕ
facts words n more m = words ++ decimal n ++ more ++ decimal m ++ new_line

abbrev pub tally : ℕ → List ℕ → List ℕ
tally n words = decimal n ++ words ++ new_line

abbrev pub numbered : ℕ → List ℕ
numbered b = text "<" ++ decimal b ++ text ">"

abbrev pub shown : ℕ → List ℕ
shown b = cond (ltb b 32) (numbered b) (cond (ltb 126 b) (numbered b) (b ∷ []))
