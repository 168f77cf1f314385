-- Decimal numbers in text.
--
--   IsDigit b        the byte b is a decimal digit
--   Digits i s       the first i bytes of s are digits
--   value_of i s     the number that the first i digits of s spell
--   WithDigit v b r  the number v with the digit b after it, or why there is none
--   WithByte a b r   what is spelled with the byte b after a; what is too large stays so while digits follow
--   Spelled s r      what the text s spells: a number; none; or one of 2^64 or more
--
-- Nothing here is proved.
use Rattle.std.specs.Prelude.{◌≡◌, ◌⊎◌, List, ℕ, zero, suc}
use Rattle.std.specs.Prelude.{◌+◌, ◌-◌, ◌*◌, ◌^◌, ◌≤◌, ◌<◌, length, get_or}
use Rattle.std.specs.Prelude.{Result, Ok, Err}
use Rattle.console.specs.declared.decimals.NotNumber.{NotNumber}
use Rattle.console.specs.declared.decimals.NotNumber.TheVariants.{Nothing, TooLarge}

abbrev pub IsDigit : ℕ → Type 0
IsDigit b = (48 ≤ b) × (b ≤ 57)

abbrev pub Digits : ℕ → List ℕ → Type 0
Digits i s = (k : ℕ) → k < i → IsDigit (get_or s k 0)

unfoldable pub value_of : ℕ → List ℕ → ℕ
value_of zero s = 0
value_of (suc i) s = 10 * value_of i s + (get_or s i 0 - 48)

abbrev pub WithDigit : ℕ → ℕ → Result ℕ NotNumber → Type 0
WithDigit v b (Ok n) = IsDigit b × (n ≡ 10 * v + (b - 48)) × (n < 2 ^ 64)
WithDigit v b (Err Nothing) = IsDigit b → ⊥
WithDigit v b (Err TooLarge) = IsDigit b × (2 ^ 64 ≤ 10 * v + (b - 48))

abbrev pub WithByte : Result ℕ NotNumber → ℕ → Result ℕ NotNumber → Type 0
WithByte (Ok v) b r = WithDigit v b r
WithByte (Err Nothing) b r = r ≡ Err Nothing
WithByte (Err TooLarge) b (Ok n) = ⊥
WithByte (Err TooLarge) b (Err Nothing) = IsDigit b → ⊥
WithByte (Err TooLarge) b (Err TooLarge) = IsDigit b

abbrev pub Spelled : List ℕ → Result ℕ NotNumber → Type 0
Spelled s (Ok n) = (0 < length s) × Digits (length s) s × (n ≡ value_of (length s) s) × (n < 2 ^ 64)
Spelled s (Err Nothing) = (length s ≡ 0) ⊎ ((i : ℕ) × (i < length s) × (IsDigit (get_or s i 0) → ⊥))
Spelled s (Err TooLarge) = Digits (length s) s × (2 ^ 64 ≤ value_of (length s) s)
