-- Paper 01, 'Verdicts', with W2 and W3 of paper 02: what each verdict says of a full word, which is in inner order, and
-- of a line word.
--
--   Lowest P n             P holds of n and of nothing below it
--   Nowhere P              P holds of no number
--   ShortenedSet f K w n   n is a shortened place, an inner payload place taken from a padded one from K on, and is 1
--   Fails c w n            check n of w fails
--   row_fails c w n        the test of row n of w: passed where its check is 1
--   how_many b f           how many numbers below b pass the test f
--   WordVerdict f K w v    v is the verdict on the full word w
--   Differs x y b n        n is below b, and x and y differ there
--   ParityDiffers f K l p  where the sent parity of l differs from the encoder's, which is p before it goes out
--   DelimiterDiffers f K l d where the delimiter of l differs from d
--   TailVerdict f K l d p v  v is the verdict on the tail of l, beside the parity p first, then the delimiter d
--   LineVerdict f K l d v    v is the verdict on the line word l: its tail beside the encoder's
--
-- Believe this file beside the paper; nothing here is proved.
use Rattle.std.specs.Prelude.{◌≡◌, Bool, cond, List, ℕ, ◌+◌, ◌≤◌, ◌<◌, eqb}
use Rattle.rules.specs.Bits.{bit}
use Rattle.rules.specs.Matrix.{Code, checks, places_of_payload, total, check}
use Rattle.rules.specs.Formats.{Format}
use Rattle.rules.specs.Words.{padded, reordered, Parity, digit, outgoing}
use Rattle.rules.specs.declared.Cause.TheVariants as cause
use Rattle.rules.specs.declared.Verdict.{Verdict}
use Rattle.rules.specs.declared.Verdict.TheVariants.{Accepted, Rejected}

abbrev pub Lowest : (ℕ → Type 0) → ℕ → Type 0
Lowest P n = P n × ((m : ℕ) → m < n → P m → ⊥)

abbrev pub Nowhere : (ℕ → Type 0) → Type 0
Nowhere P = (n : ℕ) → P n → ⊥

abbrev pub ShortenedSet : Format → ℕ → (ℕ → ℕ) → ℕ → Type 0
ShortenedSet f K w n = (K ≤ f.first n) × (n < places_of_payload f.code) × (w n ≡ 1)

abbrev pub Fails : Code → (ℕ → ℕ) → ℕ → Type 0
Fails c w n = (n < checks c) × (check c n w ≡ 1)

abbrev pub row_fails : Code → (ℕ → ℕ) → ℕ → Bool
row_fails c w n = eqb (check c n w) 1

abbrev pub how_many : ℕ → (ℕ → Bool) → ℕ
how_many b f = total b (λ n. cond (f n) 1 0)

abbrev pub WordVerdict : Format → ℕ → (ℕ → ℕ) → Verdict → Type 0
WordVerdict f K w Accepted = Nowhere (ShortenedSet f K w) × Nowhere (Fails f.code w)
WordVerdict f K w (Rejected (cause.Shortened n)) = Lowest (ShortenedSet f K w) n
WordVerdict f K w (Rejected (cause.Check n m)) =
    Nowhere (ShortenedSet f K w) × Lowest (Fails f.code w) n
    × (m ≡ how_many (checks f.code) (row_fails f.code w))
WordVerdict f K w (Rejected (cause.Parity n)) = ⊥
WordVerdict f K w (Rejected (cause.Delimiter n)) = ⊥

abbrev pub Differs : (ℕ → ℕ) → (ℕ → ℕ) → ℕ → ℕ → Type 0
Differs x y b n = (n < b) × (x n ≡ y n → ⊥)

abbrev pub ParityDiffers : Format → ℕ → List ℕ → List ℕ → ℕ → Type 0
ParityDiffers f K l p = Differs (λ n. bit l (K + n)) (outgoing f p) f.sent

abbrev pub DelimiterDiffers : Format → ℕ → List ℕ → ℕ → ℕ → Type 0
DelimiterDiffers f K l d = Differs (λ n. bit l (K + f.sent + n)) (digit d) f.delimiter

abbrev pub TailVerdict : Format → ℕ → List ℕ → ℕ → List ℕ → Verdict → Type 0
TailVerdict f K l d p Accepted = Nowhere (ParityDiffers f K l p) × Nowhere (DelimiterDiffers f K l d)
TailVerdict f K l d p (Rejected (cause.Parity n)) = Lowest (ParityDiffers f K l p) n
TailVerdict f K l d p (Rejected (cause.Delimiter n)) =
    Nowhere (ParityDiffers f K l p) × Lowest (DelimiterDiffers f K l d) n
TailVerdict f K l d p (Rejected (cause.Shortened n)) = ⊥
TailVerdict f K l d p (Rejected (cause.Check n m)) = ⊥

abbrev pub LineVerdict : Format → ℕ → List ℕ → ℕ → Verdict → Type 0
LineVerdict f K l d v = (p : List ℕ) × Parity f.code (reordered f (padded K (bit l))) p × TailVerdict f K l d p v
