-- A recipe as the code follows it: registers of z bits, one after another, and a step as one number with three parts.
-- For the contracts of inner functions: no public promise cites this file.
--
--   target e, source e, turn e  the parts of the step e: in hexadecimal 0x18_02_c6 is target 18, source 02, turn c6;
--                               of a longer turn the digits above its last two stand before all others
--   stepped z e x               the registers' bits x after the step e: the source, turned, is added to the target
--   followed z es x             after the steps es, one after another
--   StepFits z b e              the target and the source end at or before bit b, and the turn is below z
--   Followed z es s t           the bits of t are those of s after the steps es
--
-- Nothing here is proved.
use Rattle.std.specs.Prelude.{◌≡◌, List, [], ◌∷◌, ℕ, ◌+◌, ◌*◌, ◌/◌, ◌%◌, ◌≤◌, ◌<◌, length}
use Rattle.rules.specs.Bits.{bit, placed}

abbrev pub target : ℕ → ℕ
target e = e / 65536 % 256

abbrev pub source : ℕ → ℕ
source e = e / 256 % 256

abbrev pub turn : ℕ → ℕ
turn e = e % 256 + 256 * (e / 16777216)

unfoldable pub stepped : ℕ → ℕ → (ℕ → ℕ) → ℕ → ℕ
stepped z e x n = (x n + placed (z * target e) z (λ t. x (z * source e + (t + turn e) % z)) n) % 2

unfoldable pub followed : ℕ → List ℕ → (ℕ → ℕ) → ℕ → ℕ
followed z [] x = x
followed z (e ∷ es) x = followed z es (stepped z e x)

pub record StepFits (z b e : ℕ) : Type 0 where
  pub target_fits : z * target e + z ≤ b
  pub source_fits : z * source e + z ≤ b
  pub turn_below : turn e < z

pub record Followed (z : ℕ) (es s t : List ℕ) : Type 0 where
  pub length_same : length t ≡ length s
  pub each : (n : ℕ) → bit t n ≡ followed z es (bit s) n
