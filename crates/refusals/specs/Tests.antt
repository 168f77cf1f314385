-- What a test answers, whatever its refusals are: the paper's, numbers, or others.
--
--   Refuses A e r   the result r is the refusal e where A holds, and none where it does not
--   told_number r   the number that the result r tells, where its refusals are numbers; 0 where it is none
--
-- Nothing here is proved.
use Rattle.std.specs.Prelude.{◌≡◌, ◌⊎◌, ℕ, Result, Ok, Err, ⊤}

abbrev pub Refuses : {E : Type 0} → Type 0 → E → Result ⊤ E → Type 0
Refuses A e r = (A × (r ≡ Err e)) ⊎ ((A → ⊥) × (r ≡ Ok tt))

abbrev pub told_number : Result ⊤ ℕ → ℕ
told_number (Ok x) = 0
told_number (Err n) = n
