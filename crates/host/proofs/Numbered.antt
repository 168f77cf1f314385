-- An answer of the paper's refusals, as the C host is told it.
--
--   numbered_answer   the number that a result is told by is that of its answer
--   numbered_any      a result that is refused by a number, any at all, is told by that number
use mathlib.Core.Path.{◌≡◌}
use Prim.Native.Nat.{ℕ}
use Rattle.std.specs.Prelude.{Result, Ok, Err, ⊤}
use Rattle.rules.specs.Answers.{number, answer}
use Rattle.rules.specs.Promises.{refusal_of}
use Rattle.rules.specs.declared.Refusal.{Refusal}
use Rattle.host.specs.Numbers.{NumberedBy}

pub numbered_answer : {r : ℕ} (x : Result ⊤ Refusal) → NumberedBy (λ why told. told ≡ number why) x r
    → r ≡ refusal_of (answer x)
numbered_answer (Ok x) e = e
numbered_answer (Err why) e = e

pub numbered_any : {n r : ℕ} → NumberedBy (λ x y. y ≡ x) (Err n) r → r ≡ n
numbered_any e = e
