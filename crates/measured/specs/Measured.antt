-- What the functions that the benchmark calls promise: the operation's promise, with its answer told by its number.
--
--   Complete f K w r w'      what measured_complete promises, of the fibre code by the lists that are lent
--   CoaxComplete k ..        what measured_complete_16200 and measured_complete_5940 promise, for each code k
--
-- No public operation promises these; nothing here is proved.
use Rattle.std.specs.Prelude.{List, ℕ}
use Rattle.rules.specs.Formats.{Format}
use Rattle.rules.specs.Promises.{Completed}
use Rattle.rules.specs.Coax.{CoaxCompleted}
use Rattle.rules.specs.declared.CoaxCode.{CoaxCode}
use Rattle.host.specs.Numbers.{Answered}

abbrev pub Complete : Format → ℕ → List ℕ → ℕ → List ℕ → Type 0
Complete f K w r w' = Answered (λ a. Completed f K w a w') r

abbrev pub CoaxComplete : CoaxCode → ℕ → List ℕ → ℕ → List ℕ → Type 0
CoaxComplete k K w r w' = Answered (λ a. CoaxCompleted k K w a w') r
