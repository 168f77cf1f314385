-- A test of any refusals, by the numbers that an order tells.
--
--   refuses_told     a test of the paper's refusals tells its refusal's number where it applies
--   refuses_number   a test of numbers, any at all, tells its number where that applies
use mathlib.Core.Path.{ap}
use mathlib.Core.Logic.{inl, inr, ⊎_elim}
use mathlib.Core.List.{[], ◌∷◌}
use Prim.Native.Nat.{ℕ}
use Rattle.std.specs.Prelude.{Result, ⊤}
use Rattle.rules.specs.Refusals.{refusal, tells}
use Rattle.rules.specs.Answers.{number, told}
use Rattle.rules.specs.declared.Refusal.{Refusal}
use Rattle.refusals.specs.Tests.{Refuses, told_number}

module _ {A : Type 0} where
  pub refuses_told : {why : Refusal} {r : Result ⊤ Refusal} → Refuses A why r
      → tells (refusal (number why) A ∷ []) (told r)
  refuses_told x = ⊎_elim (λ a. inl (a.0, ap told a.1)) (λ b. inr (b.0, ap told b.1)) x

  pub refuses_number : {n : ℕ} {r : Result ⊤ ℕ} → Refuses A n r → tells (refusal n A ∷ []) (told_number r)
  refuses_number x = ⊎_elim (λ a. inl (a.0, ap told_number a.1)) (λ b. inr (b.0, ap told_number b.1)) x
