-- Words that the theorems are said with.
--
--   Exactly A B      A holds where B does, and B where A does
--   Free o           no refusal of the order o applies
--   CheckAnswer j    j is what the full-word check or the line check of the fibre code, or the check of a coax code,
--                    answers to some input
--
-- Believe this file; nothing here is proved.
use Rattle.std.specs.Prelude.{◌⊎◌, List, [], ◌∷◌, ℕ}
use Rattle.rules.specs.Formats.{fibre_format}
use Rattle.rules.specs.Refusals.{Refusal}
use Rattle.rules.specs.Promises.{WordChecked, LineChecked}
use Rattle.rules.specs.Coax.{CoaxChecked}
use Rattle.rules.specs.declared.CoaxCode.{CoaxCode}
use Rattle.rules.specs.Judgements.{Judgement}

abbrev pub Exactly : Type 0 → Type 0 → Type 0
Exactly A B = (A → B) × (B → A)

abbrev pub Free : List Refusal → Type 0
Free [] = Unit
Free (t ∷ o) = (t.applies → ⊥) × Free o

abbrev pub CheckAnswer : Judgement → Type 0
CheckAnswer j =
    ((a : List ℕ) × (b : List ℕ) × (K : ℕ) × (w : List ℕ) × WordChecked (fibre_format a b) K w j)
    ⊎ (((a : List ℕ) × (b : List ℕ) × (K : ℕ) × (l : List ℕ) × (d : ℕ) × LineChecked (fibre_format a b) K l d j)
    ⊎ ((k : CoaxCode) × (K : ℕ) × (w : List ℕ) × CoaxChecked k K w j))
