-- Demand 2, paper 01, 'Verdicts', and W2 and W8 of paper 02: which full words and which line words are accepted.
--
--   GoodWord f K w      w is a full word with a payload of K bits: its shortened places are 0 and every check holds
--   GoodLine f K l d    l is a line word with a payload of K bits: some punctured bits complete it, and its delimiter
--                       is d
--   GoodCoax k K w      w is a word of the coax code k with a payload of K bits: its unused bits are 0 and every check
--                       holds
--
-- Believe this file beside the papers. FullWords, Lines and CoaxWords prove that these and no others are accepted.
use Rattle.std.specs.Prelude.{◌≡◌, List, ℕ, ◌≤◌, ◌<◌}
use Rattle.rules.specs.Bits.{bit}
use Rattle.rules.specs.Matrix.{places_of_payload, AllHold}
use Rattle.rules.specs.Formats.{Format}
use Rattle.rules.specs.Asked.{WordAsks, LineAsks}
use Rattle.rules.specs.Coax.{coax_code, coax_format, CoaxWordAsks}
use Rattle.rules.specs.declared.CoaxCode.{CoaxCode}
use Rattle.theorems.specs.Punctured.{Completes}

pub record GoodWord (f : Format) (K : ℕ) (w : List ℕ) : Type 0 where
  pub asked : WordAsks f K w
  pub shortened : (n : ℕ) → K ≤ f.first n → n < places_of_payload f.code → bit w n ≡ 0
  pub all_hold : AllHold f.code (bit w)

pub record GoodLine (f : Format) (K : ℕ) (l : List ℕ) (d : ℕ) : Type 0 where
  pub asked : LineAsks f K l d
  pub completed : (q : List ℕ) × Completes f K l d q

pub record GoodCoax (k : CoaxCode) (K : ℕ) (w : List ℕ) : Type 0 where
  pub asked : CoaxWordAsks (coax_format k) K w
  pub all_hold : AllHold (coax_code k) (bit w)
