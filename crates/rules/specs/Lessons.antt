-- Paper 01, 'Lesson sheet', with the payload counts of W4 and the failing rows of W3 of paper 02.
-- The ten lessons marked P, in one table, and what it is for a lesson to be right. Those of the coax codes, of W8.
--
--   place p ns      a lesson: the inner place p is in the checks ns
--   word w K v      a lesson: the full word w with payload count K has the verdict v
--   Right f l       what the lesson l claims of the code, by the definitions
--   AllRight f ls   the single claim: each lesson of a list is right
--   lessons         the ten, of the fibre code
--   coax_lessons k  those of the coax code k: its first place, its last one, its first parity place, and two words
--
-- Believe this file beside the paper. LessonLaws proves AllRight of each.
use Rattle.std.specs.Prelude.{◌≡◌, List, [], ◌∷◌, ℕ}
use Rattle.rules.specs.Bits.{zeros, only}
use Rattle.rules.specs.Matrix.{checks_of}
use Rattle.rules.specs.Formats.{Format}
use Rattle.rules.specs.Verdicts.{WordVerdict}
use Rattle.rules.specs.declared.CoaxCode.{CoaxCode}
use Rattle.rules.specs.declared.CoaxCode.TheVariants.{Long, Short}
use Rattle.rules.specs.declared.Cause.TheVariants.{Shortened, Check}
use Rattle.rules.specs.declared.Verdict.{Verdict}
use Rattle.rules.specs.declared.Verdict.TheVariants.{Accepted, Rejected}

pub data Lesson : Type 0 where
  place : ℕ → List ℕ → Lesson
  word : (ℕ → ℕ) → ℕ → Verdict → Lesson

abbrev pub Right : Format → Lesson → Type 0
Right f (place p ns) = checks_of f.code p ≡ ns
Right f (word w K v) = WordVerdict f K w v

abbrev pub AllRight : Format → List Lesson → Type 0
AllRight f [] = Unit
AllRight f (l ∷ ls) = Right f l × AllRight f ls

abbrev pub lessons : List Lesson
lessons =
    place 0 (176 ∷ 919 ∷ 1655 ∷ 2304 ∷ 2607 ∷ 3019 ∷ []) ∷
    place 255 (175 ∷ 918 ∷ 1654 ∷ 2559 ∷ 2606 ∷ 3018 ∷ []) ∷
    place 256 (256 ∷ 677 ∷ 1110 ∷ 1490 ∷ 1930 ∷ 2096 ∷ []) ∷
    place 14391 (311 ∷ 1214 ∷ 2677 ∷ []) ∷
    place 14592 (551 ∷ 1024 ∷ 1633 ∷ []) ∷
    word zeros 257 Accepted ∷
    word (only 0) 257 (Rejected (Check 176 6)) ∷
    word (only 257) 257 (Rejected (Shortened 257)) ∷
    word (only 14392) 14392 (Rejected (Shortened 14392)) ∷
    word (only 14592) 257 (Rejected (Check 551 3)) ∷
    []

abbrev pub coax_lessons : CoaxCode → List Lesson
coax_lessons Long =
    place 0 (267 ∷ 446 ∷ 946 ∷ 1547 ∷ []) ∷
    place 16199 (1799 ∷ []) ∷
    place 14400 (217 ∷ 614 ∷ []) ∷
    word zeros 14400 Accepted ∷
    word (only 0) 14400 (Rejected (Check 267 4)) ∷
    []
coax_lessons Short =
    place 0 (38 ∷ 306 ∷ 477 ∷ 692 ∷ 848 ∷ []) ∷
    place 5939 (880 ∷ []) ∷
    place 5040 (158 ∷ 259 ∷ []) ∷
    word zeros 5040 Accepted ∷
    word (only 0) 5040 (Rejected (Check 38 5)) ∷
    []
