-- The program says `accepted`, and ends with exit status 0, exactly where a word is good, by the pair v of lists that
-- it was lent.
--
--   word_said      of a full word: the line
--   word_status    of a full word: the exit status
--   line_said      of a line word: the line
--   line_status    of a line word: the exit status
--   coax_said      of a coax word: the line
--   coax_status    of a coax word: the exit status
use mathlib.Core.Path.{◌≡◌, refl, sym, ap, subst, ◌∙◌}
use mathlib.Core.List.{List}
use Prim.Native.Nat.{ℕ}
use Rattle.rules.specs.Promises.{WordChecked, LineChecked}
use Rattle.rules.specs.Coax.{CoaxChecked}
use Rattle.rules.specs.declared.CoaxCode.{CoaxCode}
use Rattle.rules.specs.declared.Verdict.TheVariants.{Accepted}
use Rattle.rules.specs.declared.Verdict.{Verdict}
use Rattle.rules.specs.declared.Refusal.{Refusal}
use Rattle.rules.specs.Judgements.{Judgement, Judged, judgement}
use Rattle.std.specs.Prelude.{Result, Ok}
use Rattle.laws.proofs.Results.{judgement_single}
use Rattle.parity.proofs.Single.{fibre_one}
use Rattle.theorems.specs.Exactly.{Exactly}
use Rattle.theorems.specs.Accepted.{GoodWord, GoodLine, GoodCoax}
use Rattle.theorems.proofs.FullWords.{word_accepted}
use Rattle.theorems.proofs.Lines.{line_accepted}
use Rattle.theorems.proofs.CoaxWords.{coax_accepted}
use Rattle.theorems.proofs.Fibre.{fibre_sized}
use Rattle.lines.specs.Texts.{text}
use Rattle.answers.specs.Answers.{line_of, status_of, Says}
use Rattle.answers.specs.declared.Said.{Said}
use Rattle.answers.specs.declared.Said.TheVariants as said
use Rattle.codes.specs.Codes.{first_in, second_in, fibre_in}
use Rattle.answers.proofs.Same.{accepted_alone, accepted_status}

-- Seen s: what is seen of an answer, which of judgements is seen of the accepted one alone
shown : (P : Judgement → Type 0) (Good : Type 0) (Seen : Said → Type 0)
    → ((j : Judgement) → P j → Exactly (j ≡ Judged Accepted) Good)
    → ((x : Result Verdict Refusal) → Seen (said.Judged x) → judgement x ≡ Judged Accepted)
    → Seen (said.Judged (Ok Accepted)) → (s : Said) → Says P s → Exactly (Seen s) Good
shown P Good Seen judged alone accepted s h =
    let fits = judged (judgement h.0) h.1 in (
      λ seen. fits.0 (alone h.0 (subst Seen h.2 seen)),
      λ good.
          let only = judgement_single h.0 (Ok Accepted) (fits.1 good) in
          subst Seen (sym (h.2 ∙ ap said.Judged only)) accepted,
    )

module _ (v : List ℕ) (K : ℕ) where
  pub word_said : (w : List ℕ) (s : Said) → Says (WordChecked (fibre_in v) K w) s
      → Exactly (line_of s ≡ text "accepted\n") (GoodWord (fibre_in v) K w)
  word_said w =
      shown (WordChecked (fibre_in v) K w) (GoodWord (fibre_in v) K w) (λ s. line_of s ≡ text "accepted\n")
      (word_accepted (fibre_in v) K w) (λ x. accepted_alone (judgement x)) refl

  pub word_status : (w : List ℕ) (s : Said) → Says (WordChecked (fibre_in v) K w) s
      → Exactly (status_of s ≡ 0) (GoodWord (fibre_in v) K w)
  word_status w =
      shown (WordChecked (fibre_in v) K w) (GoodWord (fibre_in v) K w) (λ s. status_of s ≡ 0)
      (word_accepted (fibre_in v) K w) (λ x. accepted_status (judgement x)) refl

  pub line_said : (l : List ℕ) (d : ℕ) (s : Said) → Says (LineChecked (fibre_in v) K l d) s
      → Exactly (line_of s ≡ text "accepted\n") (GoodLine (fibre_in v) K l d)
  line_said l d =
      shown (LineChecked (fibre_in v) K l d) (GoodLine (fibre_in v) K l d) (λ s. line_of s ≡ text "accepted\n")
      (line_accepted (fibre_in v) fibre_one (fibre_sized (first_in v) (second_in v)) K l d)
      (λ x. accepted_alone (judgement x)) refl

  pub line_status : (l : List ℕ) (d : ℕ) (s : Said) → Says (LineChecked (fibre_in v) K l d) s
      → Exactly (status_of s ≡ 0) (GoodLine (fibre_in v) K l d)
  line_status l d =
      shown (LineChecked (fibre_in v) K l d) (GoodLine (fibre_in v) K l d) (λ s. status_of s ≡ 0)
      (line_accepted (fibre_in v) fibre_one (fibre_sized (first_in v) (second_in v)) K l d)
      (λ x. accepted_status (judgement x)) refl

pub coax_said : (k : CoaxCode) (K : ℕ) (w : List ℕ) (s : Said) → Says (CoaxChecked k K w) s
    → Exactly (line_of s ≡ text "accepted\n") (GoodCoax k K w)
coax_said k K w =
    shown (CoaxChecked k K w) (GoodCoax k K w) (λ s. line_of s ≡ text "accepted\n")
    (coax_accepted k K w) (λ x. accepted_alone (judgement x)) refl

pub coax_status : (k : CoaxCode) (K : ℕ) (w : List ℕ) (s : Said) → Says (CoaxChecked k K w) s
    → Exactly (status_of s ≡ 0) (GoodCoax k K w)
coax_status k K w =
    shown (CoaxChecked k K w) (GoodCoax k K w) (λ s. status_of s ≡ 0)
    (coax_accepted k K w) (λ x. accepted_status (judgement x)) refl
