-- The C boundary of the fibre code: two outcomes that fit one promise are equal, 0 is told exactly when written or
-- accepted, a refusal is 1 to 65,535, and a check's answer can be read back from its number.
--
--   answered_zero, answered_refused                   0 exactly when done; any other number is a refusal, and what it
--                                                     leaves
--   told                                              what the number of a check's answer tells, of any check
--   host_encode_same, host_word_same, host_line_same  two outcomes of one call are equal
--   host_encode_zero                                  0 exactly when written
--   host_word_zero, host_line_zero                    0 exactly when accepted, in the words of demand 2
--   host_encode_refused                               any other number is a refusal, 1 to 65,535, and every byte is as
--                                                     it was
--   host_word_refused, host_line_refused              a number from 1 to 65,535 exactly when it is the refusal
--   host_word_read, host_line_read                    what is read back from the number is the check's answer
--   answers_apart                                     no two answers of the checks share a number
use mathlib.Core.Path.{◌≡◌, sym, ap, subst, ◌∙◌}
use mathlib.Core.Logic.{⊎_elim}
use mathlib.Core.List.{List}
use Prim.Native.Nat.{ℕ, ◌^◌, ◌<◌}
use native.Mathlib.Omega.{arith}
use lib.Dec.{T, ltb}
use lib.ListN.{length}
use borrow.Author.Tests.{ne_eqb, lt-ltb}
use Rattle.rules.specs.Bits.{Bytes}
use Rattle.rules.specs.Formats.{fibre_format}
use Rattle.rules.specs.Refusals.{Refusal, tells, encode_order}
use Rattle.rules.specs.Promises.{refusal_of, Promise, Encoded, WordChecked, LineChecked}
use Rattle.rules.specs.Answers.{Answer}
use Rattle.rules.specs.Answers.{Done}
use Rattle.rules.specs.declared.Verdict.TheVariants.{Accepted}
use Rattle.rules.specs.Judgements.{Judgement}
use Rattle.rules.specs.Judgements.{Judged, Refused}
use Rattle.laws.proofs.Told.{numbers_pass, told_single}
use Rattle.parity.proofs.Single.{fibre_one}
use Rattle.host.specs.Numbers.{number_of_judgement, JudgementFits, read_back, Answered, HostEncoded, HostWord, HostLine}
use Rattle.host.proofs.Fits.{told_short, word_fits, line_fits, coax_check_fits}
use Rattle.host.proofs.Reading.{read_back_law, apart}
use Rattle.theorems.specs.Exactly.{Exactly, CheckAnswer}
use Rattle.theorems.specs.Accepted.{GoodWord, GoodLine}
use Rattle.theorems.proofs.Same.{encode_same, word_check_same, line_check_same}
use Rattle.theorems.proofs.Refusing.{none_done, kept_part}
use Rattle.theorems.proofs.FullWords.{word_accepted}
use Rattle.theorems.proofs.Lines.{line_accepted}
use Rattle.theorems.proofs.Fibre.{fibre_sized}

-- r is the number of an answer by the order q
module _ {q : List Refusal} {A B : Type 0} {r : ℕ} (x : Answered (λ a. Promise q a A B) r) where
  pub answered_zero : Exactly (r ≡ 0) (Promise q Done A B)
  answered_zero = (
    λ e.
        let done = none_done x.answer (sym x.result ∙ e) x.promised in
        subst (λ (a : Answer). Promise q a A B) done x.promised,
    λ w. x.result ∙ told_single q (refusal_of x.answer) 0 x.promised.told w.told,
  )

  pub answered_refused : T (numbers_pass (λ n. ltb n (2 ^ 16)) q) → (r ≡ 0 → ⊥) → tells q r × (0 < r) × (r < 2 ^ 16) × B
  answered_refused short n =
      let t : tells q r = rw x.result x.promised.told in
      let kept = kept_part x.answer (λ e. n (x.result ∙ ap refusal_of e)) x.promised in
      (t, omega arith, told_short q short r t, kept)

module _ (a b : List ℕ) (K : ℕ) (u : List ℕ) (d : ℕ) (o : List ℕ) where
  pub host_encode_same : (r s : ℕ) (o' o'' : List ℕ) → Bytes o' → Bytes o'' → HostEncoded a b K u d o r o'
      → HostEncoded a b K u d o s o'' → (r ≡ s) × (o' ≡ o'')
  host_encode_same r s o' o'' h h' x y =
      let same = encode_same (fibre_format a b) fibre_one K u d o x.answer y.answer in
      let e = same o' o'' h h' x.promised y.promised in
      (x.result ∙ ap refusal_of e.0 ∙ sym y.result, e.1)

  pub host_encode_zero : (r : ℕ) (o' : List ℕ) → HostEncoded a b K u d o r o'
      → Exactly (r ≡ 0) (Encoded (fibre_format a b) K u d o Done o')
  host_encode_zero r o' x = answered_zero x

  pub host_encode_refused : (r : ℕ) (o' : List ℕ) → HostEncoded a b K u d o r o' → (r ≡ 0 → ⊥)
      → tells (encode_order (fibre_format a b) K u d (length o)) r × (0 < r) × (r < 2 ^ 16) × (o' ≡ o)
  host_encode_refused r o' x = answered_refused x tt

-- P says what a check may answer to an input, and G when it accepts that input; r is the number of an answer j
module _ (P : Judgement → Type 0) (G : Type 0) (accepted : (j : Judgement) → P j → Exactly (j ≡ Judged Accepted) G)
    (fits : (j : Judgement) → P j → JudgementFits j) where
  pub told : (r : ℕ) (j : Judgement) → P j → r ≡ number_of_judgement j
      → P (read_back r) × Exactly (r ≡ 0) G × Exactly ((0 < r) × (r < 2 ^ 16)) (P (Refused r))
  told r j p e = (read, zero, short)
    where
      read : P (read_back r)
      read = subst P (sym (ap read_back e ∙ read_back_law j (fits j p))) p

      zero : Exactly (r ≡ 0) G
      zero = (
        λ z. (accepted j p).0 (apart j (Judged Accepted) (fits j p) tt (sym e ∙ z)),
        λ g. e ∙ ap number_of_judgement ((accepted j p).1 g),
      )

      short : Exactly ((0 < r) × (r < 2 ^ 16)) (P (Refused r))
      short = (
        λ h. subst P (rw (ne_eqb r 0 (λ z. omega (arith, h.0)), lt-ltb r (2 ^ 16) h.1)) read,
        λ q. fits (Refused r) q,
      )

module _ (a b : List ℕ) (K : ℕ) (w : List ℕ) where
  pub host_word_same : (r s : ℕ) → HostWord a b K w r → HostWord a b K w s → r ≡ s
  host_word_same r s x y =
      let same = word_check_same (fibre_format a b) K w x.judgement y.judgement x.checked y.checked in
      x.result ∙ ap number_of_judgement same ∙ sym y.result

  module _ (r : ℕ) (x : HostWord a b K w r) where
    word_told : WordChecked (fibre_format a b) K w (read_back r) × Exactly (r ≡ 0) (GoodWord (fibre_format a b) K w)
        × Exactly ((0 < r) × (r < 2 ^ 16)) (WordChecked (fibre_format a b) K w (Refused r))
    word_told =
        told (WordChecked (fibre_format a b) K w) _ (word_accepted (fibre_format a b) K w) (word_fits a b K w) r
        x.judgement x.checked x.result

    pub host_word_read : WordChecked (fibre_format a b) K w (read_back r)
    host_word_read = word_told.0

    pub host_word_zero : Exactly (r ≡ 0) (GoodWord (fibre_format a b) K w)
    host_word_zero = word_told.1

    pub host_word_refused : Exactly ((0 < r) × (r < 2 ^ 16)) (WordChecked (fibre_format a b) K w (Refused r))
    host_word_refused = word_told.2

module _ (a b : List ℕ) (K : ℕ) (l : List ℕ) (d : ℕ) where
  pub host_line_same : (r s : ℕ) → HostLine a b K l d r → HostLine a b K l d s → r ≡ s
  host_line_same r s x y =
      let same = line_check_same (fibre_format a b) fibre_one K l d x.judgement y.judgement in
      x.result ∙ ap number_of_judgement (same x.checked y.checked) ∙ sym y.result

  module _ (r : ℕ) (x : HostLine a b K l d r) where
    line_told : LineChecked (fibre_format a b) K l d (read_back r) × Exactly (r ≡ 0) (GoodLine (fibre_format a b) K l d)
        × Exactly ((0 < r) × (r < 2 ^ 16)) (LineChecked (fibre_format a b) K l d (Refused r))
    line_told =
        told (LineChecked (fibre_format a b) K l d) _
        (line_accepted (fibre_format a b) fibre_one (fibre_sized a b) K l d)
        (line_fits a b K l d) r x.judgement x.checked x.result

    pub host_line_read : LineChecked (fibre_format a b) K l d (read_back r)
    host_line_read = line_told.0

    pub host_line_zero : Exactly (r ≡ 0) (GoodLine (fibre_format a b) K l d)
    host_line_zero = line_told.1

    pub host_line_refused : Exactly ((0 < r) × (r < 2 ^ 16)) (LineChecked (fibre_format a b) K l d (Refused r))
    host_line_refused = line_told.2

answer_fits : (j : Judgement) → CheckAnswer j → JudgementFits j
answer_fits j a =
    ⊎_elim (λ x. word_fits x.0 x.1 x.2 x.3 j x.4)
    (λ b.
    ⊎_elim (λ x. line_fits x.0 x.1 x.2 x.3 x.4 j x.5)
    (λ x. coax_check_fits x.0 x.1 x.2 j x.3) b) a

pub answers_apart : (i j : Judgement) → CheckAnswer i → CheckAnswer j
    → number_of_judgement i ≡ number_of_judgement j → i ≡ j
answers_apart i j a b e = apart i j (answer_fits i a) (answer_fits j b) e
