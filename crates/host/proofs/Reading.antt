-- A check's answer can be read back from its number, so that no two answers share one.
--
--   read-back    what the number of an answer tells is that answer
--   apart        two answers with one number are one answer
use mathlib.Core.Path.{◌≡◌, refl, sym, ap, ◌∙◌}
use Prim.Native.Nat.{ℕ, ◌+◌, ◌*◌, ◌/◌, ◌%◌, ◌^◌, ◌≤◌, ◌<◌}
use native.Mathlib.Omega.{arith}
use borrow.Author.Tests.{ne_eqb, lt-ltb, le-ltb}
use Rattle.rules.specs.declared.Cause.{Cause}
use Rattle.rules.specs.declared.Cause.TheVariants.{Shortened, Check, Parity, Delimiter}
use Rattle.rules.specs.declared.Verdict.TheVariants.{Accepted, Rejected}
use Rattle.rules.specs.Judgements.{Judgement}
use Rattle.rules.specs.Judgements.{Judged, Refused}
use Rattle.host.specs.Numbers.{number_of_cause, number_of_judgement, CauseFits, JudgementFits, read_cause, read_back}

-- a number r with the cause c, the count m and the place n
module _ (r c m n : ℕ) (e : r ≡ c * 2 ^ 32 + m * 2 ^ 16 + n) (some : 0 < c) (hm : m < 2 ^ 16) (hn : n < 2 ^ 16) where
  pub cause_read : read_back r ≡ Judged (Rejected (read_cause c m n))
  cause_read =
      let big : 2 ^ 16 ≤ r = omega arith in
      let cause : r / 2 ^ 32 ≡ c = omega arith in
      let count : r / 2 ^ 16 % 2 ^ 16 ≡ m = omega arith in
      let place : r % 2 ^ 16 ≡ n = omega arith in
      rw (ne_eqb r 0 (λ z. omega arith), le-ltb r (2 ^ 16) big, cause, count, place)

read_cause_law : (c : Cause) → CauseFits c → read_back (number_of_cause c) ≡ Judged (Rejected c)
read_cause_law (Shortened n) h =
    cause_read (number_of_cause (Shortened n)) 1 0 n (omega arith) (omega arith) (omega arith) h
read_cause_law (Check n m) h = cause_read (number_of_cause (Check n m)) 2 m n refl (omega arith) h.1 h.0
read_cause_law (Parity n) h = cause_read (number_of_cause (Parity n)) 3 0 n (omega arith) (omega arith) (omega arith) h
read_cause_law (Delimiter n) h =
    cause_read (number_of_cause (Delimiter n)) 4 0 n (omega arith) (omega arith) (omega arith) h

pub read_back_law : (j : Judgement) → JudgementFits j → read_back (number_of_judgement j) ≡ j
read_back_law (Judged Accepted) h = refl
read_back_law (Judged (Rejected c)) h = read_cause_law c h
read_back_law (Refused n) h = rw (ne_eqb n 0 (λ z. omega (arith, h.0)), lt-ltb n (2 ^ 16) h.1)

pub apart : (i j : Judgement) → JudgementFits i → JudgementFits j → number_of_judgement i ≡ number_of_judgement j
    → i ≡ j
apart i j h k e = sym (read_back_law i h) ∙ ap read_back e ∙ read_back_law j k
