-- The C boundary of the coax codes, over either code: the same as Host says of the fibre code's calls.
--
--   host_coax_encode_same, host_coax_check_same  two outcomes of one call are equal
--   host_coax_encode_zero                        0 exactly when written
--   host_coax_encode_refused                     any other number is a refusal, 1 to 65,535, and every byte is as it
--                                                was
--   host_coax_check_zero                         0 exactly when accepted, in the words of demand 2
--   host_coax_check_refused                      a number from 1 to 65,535 exactly when it is the refusal
--   host_coax_check_read                         what is read back from the number is the check's answer
use mathlib.Core.Path.{◌≡◌, sym, ap, ◌∙◌}
use mathlib.Core.List.{List}
use Prim.Native.Nat.{ℕ, ◌^◌, ◌<◌}
use lib.ListN.{length}
use Rattle.rules.specs.Bits.{Bytes}
use Rattle.rules.specs.Refusals.{tells}
use Rattle.rules.specs.Promises.{refusal_of}
use Rattle.rules.specs.Coax.{coax_format, coax_encode_order, CoaxEncoded, CoaxChecked}
use Rattle.rules.specs.Answers.{Done}
use Rattle.rules.specs.declared.CoaxCode.{CoaxCode}
use Rattle.rules.specs.Judgements.{Refused}
use Rattle.parity.proofs.CoaxSolved.{coax_one}
use Rattle.host.specs.Numbers.{number_of_judgement, read_back, HostCoaxEncoded, HostCoaxChecked}
use Rattle.host.proofs.Fits.{coax_check_fits}
use Rattle.theorems.specs.Exactly.{Exactly}
use Rattle.theorems.specs.Accepted.{GoodCoax}
use Rattle.theorems.proofs.Coax.{coax_encode_same, coax_check_same}
use Rattle.theorems.proofs.CoaxWords.{coax_accepted}
use Rattle.theorems.proofs.Host.{answered_zero, answered_refused, told}

module _ (k : CoaxCode) (K : ℕ) (u o : List ℕ) where
  pub host_coax_encode_same : (r s : ℕ) (o' o'' : List ℕ) → Bytes o' → Bytes o'' → HostCoaxEncoded k K u o r o'
      → HostCoaxEncoded k K u o s o'' → (r ≡ s) × (o' ≡ o'')
  host_coax_encode_same r s o' o'' b b' x y =
      let e = coax_encode_same k (coax_one k) K u o x.answer y.answer o' o'' b b' x.promised y.promised in
      (x.result ∙ ap refusal_of e.0 ∙ sym y.result, e.1)

  pub host_coax_encode_zero : (r : ℕ) (o' : List ℕ) → HostCoaxEncoded k K u o r o'
      → Exactly (r ≡ 0) (CoaxEncoded k K u o Done o')
  host_coax_encode_zero r o' x = answered_zero x

  pub host_coax_encode_refused : (r : ℕ) (o' : List ℕ) → HostCoaxEncoded k K u o r o' → (r ≡ 0 → ⊥)
      → tells (coax_encode_order (coax_format k) K u (length o)) r × (0 < r) × (r < 2 ^ 16) × (o' ≡ o)
  host_coax_encode_refused r o' x = answered_refused x tt

module _ (k : CoaxCode) (K : ℕ) (w : List ℕ) where
  pub host_coax_check_same : (r s : ℕ) → HostCoaxChecked k K w r → HostCoaxChecked k K w s → r ≡ s
  host_coax_check_same r s x y =
      let same = coax_check_same k K w x.judgement y.judgement x.checked y.checked in
      x.result ∙ ap number_of_judgement same ∙ sym y.result

  module _ (r : ℕ) (x : HostCoaxChecked k K w r) where
    check_told : CoaxChecked k K w (read_back r) × Exactly (r ≡ 0) (GoodCoax k K w)
        × Exactly ((0 < r) × (r < 2 ^ 16)) (CoaxChecked k K w (Refused r))
    check_told =
        told (CoaxChecked k K w) _ (coax_accepted k K w) (coax_check_fits k K w) r x.judgement x.checked
        x.result

    pub host_coax_check_read : CoaxChecked k K w (read_back r)
    host_coax_check_read = check_told.0

    pub host_coax_check_zero : Exactly (r ≡ 0) (GoodCoax k K w)
    host_coax_check_zero = check_told.1

    pub host_coax_check_refused : Exactly ((0 < r) × (r < 2 ^ 16)) (CoaxChecked k K w (Refused r))
    host_coax_check_refused = check_told.2
