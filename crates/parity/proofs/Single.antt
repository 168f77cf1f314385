-- Paper 01, 'From payload to line word', step 3, for the fibre code: for any payload there is one parity that makes
-- every check hold, and only one. The laws are those of laws/Parities, for any code of which OneParity is shown.
--
--   fibre_one           for any checks one parity has them as its own, and only one
--   parity_exists       for any checks there is a parity that has them as its own
--   own_bits_one        its bits are single
--   parity_one          and so are its bytes
--   payload_exists      for any payload there is a parity that makes every check hold
--   parity_bits_one     its bits are single
--   payload_one         and so are its bytes
use mathlib.Core.Path.{◌≡◌}
use mathlib.Core.List.{List}
use Prim.Native.Nat.{ℕ, ◌<◌}
use Rattle.rules.specs.Bits.{bit, Bytes}
use Rattle.rules.specs.Matrix.{checks}
use Rattle.rules.specs.Table.{fibre}
use Rattle.rules.specs.Words.{Parity, OwnChecks}
use Rattle.laws.proofs.Parities as parities
use Rattle.recipes.proofs.Parity.{solves_one}
use Rattle.parity.proofs.Solved.{fibre_solves}

pub fibre_one : parities.OneParity fibre
fibre_one = solves_one fibre_solves

pub parity_exists : (s : List ℕ) → (p : List ℕ) × Bytes p × OwnChecks fibre s p
parity_exists = fibre_one.own_exists

pub own_bits_one : (s p q : List ℕ) → OwnChecks fibre s p → OwnChecks fibre s q → (n : ℕ) → n < checks fibre
    → bit p n ≡ bit q n
own_bits_one = fibre_one.own_bits_one

pub parity_one : (s p q : List ℕ) → Bytes p → Bytes q → OwnChecks fibre s p → OwnChecks fibre s q → p ≡ q
parity_one = parities.parity_one fibre fibre_one

pub payload_exists : (x : ℕ → ℕ) → (p : List ℕ) × Bytes p × Parity fibre x p
payload_exists = parities.payload_exists fibre fibre_one

module _ (x : ℕ → ℕ) (p q : List ℕ) where
  pub parity_bits_one : Parity fibre x p → Parity fibre x q → (n : ℕ) → bit p n ≡ bit q n
  parity_bits_one = parities.parity_bits_one fibre fibre_one x p q

  pub payload_one : Bytes p → Bytes q → Parity fibre x p → Parity fibre x q → p ≡ q
  payload_one = parities.payload_one fibre fibre_one x p q
