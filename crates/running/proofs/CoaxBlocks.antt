-- What the coax codes' numbers say to the running checks, for either code.
--
--   blocks_counted                       a usize counts the places of its blocks
--   piece_first, piece_last, piece_less  the blocks that the places from h on and below e touch
use mathlib.Core.Path.{◌≡◌}
use Prim.Native.Nat.{ℕ, suc, ◌+◌, ◌*◌, ◌/◌, ◌%◌, ◌^◌, ◌≤◌, ◌<◌}
use native.Mathlib.Decide.{dec_lt, ℕ_discrete}
use native.Mathlib.Nat.{mul-suc, mul-le-mul_left, div-add-mod, mod-lt}
use native.Mathlib.Omega.{arith}
use Rattle.std.specs.Int.{div_ceil}
use Rattle.rules.specs.Coax.{coax_size, coax_columns}
use Rattle.rules.specs.declared.CoaxCode.{CoaxCode}
use Rattle.rules.specs.declared.CoaxCode.TheVariants.{Long, Short}

pub blocks_counted : (k : CoaxCode) (e : ℕ) → e ≤ coax_columns k → coax_size k * e < 2 ^ 64
blocks_counted Long e h = omega arith
blocks_counted Short e h = omega arith

-- places from h on and below e, in blocks of z
module _ (z : ℕ) (some : 0 < z) where
  abbrev pub ends : ℕ → ℕ
  ends e = div_ceil e z

  pub piece_first : (h : ℕ) → z * (h / z) ≤ h
  piece_first h = omega (arith, div-add-mod h z)

  -- the last block ends at e or after it, and starts before it
  last : (e : ℕ) → (e ≤ z * ends e) × (z * ends e < e + z)
  last e = elim (ℕ_discrete (e % z) 0) [
    | yes h ↦
        let whole : ends e ≡ e / z = omega arith in
        rw whole (omega (arith, div-add-mod e z), omega (arith, div-add-mod e z))
    | no h ↦
        let more : ends e ≡ suc (e / z) = omega arith in
        rw (more, mul-suc)
        (omega (arith, div-add-mod e z, mod-lt e some), omega (arith, div-add-mod e z, mod-lt e some))
  ]

  pub piece_last : (e : ℕ) → e ≤ z * ends e
  piece_last e = (last e).0

  -- a block number is at most m where its block starts before block m ends
  within : (n m : ℕ) → z * n < z * m + z → n ≤ m
  within n m h = elim (dec_lt m n) [
    | yes l ↦ absurd (omega (arith, mul-le-mul_left z l, mul-suc z m))
    | no l ↦ omega arith
  ]

  pub piece_less : (h e : ℕ) → h ≤ e → h / z ≤ ends e
  piece_less h e l = within (h / z) (ends e) (omega (arith, piece_first h, piece_last e))
