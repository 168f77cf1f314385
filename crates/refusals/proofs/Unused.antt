-- The unused high bits of the bytes s that hold b bits: all of them are in the last byte.
--
--   unused_none     where s has no byte that b bits do not fill, none is unused
--   unused_found    a 1 that is found in the last byte from bit b mod 8 on is an unused bit
--   unused_clear    where none is found there, no unused bit is 1
use mathlib.Core.Path.{◌≡◌, sym, ◌∙◌}
use mathlib.Core.List.{List}
use Prim.Native.Nat.{ℕ, ◌+◌, ◌-◌, ◌*◌, ◌/◌, ◌%◌, ◌≤◌, ◌<◌}
use native.Mathlib.Decide.{dec_lt}
use native.Mathlib.Omega.{arith}
use lib.ListN.{length, take, drop}
use Rattle.rules.specs.Bits.{bit, need, UnusedSet}
use Rattle.laws.proofs.Bits.{bit_past, bit_part}
use Rattle.bits.specs.Searches.{FirstSet}

module _ (s : List ℕ) (b : ℕ) (l : length s ≡ need b) where
  pub unused_none : length s ≤ b / 8 → UnusedSet s b → ⊥
  unused_none e u = omega (arith, bit_past s u.0 (omega arith), u.2)

  -- the part of s that is its last byte
  abbrev end : List ℕ
  end = take (b / 8 + 1 - b / 8) (drop (b / 8) s)

  module _ {p : ℕ} (some : b / 8 < length s) (f : FirstSet end (b % 8) 8 p) where
    last : (t : ℕ) → t < 8 → bit end t ≡ bit s (8 * (b / 8) + t)
    last t h = bit_part s (b / 8) (b / 8 + 1 - b / 8) t (omega arith)

    pub unused_found : p < 8 → UnusedSet s b
    unused_found h = (8 * (b / 8) + p, omega (arith, f.low), sym (last p h) ∙ f.set h)

    pub unused_clear : 8 ≤ p → UnusedSet s b → ⊥
    unused_clear h u = elim (dec_lt u.0 (8 * length s)) [
      | yes k ↦
          let t : ℕ = u.0 - 8 * (b / 8) in
          let e : 8 * (b / 8) + t ≡ u.0 = omega arith in
          omega (arith, rw e at (sym (last t (omega arith)) ∙ f.clear t (omega arith) (omega arith)), u.2)
      | no k ↦ omega (arith, bit_past s u.0 (omega arith), u.2)
    ]
