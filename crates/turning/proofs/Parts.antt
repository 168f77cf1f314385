-- Turned blocks added: parts of bytes, and two runs.
--
--   part_turned    part j of w, turned by a and added to part i of s, is added at the places of part i
--   part_within    so it is where both are parts of the same bytes: what holds of any block
--   turned_runs    a turned block is two runs
use mathlib.Core.Path.{◌≡◌, sym, ap, ◌∙◌}
use mathlib.Core.List.{List}
use Prim.Native.Nat.{ℕ, ◌+◌, ◌-◌, ◌*◌, ◌%◌, ◌≤◌, ◌<◌}
use native.Mathlib.Nat.{mod-eq_of_lt, add-mod_left}
use native.Mathlib.Omega.{arith}
use lib.ListN.{length, take, drop}
use Rattle.rules.specs.Bits.{bit, zeros, run, placed, Adds}
use Rattle.laws.proofs.Bits.{mid, bit_part, bit_drop}
use Rattle.laws.proofs.Runs.{run_low, placed_join, placed_same}
use Rattle.laws.proofs.Adds.{adds_as, adds_mid}
use Rattle.turning.specs.Turning.{turned, part_bits, part_bytes}

-- bits at the places of part i that are those of part j, turned by a
module _ (w : List ℕ) (i j a : ℕ) (f : ℕ → ℕ) where
  placed_part : ((t : ℕ) → t < part_bits → f t ≡ bit w (8 * (part_bytes * j) + (t + a) % part_bits)) → (n : ℕ)
      → placed (8 * (part_bytes * i)) part_bits f n
      ≡ placed (part_bits * i) part_bits (λ t. bit w (part_bits * j + (t + a) % part_bits)) n
  placed_part same n =
      let e : 8 * (part_bytes * i) ≡ part_bits * i = omega arith in
      rw e (placed_same (part_bits * i) part_bits f _ (λ t h. same t h ∙ ap (bit w) (omega arith)) n)

pub part_turned : (s w p : List ℕ) (i j a : ℕ) → part_bytes * i + part_bytes ≤ length s
    → Adds (take part_bytes (drop (part_bytes * i) s)) p
    (run part_bits (turned part_bits (take part_bytes (drop (part_bytes * j) w)) a) zeros)
    → Adds s (mid (part_bytes * i) part_bytes s p)
    (placed (part_bits * i) part_bits (λ t. bit w (part_bits * j + (t + a) % part_bits)))
part_turned s w p i j a fits q =
    adds_as
    (placed_part w i j a _ (λ t h.
    run_low part_bits _ zeros t h ∙ bit_part w (part_bytes * j) part_bytes ((t + a) % part_bits) (omega arith)))
    (adds_mid s p (part_bytes * i) part_bytes _ fits q)

pub part_within : (s t : List ℕ) (i j a : ℕ)
    → Adds s t (placed (8 * (part_bytes * i)) part_bits (turned part_bits (drop (part_bytes * j) s) a))
    → Adds s t (placed (part_bits * i) part_bits (λ k. bit s (part_bits * j + (k + a) % part_bits)))
part_within s t i j a = adds_as (placed_part s i j a _ (λ k h. bit_drop s (part_bytes * j) ((k + a) % part_bits)))

pub turned_runs : (x : ℕ → ℕ) (h z a : ℕ) → a < z → (n : ℕ)
    → placed h (z - a) (λ t. x (a + t)) n + placed (h + (z - a)) a x n ≡ placed h z (λ t. x ((t + a) % z)) n
turned_runs x h z a l n =
    let e : z - a + a ≡ z = omega arith in
    sym
    (ap (λ (b : ℕ). placed h b (λ t. x ((t + a) % z)) n) (sym e)
    ∙ placed_join h (z - a) a (λ t. x ((t + a) % z)) n
    ∙ rw (
      placed_same h (z - a) (λ t. x ((t + a) % z)) (λ t. x (a + t))
          (λ t k. ap x (mod-eq_of_lt (omega arith) ∙ omega arith)) n,
      placed_same (h + (z - a)) a (λ t. x ((z - a + t + a) % z)) x
          (λ t k.
          let s : z - a + t + a ≡ z + t = omega arith in
          ap x (rw s (add-mod_left z t ∙ mod-eq_of_lt (omega arith)))) n,
    ))
