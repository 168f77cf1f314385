-- Laws of blocks of a word that reach the running checks, over any code.
--
--   has_fewer      bytes that have blocks, and others as long, have fewer of them
--   spot_none      a zero block takes nothing
--   line_more      one more entry of a line
--   through_past   a line adds nothing to a check past its last entry
--   line_all       all entries of a line: what it adds to every check
--   line_added     that is what the checks of the block alone are
--   blocks_none    no blocks add nothing
--   blocks_join    blocks and those after them
--   first_blocks   blocks 0 to e - 1 of a word are its first places, and nothing after them
--   blocks_piece   where b bits of p were added at h to a word of zeros, the blocks that have these places are those
--                  bits
use mathlib.Core.Path.{◌≡◌, refl, sym, ap, ◌∙◌}
use mathlib.Core.List.{List}
use Prim.Native.Nat.{ℕ, ◌+◌, ◌-◌, ◌*◌, ◌/◌, ◌%◌, ◌≤◌, ◌<◌}
use native.Mathlib.Decide.{dec_lt}
use native.Mathlib.Nat.{mul-add, mul-suc, mul-zero, mul-one, mul-le-mul_left, zero-add, div-add-mod, mod-lt}
use native.Mathlib.Omega.{arith}
use lib.IntN.{ℤ, negsuc}
use lib.ListN.{length, get_or, replicate, get_or-eq_default}
use Rattle.rules.specs.Bits.{bit, zeros, run, placed, Adds}
use Rattle.rules.specs.Matrix.{Code, check}
use Rattle.rules.specs.Terms.{spot, through, term}
use Rattle.rules.proofs.Checks.{block_of, local_of}
use Rattle.laws.proofs.Bits.{bit<, bit_zeros}
use Rattle.laws.proofs.Runs.{run_each, run_none, run_join, placed_below, placed_above}
use Rattle.laws.proofs.Runs.{placed_each, placed_bits, placed_none, placed_same, placed_whole}
use Rattle.laws.proofs.Adds.{adds_then, adds_as, adds_mod}
use Rattle.laws.proofs.Columns.{check_column}
use Rattle.laws.proofs.Running.{checks_as, checks_none, checks_join}
use Rattle.running.specs.Running.{HasBlocks, blocks_of}

next : (z m : ℕ) → z * (m + 1) ≡ z * m + z
next z m = mul-add z m 1 ∙ ap (λ (n : ℕ). z * m + n) (mul-one z)

pub has_fewer : {z m k : ℕ} {s t : List ℕ} → k ≤ m → length t ≡ length s → HasBlocks z m s → HasBlocks z k t
has_fewer {z} h e b =
    let l = mul-le-mul_left z h in
    record { bits = omega (arith, b.bits); counted = omega (arith, b.counted) }

module _ (z i j : ℕ) (w : List ℕ) where
  pub spot_none : {a : ℤ} {m : ℕ} → a ≡ negsuc m → (n : ℕ) → placed (z * i) z (spot z a (λ t. bit w (z * j + t))) n ≡ 0
  spot_none e n = placed_each (z * i) z _ n (λ v. v ≡ 0) (λ l. refl) (λ l k. rw e) (λ l. refl)

-- the line l, and the bits x of its block
module _ (z : ℕ) (some : 0 < z) (l : List ℤ) (x : ℕ → ℕ) where
  row_of : (i r : ℕ) → r < z → through z l x (z * i + r) ≡ spot z (get_or l i (negsuc 0)) x r
  unfolding through
  row_of i r h = rw (block_of z i r h, local_of z i r h)

  pub line_more : {s t u : List ℕ} (i : ℕ) → Adds s t (run (z * i) (through z l x) zeros)
      → Adds t u (placed (z * i) z (spot z (get_or l i (negsuc 0)) x))
      → Adds s u (run (z * (i + 1)) (through z l x) zeros)
  line_more i p q =
      rw (next z i)
      (adds_as (λ n. omega (arith, run_join (z * i) z (through z l x) n, placed_same (z * i) z _ _ (row_of i) n))
      (adds_then p q))

  pub through_past : (n : ℕ) → z * length l ≤ n → through z l x n ≡ 0
  unfolding through
  through_past n h = elim (dec_lt (n / z) (length l)) [
    | yes b ↦ absurd (omega (arith, mul-le-mul_left z b, mul-suc z (n / z), div-add-mod n z, mod-lt n some))
    | no b ↦ rw (get_or-eq_default l (negsuc 0) {n = n / z} (omega arith))
  ]

  pub line_all : {s t : List ℕ} → Adds s t (run (z * length l) (through z l x) zeros) → Adds s t (through z l x)
  line_all a =
      adds_as (λ n. run_each (z * length l) (through z l x) zeros n (λ v. v ≡ through z l x n) (λ h. refl)
      (λ h. sym (through_past n h))) a

module _ (c : Code) (some : 0 < c.size) where
  pub line_added : (w : List ℕ) (j : ℕ) {s t : List ℕ} → j < c.columns → Adds s t (λ n. term c n (bit w) j)
      → Adds s t (λ n. check c n (blocks_of c.size w j (j + 1)))
  line_added w j h a =
      adds_mod (λ n. omega (arith, alone n)) a
    where
      alone : (n : ℕ) → check c n (blocks_of c.size w j (j + 1)) ≡ term c n (bit w) j % 2
      alone n =
          let e : j + 1 - j ≡ 1 = omega arith in
          ap (λ (m : ℕ). check c n (placed (c.size * j) m (λ t. bit w (c.size * j + t))))
          (ap (λ (m : ℕ). c.size * m) e ∙ mul-one c.size)
          ∙ check_column c some (bit w) j n h

  pub blocks_none : (w s : List ℕ) (a : ℕ) → Adds s s (λ n. check c n (blocks_of c.size w a a))
  blocks_none w s a =
      let e : a - a ≡ 0 = omega arith in
      checks_none c _ s (λ n l. rw (e, mul-zero c.size) (placed_none (c.size * a) _ n))

  pub blocks_join : (w : List ℕ) (a m e : ℕ) {s t u : List ℕ} → a ≤ m → m ≤ e
      → Adds s t (λ n. check c n (blocks_of c.size w a m)) → Adds t u (λ n. check c n (blocks_of c.size w m e))
      → Adds s u (λ n. check c n (blocks_of c.size w a e))
  blocks_join w a m e h k p q =
      let z = c.size in
      let parts : e - a ≡ (m - a) + (e - m) = omega arith in
      let d : z * (e - a) ≡ z * (m - a) + z * (e - m) = ap (λ (n : ℕ). z * n) parts ∙ mul-add z (m - a) (e - m) in
      let whole : a + (m - a) ≡ m = omega arith in
      let b : z * a + z * (m - a) ≡ z * m = rw whole at (sym (mul-add z a (m - a))) in
      rw d
      (checks_join c (z * a) (z * (m - a)) (z * (e - m)) (λ t. bit w (z * a + t)) (λ t. bit< w (z * a + t)) p
      (checks_as c (λ n l. rw b (placed_same (z * m) (z * (e - m)) _ _ (λ t r. ap (bit w) (omega (arith, b))) n)) q))

module _ (z : ℕ) (w p : List ℕ) (h b k : ℕ) (q : Adds (replicate k 0) w (placed h b (bit p))) where
  pub piece_bit : (n : ℕ) → bit w n ≡ placed h b (bit p) n
  piece_bit n = q.each n ∙ omega (arith, bit_zeros k n, placed_bits h b (bit p) (bit< p) n)

  pub blocks_piece : (a e : ℕ) → a ≤ e → z * a ≤ h → h + b ≤ z * e → (n : ℕ)
      → blocks_of z w a e n ≡ placed h b (bit p) n
  blocks_piece a e less low high n =
      let whole : a + (e - a) ≡ e = omega arith in
      let end : z * a + z * (e - a) ≡ z * e = rw whole at (sym (mul-add z a (e - a))) in
      placed_whole (z * a) (z * (e - a)) (bit w) n
      (λ l. piece_bit n ∙ placed_below h b (bit p) n (omega arith))
      (λ l. piece_bit n ∙ placed_above h b (bit p) n (omega (arith, end)))
      ∙ piece_bit n

pub first_blocks : (z : ℕ) (w : List ℕ) (e n : ℕ) → blocks_of z w 0 e n ≡ run (z * e) (bit w) zeros n
first_blocks z w e n =
    let all : e - 0 ≡ e = omega arith in
    simp (mul-zero, all, zero-add) (run_none zeros (run (z * e) (bit w) zeros) n)
