-- The running checks of all blocks of a full word are its checks, so their ones are its failing rows. Over any code.
--
--   running_bit        the running checks of all blocks of a word are its checks
--   failing_counted    the ones of a word's running checks are as many as its failing rows
--   failing_none       where there are none, no check fails
use mathlib.Core.Path.{◌≡◌, sym, ap, ◌∙◌}
use mathlib.Core.List.{List}
use Prim.Native.Nat.{ℕ, ◌+◌, ◌-◌, ◌*◌, ◌≤◌, ◌<◌}
use native.Mathlib.Omega.{arith}
use lib.Dec.{T, eqb}
use lib.ListN.{length, replicate}
use Rattle.rules.specs.Bits.{bit, zeros, Adds}
use Rattle.rules.specs.Matrix.{Code, checks, total, check}
use Rattle.rules.specs.Verdicts.{Nowhere, Fails, row_fails, how_many}
use Rattle.rules.proofs.Tests.{as_bit_bit_law}
use Rattle.rules.proofs.TableLaws.{fits, line_length}
use Rattle.rules.proofs.Sums.{total_same, total_none, total_from}
use Rattle.rules.proofs.Counting.{how_many_some_law}
use Rattle.rules.proofs.Checks.{check_below, check_same}
use Rattle.laws.proofs.Runs.{run_low}
use Rattle.laws.proofs.Columns.{check_past}
use Rattle.laws.proofs.Running.{checks_again}
use Rattle.running.specs.Running.{blocks_of}
use Rattle.running.proofs.Blocks.{first_blocks}

module _ (c : Code) (some : 0 < c.size) (fine : T (fits c)) where
  -- m is the ones of the running checks s, which all blocks of the word w were added to
  module _ (w s : List ℕ) (m k : ℕ)
      (a : Adds (replicate k 0) s (λ n. check c n (blocks_of c.size w 0 c.columns)))
      (o : m ≡ total (8 * length s) (bit s)) (long : checks c ≤ 8 * length s) where
    pub running_bit : (n : ℕ) → bit s n ≡ check c n (bit w)
    running_bit n =
        checks_again c _ k a n
        ∙ check_same c n (blocks_of c.size w 0 c.columns) (bit w)
        (λ p l. first_blocks c.size w c.columns p ∙ run_low (c.size * c.columns) (bit w) zeros p l)

    pub failing_counted : m ≡ how_many (checks c) (row_fails c (bit w))
    failing_counted =
        let rest = 8 * length s - checks c in
        let all : checks c + rest ≡ 8 * length s = omega arith in
        let past = total_none rest (λ n. bit s (checks c + n))
        (λ n l. running_bit (checks c + n) ∙ check_past c (line_length c fine) (bit w) (checks c + n) (omega arith)) in
        o
        ∙ ap (λ (n : ℕ). total n (bit s)) (sym all)
        ∙ total_from (checks c) rest (bit s)
        ∙ omega (arith, past)
        ∙ total_same (checks c) (bit s) _
        (λ n h. running_bit n ∙ sym (as_bit_bit_law (check c n (bit w)) (check_below c n (bit w))))

    pub failing_none : m ≡ 0 → Nowhere (Fails c (bit w))
    failing_none e n f =
        let one = how_many_some_law (checks c) (row_fails c (bit w)) n f.0 (ap (λ (x : ℕ). eqb x 1) f.1) in
        omega (arith, failing_counted, one)
