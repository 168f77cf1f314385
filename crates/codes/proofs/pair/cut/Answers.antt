-- What ends before the cut is all of it, and nothing comes after.
use mathlib.Core.Path.{sym, ◌∙◌}
use mathlib.Core.List.{List}
use Prim.Native.Nat.{ℕ, ◌*◌, ◌≤◌}
use native.Mathlib.Omega.{arith}
use lib.ListN.{length, drop_of_length-le}
use lib.Seq.{take_all, take-length, drop-length}
use Rattle.rules.specs.Matrix.{places_of_payload}
use Rattle.rules.specs.Table.{fibre}
use Rattle.io.proofs.Counting.{prefix_len_of_le}
use Rattle.codes.specs.Codes.{CutAt}
use Rattle.codes.proofs.pair.cut.Goals as goal

cut_short : (v : List ℕ) → length v ≤ 2 * places_of_payload fibre → CutAt v (length v)
cut_short v h =
    record {
      first = take-length v ∙ sym (take_all (2 * places_of_payload fibre) v h);
      second = drop-length v ∙ sym (drop_of_length-le v h);
    }

pub returns-then-pair-lt-FIRST_BYTES-clause-cut_at :
    goal.returns-then-pair-lt-FIRST_BYTES-clause-cut_at
returns-then-pair-lt-FIRST_BYTES-clause-cut_at c = cut_short c.args.pair.now (omega arith)

pub returns-clause-prefix_len : goal.returns-clause-prefix_len
returns-clause-prefix_len c = prefix_len_of_le (2 * places_of_payload fibre) c.args.pair.now (omega arith)
