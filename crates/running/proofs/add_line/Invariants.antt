-- `running::add_line` meets its contract. The invariant: the entries passed have added what they take.
use Prim.Native.Nat.{◌+◌, ◌*◌, ◌≤◌}
use lib.ListN.{length}
use Rattle.rules.specs.Bits.{bit, zeros, run, Adds}
use Rattle.rules.specs.Terms.{through}
use Rattle.running.proofs.add_line.Given as goal

abbrev pub invariant-loop-i : goal.invariant-loop-i
invariant-loop-i l =
    (l.i ≤ length l.line)
    × Adds l.initial.checks l.checks
    (run (l.size * l.i) (through l.size l.line (λ t. bit l.word (l.size * l.j + t))) zeros)
