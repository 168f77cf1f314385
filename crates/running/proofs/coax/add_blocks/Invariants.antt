-- `running::coax::add_blocks` meets its contract. The invariant: the blocks passed are added.
use Prim.Native.Nat.{◌-◌, ◌≤◌}
use Rattle.rules.specs.Bits.{Adds}
use Rattle.rules.specs.Coax.{coax_code}
use Rattle.rules.specs.Matrix.{check}
use Rattle.running.specs.Running.{blocks_of}
use Rattle.running.proofs.coax.add_blocks.Given as goal

abbrev pub invariant-loop-j : goal.invariant-loop-j
invariant-loop-j l =
    (l.from ≤ l.j) × (l.j ≤ l.to)
    × Adds l.initial.sums l.sums (λ n. check (coax_code l.fn.code) n
    (blocks_of (coax_code l.fn.code).size l.word l.from l.j))

abbrev pub decreases-loop-j : goal.decreases-loop-j
decreases-loop-j l = l.to - l.j
