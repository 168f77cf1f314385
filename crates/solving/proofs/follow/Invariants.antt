-- `solving::follow` meets its contract. The invariant: the first k steps are done.
use Prim.Native.Nat.{◌≤◌}
use lib.ListN.{length, take}
use Rattle.recipes.specs.Steps.{Followed}
use Rattle.solving.proofs.follow.Given as goal

abbrev pub invariant-loop-number : goal.invariant-loop-number
invariant-loop-number l =
    (l.number-index ≤ length l.recipe) × Followed l.size (take l.number-index l.recipe) l.initial.registers l.registers
