-- `turning::add_block` meets its contract: two runs are the turned block.
use mathlib.Core.Path.{ap}
use Prim.Native.Nat.{ℕ, ◌+◌, ◌-◌}
use native.Mathlib.Omega.{arith}
use Rattle.rules.specs.Bits.{bit}
use Rattle.laws.proofs.Runs.{placed_same}
use Rattle.laws.proofs.Adds.{adds_then, adds_as}
use Rattle.turning.proofs.Parts.{turned_runs}
use Rattle.turning.proofs.add_block.Goals as goal

pub returns : goal.returns
returns c =
    let first = c.add_run in
    let second = c.add_run-2 in
    let a = c.args in
    let x : ℕ → ℕ = λ t. bit a.word.now (a.from + t) in
    adds_as (turned_runs x a.at a.size a.turn c.requires.0)
    (adds_then
    (adds_as
    (placed_same a.at (a.size - a.turn) _ (λ t. x (a.turn + t)) (λ t k. ap (bit a.word.now) (omega arith)))
    first.ensures)
    second.ensures)
