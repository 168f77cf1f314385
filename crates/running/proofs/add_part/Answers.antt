-- `running::add_part` meets its contract: what is added to the part of block i is added at its places.
use mathlib.Core.Path.{◌≡◌}
use Prim.Native.Nat.{◌+◌, ◌-◌, ◌*◌}
use native.Mathlib.Omega.{arith}
use Rattle.turning.specs.Turning.{part_bytes}
use Rattle.turning.proofs.Parts.{part_turned}
use Rattle.running.proofs.add_part.Goals as goal

pub returns : goal.returns
returns c =
    let added = c.add_turned in
    let a = c.args in
    let to : part_bytes * a.i + part_bytes - part_bytes * a.i ≡ part_bytes = omega arith in
    let from : part_bytes * a.j + part_bytes - part_bytes * a.j ≡ part_bytes = omega arith in
    rw to
    (part_turned a.checks.now a.word.now added.new.sums a.i a.j a.turn (omega arith)
    (rw (to, from) at added.ensures))
