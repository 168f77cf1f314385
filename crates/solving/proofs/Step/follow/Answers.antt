-- `solving::Step::follow` meets its contract: a part is a block of its size.
use Rattle.turning.proofs.Parts.{part_within}
use Rattle.solving.proofs.Step.follow.Goals as goal

pub returns-then-size-eq-PART_BITS : goal.returns-then-size-eq-PART_BITS
returns-then-size-eq-PART_BITS c =
    let a = c.args in
    rw c.if-size-eq-PART_BITS.true
    (part_within a.registers.now _ a.self.target a.self.source a.self.turn c.add_within.ensures)
