-- `numbers::store` meets its contract: eight bytes stored.
use Rattle.std.proofs.Common.{◌≡◌, ◌+◌, ◌-◌, ◌∙◌, arith}
use Rattle.numbers.proofs.Storing.{replaced_bytes}
use Rattle.numbers.proofs.store.Goals as goal

pub returns : goal.returns
returns c =
    let a = c.args in
    let eight : a.at + 8 - a.at ≡ 8 = omega arith in
    rw eight
    (replaced_bytes a.s.now c.copy_from_slice.new.self a.at 8 a.number c.requires
    (c.copy_from_slice.ensures.after ∙ c.to_le_bytes.ensures))
