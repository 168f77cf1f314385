-- `numbers::load` meets its contract: eight bytes, joined.
use Rattle.std.proofs.Common.{◌≡◌, ◌+◌, ◌-◌, arith}
use lib.Seq.{get_or-take}
use lib.ListN.{drop}
use Rattle.numbers.proofs.Reading.{number_part}
use Rattle.numbers.proofs.load.Goals as goal

pub returns : goal.returns
returns c =
    let a = c.args in
    let eight : a.at + 8 - a.at ≡ 8 = omega arith in
    number_part a.s.now c.copy_from_slice.new.self a.at (λ i. (c.type_inv.s i).fits) c.from_le_bytes.ensures
    (λ i h. rw (c.copy_from_slice.ensures.after, eight) (get_or-take 8 (drop a.at a.s.now) i 0 h))
