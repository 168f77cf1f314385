-- `numbers::end_at` meets its contract: the bytes up to the end, and zero bytes, joined.
use Rattle.std.proofs.Common.{◌-◌, length, drop, replicate, length-drop}
use Rattle.std.proofs.lemmas.List.{take_rest}
use Rattle.laws.proofs.Bits.{mid}
use Rattle.numbers.proofs.Reading.{number_part, padded}
use Rattle.numbers.proofs.end_at.Goals as goal

pub returns : goal.returns
returns c =
    let a = c.args in
    let s = a.s.now in
    let n = length s - a.byte in
    number_part s (mid 0 n (replicate 8 0) c.copy_from_slice.new.self) a.byte (λ i. (c.type_inv.s i).fits)
    c.from_le_bytes.ensures
    (λ i h.
    rw (c.copy_from_slice.ensures.after, take_rest) (padded (drop a.byte s) n i (length-drop a.byte s)))
