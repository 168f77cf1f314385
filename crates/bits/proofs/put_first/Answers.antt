-- `bits::put_first` meets its contract: whole bytes are copied, and the bits that are left are added.
use mathlib.Core.Path.{◌≡◌}
use Prim.Native.Nat.{◌+◌, ◌*◌, ◌/◌, ◌%◌}
use native.Mathlib.Nat.{zero-add}
use native.Mathlib.Omega.{arith}
use Rattle.rules.specs.Bits.{bit}
use Rattle.laws.proofs.Adds.{adds_join}
use Rattle.bits.proofs.Moving.{adds_bytes}
use Rattle.bits.proofs.put_first.Goals as goal

pub returns : goal.returns
returns c =
    let a = c.args in
    let w = a.count / 8 in
    let whole : 8 * w + a.count % 8 ≡ a.count = omega arith in
    let s = a.s.now in
    let u = a.from.now in
    rw (← whole)
    (adds_join 0 (8 * w) (a.count % 8) (bit u)
    (adds_bytes s u w (omega arith) (omega arith) (λ n h. c.requires.2 n (omega arith)))
    (simp zero-add (rw c.copy.ensures at c.add_run.ensures)))
