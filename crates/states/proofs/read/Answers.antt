-- `states::read` meets its contract.
use borrow.Author.Rules.{rules}
use mathlib.Core.Path.{refl}
use Prim.Native.Nat.{◌-◌, ◌^◌, ◌<◌}
use native.Mathlib.Omega.{arith}
use lib.ListN.{length, drop, length-drop}
use lib.Seq.{take_all}
use Rattle.rules.specs.Bits.{Bytes}
use Rattle.states.proofs.States.{low_same}
use Rattle.states.proofs.read.Goals as goal

pub returns : goal.returns
returns c =
    let s = c.args.state.now in
    let bytes : Bytes s = λ i. (c.shared_slice_known-1.given i).fits in
    let n< : c.load.result < 2 ^ 64 = search rules in
    let h< : c.load-2.result < 2 ^ 64 = search rules in
    rw (
      low_same s bytes 0 (omega arith) c.load.result n< c.load.ensures.each,
      low_same s bytes 8 (omega arith) c.load-2.result h< c.load-2.ensures.each,
      c.copy.ensures,
      take_all (length s - 16) (drop 16 s) (simp length-drop (omega arith)),
    ) refl
