-- Each list is as long as its places ask, and no mark is set.
use mathlib.Core.Path.{refl}
use native.Mathlib.Omega.{arith}
use lib.ListN.{length-take, length-drop}
use Rattle.laws.proofs.Bits.{byte_zeros}
use Rattle.commands.proofs.pairs.tell_faults.Goals as goal

pub tell_fault-requires : goal.tell_fault-requires
tell_fault-requires c = (simp (length-take, length-drop) (omega arith), refl, byte_zeros 14593, omega arith)

pub tell_fault-requires-2 : goal.tell_fault-requires-2
tell_fault-requires-2 c = (simp (length-take, length-drop) (omega arith), refl, byte_zeros 3073, omega arith)
