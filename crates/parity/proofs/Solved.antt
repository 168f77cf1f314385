-- The recipe solves the parity of the fibre code: it passes the two computed tests, a column for each block.
--
--   registers       how many registers it takes
--   ends            the first of those that hold the parity at the end
--   fibre_solves    so for any checks there is one parity that has them, and only one
--   fibre_coded     its steps can be written as numbers
use mathlib.Core.Path.{refl}
use mathlib.Core.Bool.{Bool}
use Prim.Native.Nat.{ℕ, ◌+◌, ◌-◌, ◌^◌}
use lib.Dec.{T, lit<, lit≤}
use Rattle.rules.specs.Matrix.{entry}
use Rattle.rules.specs.Table.{lines, fibre}
use Rattle.rules.proofs.Tests.{every}
use Rattle.recipes.proofs.Computed.{back, forth, every_join}
use Rattle.recipes.proofs.Parity.{Solves, parity_entry}
use Rattle.recipes.proofs.Steps.{coded}
use Rattle.parity.proofs.Recipe.{recipe}

abbrev pub registers : ℕ
registers = 62

abbrev pub ends : ℕ
ends = 12

-- the base of the numbers that the tests compute with, and their modulus: the base to the block size, less 1
abbrev base : ℕ
base = 2 ^ 37

abbrev modulus : ℕ
modulus = 2 ^ 9472 - 1

abbrev backs : ℕ → Bool
backs = back base fibre.size modulus fibre.rows ends (parity_entry fibre) recipe

abbrev forths : ℕ → Bool
forths = forth base fibre.size modulus fibre.rows ends (parity_entry fibre) recipe

-- each test in three parts: there is a limit to what one part may compute
back_0 : T (every 4 backs)
unfolding lines entry recipe back
back_0 = tt

back_4 : T (every 4 (λ j. backs (4 + j)))
unfolding lines entry recipe back
back_4 = tt

back_8 : T (every 4 (λ j. backs (8 + j)))
unfolding lines entry recipe back
back_8 = tt

forth_0 : T (every 4 forths)
unfolding lines entry recipe forth
forth_0 = tt

forth_4 : T (every 4 (λ j. forths (4 + j)))
unfolding lines entry recipe forth
forth_4 = tt

forth_8 : T (every 4 (λ j. forths (8 + j)))
unfolding lines entry recipe forth
forth_8 = tt

pub fibre_solves : Solves fibre recipe registers ends base modulus
unfolding recipe
fibre_solves =
    record {
      some = lit< tt;
      columns = lit≤ tt;
      room = lit≤ tt;
      base = refl;
      above = lit< tt;
      sounds = tt;
      backs = every_join 8 4 backs (every_join 4 4 backs back_0 back_4) back_8;
      forths = every_join 8 4 forths (every_join 4 4 forths forth_0 forth_4) forth_8;
    }

pub fibre_coded : T (coded registers fibre.size recipe)
unfolding recipe
fibre_coded = tt
