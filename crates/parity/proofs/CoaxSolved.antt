-- The recipes solve the parity of the coax codes: each passes the two computed tests. Nothing here rests on the block
-- size being a power of two.
--
--   coax_registers  how many registers they take
--   coax_ends       the first of those that hold the parity at the end
--   coax_solves     so for any checks there is one parity that has them, and only one
--   coax_coded      their steps can be written as numbers
--   coax_one        for any checks one parity has them as its own, and only one, as bytes
use mathlib.Core.Path.{◌≡◌, refl}
use Prim.Native.Nat.{ℕ, suc, ◌-◌, ◌^◌, ◌<◌}
use lib.Dec.{T, lit<, lit≤}
use Rattle.rules.specs.Matrix.{entry}
use Rattle.rules.specs.CoaxTables.{long_lines, short_lines}
use Rattle.rules.specs.Coax.{coax_size, coax_code}
use Rattle.rules.specs.declared.CoaxCode.{CoaxCode}
use Rattle.rules.specs.declared.CoaxCode.TheVariants.{Long, Short}
use Rattle.rules.proofs.Tests.{all, every}
use Rattle.rules.proofs.CoaxLaws.{coax_numbers}
use Rattle.laws.proofs.Parities.{OneParity}
use Rattle.recipes.proofs.Computed.{back, forth}
use Rattle.recipes.proofs.Recipe.{sound}
use Rattle.recipes.proofs.Parity.{parity_entry, Solves, solves_one}
use Rattle.recipes.proofs.Steps.{coded}
use Rattle.parity.specs.CoaxRecipes.{coax_recipe}

abbrev pub coax_registers : ℕ
coax_registers = 10

abbrev pub coax_ends : ℕ
coax_ends = 5

-- the base of the numbers that the tests compute with, and their modulus: the base to the block size, less 1
abbrev base : ℕ
base = 2 ^ 2

abbrev modulus : CoaxCode → ℕ
modulus Long = 2 ^ 720 - 1
modulus Short = 2 ^ 360 - 1

-- what is computed for each code
solved_by : (k : CoaxCode) → suc (modulus k) ≡ base ^ coax_size k → 1 < modulus k
    → T (all (sound coax_registers) (coax_recipe k))
    → T (every 5 (back base (coax_size k) (modulus k) 5 coax_ends (parity_entry (coax_code k)) (coax_recipe k)))
    → T (every 5 (forth base (coax_size k) (modulus k) 5 coax_ends (parity_entry (coax_code k)) (coax_recipe k)))
    → Solves (coax_code k) (coax_recipe k) coax_registers coax_ends base (modulus k)
solved_by k power some sounds backs forths = record {
  some = (coax_numbers k).some;
  columns = (coax_numbers k).rows;
  room = lit≤ tt;
  base = power;
  above = some;
  sounds = sounds;
  backs = backs;
  forths = forths;
}

pub coax_solves : (k : CoaxCode) → Solves (coax_code k) (coax_recipe k) coax_registers coax_ends base (modulus k)
unfolding long_lines short_lines entry coax_recipe back forth
coax_solves Long = solved_by Long refl (lit< tt) tt tt tt
coax_solves Short = solved_by Short refl (lit< tt) tt tt tt

pub coax_coded : (k : CoaxCode) → T (coded coax_registers (coax_size k) (coax_recipe k))
unfolding coax_recipe
coax_coded Long = tt
coax_coded Short = tt

pub coax_one : (k : CoaxCode) → OneParity (coax_code k)
coax_one k = solves_one (coax_solves k)
