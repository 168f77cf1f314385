-- The computed tests of a recipe. They run on numbers, a column for each block, and so settle the matter for all blocks
-- at once. B is the base of the numbers, Z the block size, M is B ^ Z - 1, and m the number of blocks, as many as the
-- rows of checks.
--
--   own_numbers b       the value and the count of a block itself, not turned (b holds), or of nothing
--   start_numbers m j   m registers, of which register j alone holds a block
--   goods B Z m j g     of m registers of numbers, register j is good for a block itself, and the others for nothing
--   column B Z M m F j  the machine F, given block j alone, makes block j and no other
--   backward, forward   the machines: checks and then the recipe R, the recipe and then checks; e i j is the entry of
--                       row i, block j, and the recipe leaves the blocks in the registers from o on
--   back, forth         their columns
--
--   every_join           a test of a + b columns, in two parts
use mathlib.Core.Bool.{Bool, true, false, cond}
use mathlib.Core.List.{List}
use Prim.Native.Nat.{ℕ, zero, suc, ◌+◌}
use native.Mathlib.Nat.{add-zero, add-suc}
use lib.Dec.{T, eqb}
use lib.IntN.{ℤ}
use lib.ListN.{get_or}
use Rattle.rules.proofs.Tests.{both, both_left, both_right, every}
use Rattle.recipes.proofs.Recipe.{Group}
use Rattle.recipes.proofs.Registers.{firsts, Machine, to_checks, to_blocks}
use Rattle.recipes.proofs.Numbers.{numbers}
use Rattle.recipes.proofs.Digits.{good}

abbrev pub own_numbers : Bool → ℕ × ℕ
own_numbers b = cond b (1, 1) (0, 0)

abbrev pub start_numbers : ℕ → ℕ → List (ℕ × ℕ)
start_numbers m j = firsts m (λ k. own_numbers (eqb k j))

abbrev pub goods : ℕ → ℕ → ℕ → ℕ → List (ℕ × ℕ) → Bool
goods B Z m j g = every m (λ k. good B Z (eqb k j) (get_or g k (0, 0)))

abbrev pub column : ℕ → ℕ → ℕ → ℕ → Machine → ℕ → Bool
column B Z M m F j = goods B Z m j (F (numbers B M) (start_numbers m j))

abbrev pub backward : ℕ → ℕ → (ℕ → ℕ → ℤ) → List Group → Machine
backward m o e R K g = to_blocks R o K (to_checks e m K g)

abbrev pub forward : ℕ → ℕ → (ℕ → ℕ → ℤ) → List Group → Machine
forward m o e R K g = to_checks e m K (to_blocks R o K g)

unfoldable pub back : (B Z M m o : ℕ) → (ℕ → ℕ → ℤ) → List Group → ℕ → Bool
back B Z M m o e R = column B Z M m (backward m o e R)

unfoldable pub forth : (B Z M m o : ℕ) → (ℕ → ℕ → ℤ) → List Group → ℕ → Bool
forth B Z M m o e R = column B Z M m (forward m o e R)

both_in : (a b : Bool) → T a → T b → T (both a b)
both_in true b s t = t
both_in false b s t = absurd s

pub every_join : (a b : ℕ) (f : ℕ → Bool) → T (every a f) → T (every b (λ j. f (a + j))) → T (every (a + b) f)
every_join a zero f s t = rw (add-zero a) s
every_join a (suc b) f s t =
    rw (add-suc a b)
    (both_in (f (a + b)) (every (a + b) f) (both_left (f (a + b)) (every b (λ j. f (a + j))) t)
    (every_join a b f s (both_right (f (a + b)) (every b (λ j. f (a + j))) t)))
