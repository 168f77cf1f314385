-- The recipes for the parity of the coax codes: 9 steps each, over 10 registers of a block's bits. Registers 0 to 4
-- hold the checks at the start, and registers 5 to 9 the parity at the end. For the contracts of inner functions: no
-- public promise cites this file.
--
--   coax_recipe k    the steps of the code k, each a group of its own
--   coax_steps k     the same as numbers, as the code has them
--
-- Nothing here is proved.
use Rattle.std.specs.Prelude.{List, [], ◌∷◌, ℕ}
use Rattle.rules.specs.declared.CoaxCode.{CoaxCode}
use Rattle.rules.specs.declared.CoaxCode.TheVariants.{Long, Short}
use Rattle.recipes.proofs.Recipe.{Group, group, flat}
use Rattle.recipes.proofs.Steps.{codes}

unfoldable pub coax_recipe : CoaxCode → List Group
coax_recipe Long =
    group 5 0 (217 ∷ []) ∷
    group 6 1 (26 ∷ []) ∷
    group 6 5 (132 ∷ []) ∷
    group 7 2 (288 ∷ []) ∷
    group 7 6 (198 ∷ []) ∷
    group 8 3 (152 ∷ []) ∷
    group 8 7 (13 ∷ []) ∷
    group 9 4 (0 ∷ []) ∷
    group 9 8 (257 ∷ []) ∷
    []
coax_recipe Short =
    group 5 0 (158 ∷ []) ∷
    group 6 1 (9 ∷ []) ∷
    group 6 5 (110 ∷ []) ∷
    group 7 2 (106 ∷ []) ∷
    group 7 6 (140 ∷ []) ∷
    group 8 3 (172 ∷ []) ∷
    group 8 7 (15 ∷ []) ∷
    group 9 4 (161 ∷ []) ∷
    group 9 8 (158 ∷ []) ∷
    []

abbrev pub coax_steps : CoaxCode → List ℕ
coax_steps k = codes (flat (coax_recipe k))
