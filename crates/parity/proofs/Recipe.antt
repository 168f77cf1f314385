-- The recipe for the parity of the fibre code: 259 steps in groups, over 62 registers of a block's bits. Registers 0 to
-- 11 hold the checks at the start, and registers 12 to 23 the parity at the end.
--
--   recipe    the groups
use mathlib.Core.List.{List, [], ◌∷◌}
use Rattle.recipes.proofs.Recipe.{Group, group}

unfoldable pub recipe : List Group
recipe =
    group 24 6 (0 ∷ []) ∷
    group 24 1 (10 ∷ []) ∷
    group 24 2 (198 ∷ []) ∷
    group 25 4 (0 ∷ []) ∷
    group 25 2 (39 ∷ []) ∷
    group 25 24 (41 ∷ []) ∷
    group 25 8 (46 ∷ []) ∷
    group 26 5 (0 ∷ []) ∷
    group 26 25 (166 ∷ []) ∷
    group 26 3 (194 ∷ []) ∷
    group 27 10 (0 ∷ []) ∷
    group 27 7 (43 ∷ []) ∷
    group 27 25 (153 ∷ []) ∷
    group 0 24 (14 ∷ []) ∷
    group 0 8 (19 ∷ []) ∷
    group 0 26 (245 ∷ []) ∷
    group 0 27 (239 ∷ []) ∷
    group 9 24 (53 ∷ []) ∷
    group 9 7 (46 ∷ []) ∷
    group 11 1 (212 ∷ []) ∷
    group 11 25 (57 ∷ []) ∷
    group 11 3 (85 ∷ []) ∷
    group 11 26 (116 ∷ []) ∷
    group 11 27 (253 ∷ []) ∷
    group 31 9 (0 ∷ 56 ∷ []) ∷
    group 28 9 (40 ∷ []) ∷
    group 28 11 (43 ∷ 46 ∷ 140 ∷ []) ∷
    group 28 31 (57 ∷ 88 ∷ 181 ∷ []) ∷
    group 29 0 (40 ∷ []) ∷
    group 29 11 (4 ∷ 26 ∷ []) ∷
    group 30 0 (43 ∷ 46 ∷ 140 ∷ []) ∷
    group 30 9 (4 ∷ 26 ∷ []) ∷
    group 30 31 (167 ∷ 186 ∷ []) ∷
    group 32 0 (57 ∷ 88 ∷ 181 ∷ []) ∷
    group 32 11 (167 ∷ 186 ∷ []) ∷
    group 29 32 (0 ∷ 56 ∷ []) ∷
    group 33 28 (239 ∷ []) ∷
    group 33 30 (253 ∷ []) ∷
    group 34 28 (245 ∷ []) ∷
    group 34 30 (116 ∷ []) ∷
    group 35 30 (85 ∷ []) ∷
    group 35 34 (194 ∷ []) ∷
    group 36 33 (153 ∷ []) ∷
    group 36 35 (228 ∷ []) ∷
    group 37 28 (19 ∷ []) ∷
    group 37 36 (46 ∷ []) ∷
    group 38 29 (53 ∷ []) ∷
    group 38 37 (251 ∷ []) ∷
    group 39 28 (27 ∷ []) ∷
    group 39 29 (215 ∷ 238 ∷ []) ∷
    group 39 30 (88 ∷ []) ∷
    group 39 33 (109 ∷ 235 ∷ []) ∷
    group 39 34 (241 ∷ []) ∷
    group 39 35 (234 ∷ []) ∷
    group 39 36 (81 ∷ 228 ∷ []) ∷
    group 39 37 (0 ∷ []) ∷
    group 39 38 (94 ∷ 240 ∷ []) ∷
    group 40 39 (0 ∷ 2 ∷ []) ∷
    group 41 39 (0 ∷ []) ∷
    group 41 40 (201 ∷ []) ∷
    group 42 39 (0 ∷ 98 ∷ []) ∷
    group 43 39 (0 ∷ []) ∷
    group 43 40 (73 ∷ []) ∷
    group 44 40 (0 ∷ 31 ∷ []) ∷
    group 22 39 (8 ∷ 138 ∷ []) ∷
    group 22 40 (55 ∷ 236 ∷ []) ∷
    group 22 41 (150 ∷ []) ∷
    group 22 42 (186 ∷ []) ∷
    group 22 43 (181 ∷ 195 ∷ 244 ∷ []) ∷
    group 22 44 (7 ∷ 175 ∷ 216 ∷ []) ∷
    group 45 39 (49 ∷ 239 ∷ []) ∷
    group 45 40 (23 ∷ 27 ∷ 44 ∷ 69 ∷ 212 ∷ []) ∷
    group 45 41 (19 ∷ 70 ∷ []) ∷
    group 45 42 (48 ∷ 65 ∷ []) ∷
    group 46 39 (41 ∷ 118 ∷ 145 ∷ []) ∷
    group 46 40 (92 ∷ 133 ∷ 162 ∷ []) ∷
    group 46 41 (130 ∷ []) ∷
    group 47 39 (11 ∷ []) ∷
    group 47 40 (31 ∷ 113 ∷ 156 ∷ 217 ∷ 235 ∷ []) ∷
    group 22 47 (0 ∷ []) ∷
    group 45 47 (180 ∷ []) ∷
    group 22 46 (0 ∷ 4 ∷ []) ∷
    group 22 45 (0 ∷ 39 ∷ []) ∷
    group 48 28 (58 ∷ []) ∷
    group 48 29 (166 ∷ 202 ∷ []) ∷
    group 48 30 (69 ∷ 212 ∷ []) ∷
    group 48 33 (163 ∷ 207 ∷ []) ∷
    group 48 34 (193 ∷ []) ∷
    group 48 35 (39 ∷ []) ∷
    group 48 36 (211 ∷ 242 ∷ []) ∷
    group 48 37 (16 ∷ []) ∷
    group 48 38 (10 ∷ 25 ∷ 114 ∷ []) ∷
    group 49 48 (0 ∷ 2 ∷ []) ∷
    group 50 48 (0 ∷ []) ∷
    group 50 49 (201 ∷ []) ∷
    group 51 48 (0 ∷ 98 ∷ []) ∷
    group 52 48 (0 ∷ []) ∷
    group 52 49 (73 ∷ []) ∷
    group 53 49 (0 ∷ 31 ∷ []) ∷
    group 23 48 (8 ∷ 138 ∷ []) ∷
    group 23 49 (55 ∷ 236 ∷ []) ∷
    group 23 50 (150 ∷ []) ∷
    group 23 51 (186 ∷ []) ∷
    group 23 52 (181 ∷ 195 ∷ 244 ∷ []) ∷
    group 23 53 (7 ∷ 175 ∷ 216 ∷ []) ∷
    group 54 48 (49 ∷ 239 ∷ []) ∷
    group 54 49 (23 ∷ 27 ∷ 44 ∷ 69 ∷ 212 ∷ []) ∷
    group 54 50 (19 ∷ 70 ∷ []) ∷
    group 54 51 (48 ∷ 65 ∷ []) ∷
    group 55 48 (41 ∷ 118 ∷ 145 ∷ []) ∷
    group 55 49 (92 ∷ 133 ∷ 162 ∷ []) ∷
    group 55 50 (130 ∷ []) ∷
    group 56 48 (11 ∷ []) ∷
    group 56 49 (31 ∷ 113 ∷ 156 ∷ 217 ∷ 235 ∷ []) ∷
    group 23 56 (0 ∷ []) ∷
    group 54 56 (180 ∷ []) ∷
    group 23 55 (0 ∷ 4 ∷ []) ∷
    group 23 54 (0 ∷ 39 ∷ []) ∷
    group 9 22 (63 ∷ 78 ∷ 166 ∷ 167 ∷ 202 ∷ []) ∷
    group 9 23 (37 ∷ 147 ∷ 215 ∷ 238 ∷ []) ∷
    group 57 9 (43 ∷ 46 ∷ 140 ∷ []) ∷
    group 58 57 (24 ∷ 86 ∷ 92 ∷ []) ∷
    group 59 58 (48 ∷ 172 ∷ 184 ∷ []) ∷
    group 60 59 (88 ∷ 96 ∷ 112 ∷ []) ∷
    group 61 60 (0 ∷ 80 ∷ []) ∷
    group 16 60 (144 ∷ []) ∷
    group 16 61 (0 ∷ 48 ∷ 160 ∷ 192 ∷ []) ∷
    group 15 1 (0 ∷ []) ∷
    group 15 22 (0 ∷ []) ∷
    group 12 2 (39 ∷ []) ∷
    group 12 16 (87 ∷ []) ∷
    group 12 22 (211 ∷ []) ∷
    group 12 23 (81 ∷ []) ∷
    group 20 6 (251 ∷ []) ∷
    group 20 12 (154 ∷ []) ∷
    group 20 15 (5 ∷ []) ∷
    group 20 22 (20 ∷ []) ∷
    group 20 23 (89 ∷ []) ∷
    group 17 7 (0 ∷ []) ∷
    group 17 16 (0 ∷ []) ∷
    group 17 22 (120 ∷ []) ∷
    group 17 23 (192 ∷ []) ∷
    group 21 8 (0 ∷ []) ∷
    group 21 20 (0 ∷ []) ∷
    group 21 22 (16 ∷ []) ∷
    group 21 23 (0 ∷ []) ∷
    group 18 4 (0 ∷ []) ∷
    group 18 12 (0 ∷ []) ∷
    group 18 21 (46 ∷ []) ∷
    group 18 22 (242 ∷ []) ∷
    group 18 23 (228 ∷ []) ∷
    group 13 3 (85 ∷ []) ∷
    group 13 18 (57 ∷ []) ∷
    group 13 22 (124 ∷ []) ∷
    group 13 23 (63 ∷ []) ∷
    group 19 5 (116 ∷ []) ∷
    group 19 13 (225 ∷ []) ∷
    group 19 22 (53 ∷ []) ∷
    group 19 23 (101 ∷ []) ∷
    group 14 10 (253 ∷ []) ∷
    group 14 17 (40 ∷ []) ∷
    group 14 18 (150 ∷ []) ∷
    group 14 22 (204 ∷ []) ∷
    group 14 23 (106 ∷ []) ∷
    []
