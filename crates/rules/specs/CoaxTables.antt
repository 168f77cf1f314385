-- Source document 001, Tables 101-3 and 101-4, as printed: each in three parts, which stand side by side. A part has a
-- line for each row, 1 to 5, and in it an entry for each of its columns. `to a` is the entry a, and `none` is -1.
--
--   aside n rs   the first n columns of the rows rs, a line for each
--   long_lines   Table 101-3, of the code (16200, 14400): 45 columns
--   short_lines  Table 101-4, of the code (5940, 5040): 33 columns
--
-- Believe this file beside the document. CoaxLaws proves the ranges and the counts.
use Rattle.std.specs.Prelude.{List, [], ◌∷◌, ◌++◌, map, ℕ, zero, suc, ℤ, pos as to, negsuc, get_or, drop}

abbrev none : ℤ
none = negsuc 0

abbrev pub aside : ℕ → List (List ℤ) → List (List ℤ)
aside zero rs = []
aside (suc n) rs = map (λ r. get_or r 0 none) rs ∷ aside n (map (drop 1) rs)

-- Table 101-3a, columns 1 to 15
abbrev long_a : List (List ℤ)
long_a =
    (to 93 ∷ to 271 ∷ none ∷ to 83 ∷ to 26 ∷ to 208 ∷ to 245 ∷ to 200 ∷
    none ∷ to 175 ∷ to 331 ∷ to 17 ∷ to 86 ∷ none ∷ to 337 ∷ []) ∷
    (to 274 ∷ to 115 ∷ to 329 ∷ to 338 ∷ to 124 ∷ none ∷ to 293 ∷ none ∷
    to 69 ∷ to 64 ∷ to 342 ∷ none ∷ to 88 ∷ to 139 ∷ none ∷ []) ∷
    (to 134 ∷ to 355 ∷ to 175 ∷ to 24 ∷ to 253 ∷ to 242 ∷ none ∷ to 187 ∷
    to 94 ∷ to 26 ∷ to 87 ∷ to 302 ∷ none ∷ to 191 ∷ to 323 ∷ []) ∷
    (none ∷ none ∷ to 184 ∷ to 70 ∷ to 247 ∷ to 14 ∷ to 22 ∷ to 7 ∷
    to 285 ∷ to 54 ∷ none ∷ to 352 ∷ to 26 ∷ to 108 ∷ to 10 ∷ []) ∷
    (to 253 ∷ to 273 ∷ to 90 ∷ none ∷ none ∷ to 151 ∷ to 311 ∷ to 320 ∷
    to 339 ∷ none ∷ to 295 ∷ to 148 ∷ to 48 ∷ to 91 ∷ to 62 ∷ []) ∷
    []

-- Table 101-3b, columns 16 to 30
abbrev long_b : List (List ℤ)
long_b =
    (none ∷ to 238 ∷ to 81 ∷ none ∷ to 307 ∷ none ∷ to 165 ∷ none ∷
    to 47 ∷ to 76 ∷ to 73 ∷ to 150 ∷ to 349 ∷ to 139 ∷ to 331 ∷ []) ∷
    (to 137 ∷ to 212 ∷ none ∷ to 157 ∷ to 195 ∷ to 357 ∷ to 81 ∷ to 194 ∷
    to 1 ∷ to 159 ∷ to 56 ∷ to 72 ∷ to 126 ∷ to 277 ∷ to 156 ∷ []) ∷
    (to 22 ∷ none ∷ to 245 ∷ to 294 ∷ to 240 ∷ to 84 ∷ to 76 ∷ to 342 ∷
    to 345 ∷ to 174 ∷ to 269 ∷ to 329 ∷ none ∷ to 214 ∷ none ∷ []) ∷
    (to 298 ∷ to 123 ∷ to 139 ∷ to 117 ∷ none ∷ to 336 ∷ to 49 ∷ to 202 ∷
    to 359 ∷ to 342 ∷ none ∷ to 224 ∷ to 106 ∷ none ∷ to 273 ∷ []) ∷
    (to 100 ∷ to 232 ∷ to 146 ∷ to 200 ∷ to 135 ∷ to 12 ∷ none ∷ to 179 ∷
    none ∷ none ∷ to 232 ∷ none ∷ to 21 ∷ to 331 ∷ to 313 ∷ []) ∷
    []

-- Table 101-3c, columns 31 to 45
abbrev long_c : List (List ℤ)
long_c =
    (to 118 ∷ to 345 ∷ to 27 ∷ to 294 ∷ none ∷ to 145 ∷ to 279 ∷ to 97 ∷
    to 106 ∷ to 160 ∷ to 143 ∷ none ∷ none ∷ none ∷ none ∷ []) ∷
    (to 32 ∷ to 111 ∷ to 175 ∷ none ∷ to 306 ∷ to 224 ∷ none ∷ to 206 ∷
    none ∷ to 29 ∷ to 106 ∷ to 334 ∷ none ∷ none ∷ none ∷ []) ∷
    (none ∷ none ∷ none ∷ to 218 ∷ to 104 ∷ to 40 ∷ to 197 ∷ to 73 ∷
    to 229 ∷ to 63 ∷ none ∷ to 270 ∷ to 72 ∷ none ∷ none ∷ []) ∷
    (to 177 ∷ to 245 ∷ to 98 ∷ to 355 ∷ to 178 ∷ to 176 ∷ to 147 ∷ none ∷
    to 280 ∷ none ∷ none ∷ none ∷ to 221 ∷ to 208 ∷ none ∷ []) ∷
    (to 349 ∷ to 34 ∷ to 97 ∷ to 187 ∷ to 38 ∷ none ∷ to 235 ∷ to 52 ∷
    to 170 ∷ to 58 ∷ none ∷ none ∷ none ∷ to 257 ∷ to 0 ∷ []) ∷
    []

unfoldable pub long_lines : List (List ℤ)
long_lines = aside 15 long_a ++ aside 15 long_b ++ aside 15 long_c

-- Table 101-4a, columns 1 to 11
abbrev short_a : List (List ℤ)
short_a =
    (to 142 ∷ to 158 ∷ to 113 ∷ to 124 ∷ to 92 ∷ to 44 ∷ to 93 ∷ to 70 ∷ to 172 ∷ to 3 ∷ to 25 ∷ []) ∷
    (to 54 ∷ to 172 ∷ to 145 ∷ to 28 ∷ to 55 ∷ to 19 ∷ to 159 ∷ to 22 ∷ to 96 ∷ to 12 ∷ to 85 ∷ []) ∷
    (to 63 ∷ to 11 ∷ to 112 ∷ to 114 ∷ to 61 ∷ to 123 ∷ to 72 ∷ to 55 ∷ to 114 ∷ to 20 ∷ to 53 ∷ []) ∷
    (to 28 ∷ to 160 ∷ to 102 ∷ to 44 ∷ to 8 ∷ to 84 ∷ to 126 ∷ to 9 ∷ to 169 ∷ to 174 ∷ to 147 ∷ []) ∷
    (to 52 ∷ to 159 ∷ to 75 ∷ to 74 ∷ to 46 ∷ to 71 ∷ to 42 ∷ to 11 ∷ to 108 ∷ to 153 ∷ none ∷ []) ∷
    []

-- Table 101-4b, columns 12 to 22
abbrev short_b : List (List ℤ)
short_b =
    (to 44 ∷ to 141 ∷ to 160 ∷ to 50 ∷ to 45 ∷ to 118 ∷ to 84 ∷ none ∷ to 64 ∷ to 66 ∷ to 97 ∷ []) ∷
    (none ∷ to 128 ∷ to 5 ∷ to 158 ∷ to 120 ∷ to 51 ∷ to 171 ∷ to 65 ∷ to 141 ∷ none ∷ to 42 ∷ []) ∷
    (to 114 ∷ to 42 ∷ to 33 ∷ to 4 ∷ to 66 ∷ to 163 ∷ to 50 ∷ to 46 ∷ to 17 ∷ to 175 ∷ none ∷ []) ∷
    (to 24 ∷ to 145 ∷ none ∷ to 26 ∷ none ∷ none ∷ none ∷ to 67 ∷ to 82 ∷ to 4 ∷ to 177 ∷ []) ∷
    (to 72 ∷ none ∷ to 163 ∷ none ∷ to 9 ∷ to 2 ∷ to 168 ∷ to 158 ∷ none ∷ to 1 ∷ to 49 ∷ []) ∷
    []

-- Table 101-4c, columns 23 to 33
abbrev short_c : List (List ℤ)
short_c =
    (to 1 ∷ to 115 ∷ to 8 ∷ to 108 ∷ none ∷ none ∷ to 22 ∷ none ∷ none ∷ none ∷ none ∷ []) ∷
    (to 83 ∷ to 7 ∷ none ∷ to 39 ∷ to 121 ∷ to 84 ∷ to 101 ∷ to 171 ∷ none ∷ none ∷ none ∷ []) ∷
    (none ∷ none ∷ to 92 ∷ none ∷ to 41 ∷ to 138 ∷ none ∷ to 34 ∷ to 74 ∷ none ∷ none ∷ []) ∷
    (to 151 ∷ to 131 ∷ to 139 ∷ to 117 ∷ to 36 ∷ to 18 ∷ none ∷ none ∷ to 23 ∷ to 8 ∷ none ∷ []) ∷
    (to 89 ∷ to 63 ∷ to 179 ∷ to 10 ∷ to 75 ∷ to 161 ∷ none ∷ none ∷ none ∷ to 177 ∷ to 19 ∷ []) ∷
    []

unfoldable pub short_lines : List (List ℤ)
short_lines = aside 11 short_a ++ aside 11 short_b ++ aside 11 short_c
