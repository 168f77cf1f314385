-- Paper 01, 'The matrix': Table 142-1, as printed: 69 lines of 12 entries, C1 to C12. `to a` is the entry a, and
-- `none` is -1.
--
--   lines    the table
--   fibre    the code of 25G passive optical Ethernet: blocks of 256, 12 block rows, 69 block columns; lines 58 to 69
--            are parity
--
-- Believe this file beside the paper. TableLaws proves its range and its counts.
use Rattle.std.specs.Prelude.{List, [], ◌∷◌, ℤ, pos as to, negsuc}
use Rattle.rules.specs.Matrix.{Code}

abbrev none : ℤ
none = negsuc 0

unfoldable pub lines : List (List ℤ)
lines =
    (to 80 ∷ none ∷ none ∷ to 105 ∷ none ∷ none ∷ to 137 ∷ none ∷ none ∷ to 0 ∷ to 209 ∷ to 53 ∷ []) ∷
    (none ∷ to 0 ∷ to 91 ∷ none ∷ to 170 ∷ to 46 ∷ none ∷ to 118 ∷ to 208 ∷ none ∷ none ∷ none ∷ []) ∷
    (none ∷ none ∷ none ∷ none ∷ to 250 ∷ none ∷ to 104 ∷ to 15 ∷ to 0 ∷ none ∷ to 252 ∷ to 93 ∷ []) ∷
    (to 60 ∷ to 0 ∷ to 74 ∷ to 87 ∷ none ∷ to 37 ∷ none ∷ none ∷ none ∷ to 123 ∷ none ∷ none ∷ []) ∷
    (to 169 ∷ none ∷ none ∷ none ∷ none ∷ none ∷ to 238 ∷ to 93 ∷ to 0 ∷ none ∷ to 39 ∷ to 216 ∷ []) ∷
    (none ∷ to 0 ∷ to 237 ∷ to 43 ∷ to 195 ∷ to 49 ∷ none ∷ none ∷ none ∷ to 41 ∷ none ∷ none ∷ []) ∷
    (to 11 ∷ none ∷ to 202 ∷ none ∷ to 139 ∷ to 150 ∷ none ∷ none ∷ to 0 ∷ to 191 ∷ none ∷ none ∷ []) ∷
    (none ∷ to 0 ∷ none ∷ to 165 ∷ none ∷ none ∷ to 228 ∷ to 228 ∷ none ∷ none ∷ to 159 ∷ to 57 ∷ []) ∷
    (to 143 ∷ none ∷ none ∷ none ∷ none ∷ to 65 ∷ none ∷ none ∷ to 0 ∷ to 211 ∷ to 69 ∷ to 9 ∷ []) ∷
    (none ∷ to 0 ∷ to 201 ∷ to 180 ∷ to 135 ∷ none ∷ to 225 ∷ to 78 ∷ none ∷ none ∷ none ∷ none ∷ []) ∷
    (none ∷ none ∷ to 136 ∷ none ∷ none ∷ none ∷ to 247 ∷ none ∷ to 0 ∷ to 217 ∷ to 37 ∷ to 130 ∷ []) ∷
    (to 222 ∷ to 0 ∷ none ∷ to 80 ∷ to 92 ∷ to 177 ∷ none ∷ to 16 ∷ none ∷ none ∷ none ∷ none ∷ []) ∷
    (none ∷ none ∷ to 178 ∷ to 227 ∷ none ∷ to 144 ∷ none ∷ to 0 ∷ none ∷ to 243 ∷ to 134 ∷ none ∷ []) ∷
    (to 59 ∷ to 0 ∷ none ∷ none ∷ to 147 ∷ none ∷ to 191 ∷ none ∷ to 251 ∷ none ∷ none ∷ to 130 ∷ []) ∷
    (none ∷ none ∷ to 239 ∷ to 221 ∷ none ∷ to 70 ∷ none ∷ to 48 ∷ to 0 ∷ to 97 ∷ none ∷ none ∷ []) ∷
    (to 218 ∷ to 0 ∷ none ∷ none ∷ to 1 ∷ none ∷ to 177 ∷ none ∷ none ∷ none ∷ to 201 ∷ to 238 ∷ []) ∷
    (none ∷ none ∷ to 183 ∷ to 77 ∷ none ∷ to 95 ∷ none ∷ to 0 ∷ none ∷ to 252 ∷ to 49 ∷ none ∷ []) ∷
    (none ∷ to 0 ∷ none ∷ none ∷ none ∷ none ∷ to 255 ∷ none ∷ to 44 ∷ none ∷ none ∷ none ∷ []) ∷
    (to 178 ∷ to 0 ∷ none ∷ none ∷ none ∷ none ∷ none ∷ none ∷ to 123 ∷ none ∷ none ∷ none ∷ []) ∷
    (none ∷ none ∷ to 217 ∷ to 0 ∷ none ∷ to 221 ∷ none ∷ none ∷ none ∷ none ∷ none ∷ none ∷ []) ∷
    (none ∷ to 0 ∷ none ∷ none ∷ to 13 ∷ none ∷ none ∷ to 62 ∷ none ∷ none ∷ none ∷ none ∷ []) ∷
    (none ∷ none ∷ to 232 ∷ none ∷ none ∷ none ∷ none ∷ none ∷ none ∷ to 0 ∷ to 104 ∷ none ∷ []) ∷
    (none ∷ none ∷ none ∷ none ∷ none ∷ none ∷ to 192 ∷ to 0 ∷ none ∷ none ∷ none ∷ to 144 ∷ []) ∷
    (none ∷ none ∷ none ∷ none ∷ to 98 ∷ to 192 ∷ none ∷ none ∷ to 0 ∷ none ∷ none ∷ none ∷ []) ∷
    (to 105 ∷ to 0 ∷ none ∷ to 16 ∷ none ∷ none ∷ none ∷ none ∷ none ∷ none ∷ none ∷ none ∷ []) ∷
    (none ∷ none ∷ to 169 ∷ none ∷ none ∷ to 128 ∷ none ∷ to 0 ∷ none ∷ none ∷ none ∷ none ∷ []) ∷
    (none ∷ none ∷ none ∷ none ∷ to 142 ∷ none ∷ none ∷ none ∷ to 0 ∷ none ∷ to 129 ∷ none ∷ []) ∷
    (to 19 ∷ to 0 ∷ none ∷ none ∷ none ∷ none ∷ to 51 ∷ none ∷ none ∷ none ∷ none ∷ none ∷ []) ∷
    (none ∷ none ∷ none ∷ none ∷ none ∷ to 214 ∷ none ∷ none ∷ none ∷ to 0 ∷ none ∷ to 162 ∷ []) ∷
    (none ∷ none ∷ none ∷ to 252 ∷ none ∷ none ∷ none ∷ none ∷ none ∷ none ∷ to 157 ∷ to 0 ∷ []) ∷
    (to 126 ∷ none ∷ none ∷ none ∷ to 225 ∷ none ∷ none ∷ to 0 ∷ none ∷ none ∷ none ∷ none ∷ []) ∷
    (none ∷ none ∷ none ∷ to 96 ∷ none ∷ none ∷ none ∷ none ∷ to 0 ∷ to 41 ∷ none ∷ none ∷ []) ∷
    (none ∷ to 0 ∷ to 129 ∷ none ∷ none ∷ none ∷ to 195 ∷ none ∷ none ∷ none ∷ none ∷ none ∷ []) ∷
    (none ∷ none ∷ to 60 ∷ to 0 ∷ none ∷ none ∷ none ∷ none ∷ none ∷ none ∷ to 222 ∷ none ∷ []) ∷
    (to 211 ∷ none ∷ none ∷ none ∷ none ∷ to 51 ∷ to 0 ∷ none ∷ none ∷ none ∷ none ∷ none ∷ []) ∷
    (none ∷ none ∷ none ∷ none ∷ none ∷ none ∷ none ∷ none ∷ to 0 ∷ to 29 ∷ none ∷ to 175 ∷ []) ∷
    (none ∷ to 0 ∷ none ∷ none ∷ to 23 ∷ none ∷ none ∷ to 112 ∷ none ∷ none ∷ none ∷ none ∷ []) ∷
    (none ∷ none ∷ none ∷ none ∷ to 108 ∷ none ∷ to 172 ∷ none ∷ none ∷ to 0 ∷ none ∷ none ∷ []) ∷
    (none ∷ none ∷ none ∷ to 17 ∷ none ∷ to 100 ∷ none ∷ to 0 ∷ none ∷ none ∷ none ∷ none ∷ []) ∷
    (none ∷ to 0 ∷ to 19 ∷ none ∷ none ∷ none ∷ none ∷ none ∷ none ∷ none ∷ none ∷ to 145 ∷ []) ∷
    (to 247 ∷ none ∷ to 76 ∷ none ∷ none ∷ none ∷ none ∷ none ∷ to 0 ∷ none ∷ none ∷ none ∷ []) ∷
    (none ∷ none ∷ none ∷ none ∷ none ∷ to 19 ∷ none ∷ none ∷ none ∷ none ∷ to 139 ∷ to 0 ∷ []) ∷
    (to 255 ∷ none ∷ none ∷ none ∷ none ∷ none ∷ none ∷ none ∷ none ∷ to 0 ∷ to 39 ∷ none ∷ []) ∷
    (none ∷ to 0 ∷ none ∷ none ∷ none ∷ none ∷ to 219 ∷ none ∷ to 153 ∷ none ∷ none ∷ none ∷ []) ∷
    (none ∷ none ∷ none ∷ to 219 ∷ to 0 ∷ to 235 ∷ none ∷ none ∷ none ∷ none ∷ none ∷ none ∷ []) ∷
    (to 85 ∷ none ∷ none ∷ none ∷ none ∷ none ∷ none ∷ to 0 ∷ none ∷ none ∷ none ∷ to 36 ∷ []) ∷
    (none ∷ none ∷ to 77 ∷ none ∷ to 0 ∷ none ∷ to 236 ∷ none ∷ none ∷ none ∷ none ∷ none ∷ []) ∷
    (none ∷ to 0 ∷ none ∷ to 198 ∷ none ∷ none ∷ none ∷ none ∷ none ∷ to 193 ∷ none ∷ none ∷ []) ∷
    (none ∷ none ∷ none ∷ to 165 ∷ none ∷ none ∷ none ∷ none ∷ to 0 ∷ none ∷ to 203 ∷ none ∷ []) ∷
    (none ∷ none ∷ none ∷ none ∷ none ∷ none ∷ to 136 ∷ to 0 ∷ none ∷ to 145 ∷ none ∷ none ∷ []) ∷
    (none ∷ none ∷ to 2 ∷ none ∷ none ∷ none ∷ none ∷ to 0 ∷ none ∷ none ∷ to 94 ∷ none ∷ []) ∷
    (none ∷ none ∷ none ∷ none ∷ to 135 ∷ none ∷ none ∷ none ∷ to 0 ∷ none ∷ none ∷ to 91 ∷ []) ∷
    (to 246 ∷ to 0 ∷ none ∷ none ∷ none ∷ to 4 ∷ none ∷ none ∷ none ∷ none ∷ none ∷ none ∷ []) ∷
    (to 94 ∷ none ∷ none ∷ to 36 ∷ none ∷ none ∷ to 0 ∷ none ∷ none ∷ none ∷ none ∷ none ∷ []) ∷
    (none ∷ none ∷ to 101 ∷ none ∷ none ∷ none ∷ none ∷ none ∷ none ∷ to 0 ∷ none ∷ to 22 ∷ []) ∷
    (none ∷ none ∷ none ∷ none ∷ none ∷ to 251 ∷ none ∷ to 22 ∷ to 0 ∷ none ∷ none ∷ none ∷ []) ∷
    (none ∷ to 0 ∷ none ∷ none ∷ to 121 ∷ none ∷ none ∷ none ∷ none ∷ none ∷ to 194 ∷ none ∷ []) ∷
    (none ∷ none ∷ to 217 ∷ none ∷ to 0 ∷ none ∷ to 159 ∷ none ∷ none ∷ none ∷ none ∷ none ∷ []) ∷
    (none ∷ none ∷ none ∷ to 171 ∷ none ∷ to 109 ∷ none ∷ none ∷ none ∷ none ∷ none ∷ to 0 ∷ []) ∷
    (to 242 ∷ none ∷ none ∷ none ∷ none ∷ none ∷ none ∷ none ∷ none ∷ none ∷ to 3 ∷ to 0 ∷ []) ∷
    (none ∷ to 0 ∷ none ∷ none ∷ none ∷ none ∷ to 10 ∷ none ∷ none ∷ none ∷ none ∷ to 212 ∷ []) ∷
    (none ∷ none ∷ to 48 ∷ none ∷ none ∷ none ∷ none ∷ to 0 ∷ none ∷ to 140 ∷ none ∷ none ∷ []) ∷
    (none ∷ none ∷ none ∷ none ∷ none ∷ none ∷ none ∷ to 0 ∷ none ∷ to 46 ∷ to 43 ∷ none ∷ []) ∷
    (none ∷ none ∷ none ∷ to 228 ∷ to 0 ∷ none ∷ none ∷ none ∷ none ∷ none ∷ to 153 ∷ none ∷ []) ∷
    (to 129 ∷ none ∷ none ∷ none ∷ none ∷ to 140 ∷ none ∷ none ∷ none ∷ none ∷ none ∷ to 0 ∷ []) ∷
    (none ∷ none ∷ none ∷ none ∷ none ∷ none ∷ to 5 ∷ none ∷ to 0 ∷ to 58 ∷ none ∷ none ∷ []) ∷
    (to 19 ∷ none ∷ none ∷ none ∷ to 46 ∷ none ∷ none ∷ none ∷ to 0 ∷ none ∷ none ∷ none ∷ []) ∷
    (to 58 ∷ to 0 ∷ to 172 ∷ to 39 ∷ to 242 ∷ to 193 ∷ to 25 ∷ to 120 ∷ to 16 ∷ to 202 ∷ to 207 ∷ to 69 ∷ []) ∷
    (to 27 ∷ none ∷ to 42 ∷ to 234 ∷ to 228 ∷ to 241 ∷ to 94 ∷ to 192 ∷ to 0 ∷ to 215 ∷ to 109 ∷ to 88 ∷ []) ∷
    []

abbrev pub fibre : Code
fibre = record { size = 256; rows = 12; columns = 69; table = lines }
