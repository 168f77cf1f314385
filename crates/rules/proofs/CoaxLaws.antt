-- The facts of Tables 101-3 and 101-4 of source document 001, by one computed test over the whole of each; and the
-- numbers of the coax codes.
--
--   coax_facts      Table 101-3: 45 lines of 5 entries, 225 in all, each from -1 to 359; 169 are not -1, of which 9
--                   are in lines 41 to 45. Table 101-4: 33 lines of 5, 165 in all, from -1 to 179; 131 are not -1, of
--                   which 9 are in lines 29 to 33
--   coax_fits       so both pass the test of a table
--   coax_lines_law  a table has as many lines as there are block columns
--   Numbers k       what the code k's numbers have in common; coax_numbers shows it
--   coax_places     they are the source document's: 16,200 or 5,940 places, 14,400 or 5,040 of payload, 1,800 or 900
--                   checks
use mathlib.Core.Path.{◌≡◌, refl}
use mathlib.Core.Bool.{Bool}
use Prim.Native.Nat.{◌+◌, ◌*◌, ◌/◌, ◌≤◌, ◌<◌}
use lib.Dec.{T, lit<, lit≤}
use lib.ListN.{length}
use Rattle.rules.specs.Matrix.{places, checks, places_of_payload}
use Rattle.rules.specs.CoaxTables.{long_lines, short_lines}
use Rattle.rules.specs.Coax.{coax_size, coax_columns, coax_lines, coax_code}
use Rattle.rules.specs.declared.CoaxCode.{CoaxCode}
use Rattle.rules.specs.declared.CoaxCode.TheVariants.{Long, Short}
use Rattle.rules.proofs.Tests.{both, both_left}
use Rattle.rules.proofs.TableLaws.{fits, counts}

abbrev coax_counts : CoaxCode → Bool
coax_counts Long = counts 225 169 40 9 long_lines
coax_counts Short = counts 165 131 28 9 short_lines

pub coax_facts : (k : CoaxCode) → T (both (fits (coax_code k)) (coax_counts k))
unfolding long_lines short_lines
coax_facts Long = tt
coax_facts Short = tt

pub coax_fits : (k : CoaxCode) → T (fits (coax_code k))
coax_fits k = both_left (fits (coax_code k)) (coax_counts k) (coax_facts k)

pub coax_lines_law : (k : CoaxCode) → length (coax_lines k) ≡ coax_columns k
unfolding long_lines short_lines
coax_lines_law Long = refl
coax_lines_law Short = refl

pub coax_places : (places (coax_code Long) ≡ 16200) × (places (coax_code Short) ≡ 5940)
    × (places_of_payload (coax_code Long) ≡ 14400) × (places_of_payload (coax_code Short) ≡ 5040)
    × (checks (coax_code Long) ≡ 1800) × (checks (coax_code Short) ≡ 900)
coax_places = (refl, refl, refl, refl, refl, refl)

pub record Numbers (k : CoaxCode) : Type 0 where
  pub some : 0 < coax_size k
  pub size : coax_size k ≤ 360
  pub parts : places (coax_code k) ≡ places_of_payload (coax_code k) + checks (coax_code k)
  pub payload : places_of_payload (coax_code k) ≤ 14400
  pub whole : 8 * (places_of_payload (coax_code k) / 8) ≡ places_of_payload (coax_code k)
  pub rows : 5 ≤ coax_columns k

pub coax_numbers : (k : CoaxCode) → Numbers k
coax_numbers Long =
    record { some = lit< tt; size = lit≤ tt; parts = refl; payload = lit≤ tt; whole = refl; rows = lit≤ tt }
coax_numbers Short =
    record { some = lit< tt; size = lit≤ tt; parts = refl; payload = lit≤ tt; whole = refl; rows = lit≤ tt }
