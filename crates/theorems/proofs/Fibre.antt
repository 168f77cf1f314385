-- The fibre code's sizes are what the theorems ask, whatever lists are lent. So its theorems are those of any format,
-- at fibre_format a b.
--
--   fibre_sized    the sizes of the fibre code's format go together
use mathlib.Core.Path.{refl}
use mathlib.Core.List.{List}
use Prim.Native.Nat.{ℕ}
use lib.Dec.{lit<, lit≤}
use Rattle.rules.specs.Matrix.{places_of_payload}
use Rattle.rules.specs.Table.{fibre}
use Rattle.rules.specs.Formats.{fibre_format}
use Rattle.rules.proofs.TableLaws.{fibre_fits, line_length}
use Rattle.laws.proofs.Reorderings.{place_high}
use Rattle.theorems.specs.Sized.{Sized}

pub fibre_sized : (a b : List ℕ) → Sized (fibre_format a b)
fibre_sized a b = record {
  rows = lit≤ tt;
  whole = refl;
  some = lit< tt;
  most = lit≤ tt;
  sent = lit≤ tt;
  kept = λ t h. place_high (places_of_payload fibre) a t h;
  lines = line_length fibre fibre_fits;
}
