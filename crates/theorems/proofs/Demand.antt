-- Demand 3 of the three codes: one theorem over what a code fixes, cited for each.
--
--   demand_three               it holds of any format of a code that has one parity, and one only, for all checks,
--                              where the format's sizes go together
--   fibre_demand               of the fibre code, whatever lists are lent
--   coax_demand                of either coax code
--   long_demand, short_demand  so of the two, each by its own table
use mathlib.Core.List.{List}
use Prim.Native.Nat.{ℕ}
use Rattle.rules.specs.Formats.{Format, fibre_format}
use Rattle.rules.specs.Coax.{coax_format}
use Rattle.rules.specs.declared.CoaxCode.{CoaxCode}
use Rattle.rules.specs.declared.CoaxCode.TheVariants.{Long, Short}
use Rattle.laws.proofs.Parities.{OneParity}
use Rattle.parity.proofs.Single.{fibre_one}
use Rattle.parity.proofs.CoaxSolved.{coax_one}
use Rattle.theorems.specs.Sized.{Sized}
use Rattle.theorems.specs.Demand.{DemandThree}
use Rattle.theorems.proofs.Streams.{running, served, piece_accepted, cut_alike}
use Rattle.theorems.proofs.Streams.{no_cut_told, finish_encodes, fresh_again}
use Rattle.theorems.proofs.Fibre.{fibre_sized}
use Rattle.theorems.proofs.Coax.{coax_sized}

pub demand_three : (f : Format) → OneParity f.code → Sized f → DemandThree f
demand_three f one sized = record {
  takes = piece_accepted f sized;
  running = running f;
  served = served f sized;
  alike = cut_alike f;
  not_told = no_cut_told f one sized;
  encodes = finish_encodes f one sized;
  again = fresh_again f;
}

pub fibre_demand : (a b : List ℕ) → DemandThree (fibre_format a b)
fibre_demand a b = demand_three (fibre_format a b) fibre_one (fibre_sized a b)

pub coax_demand : (k : CoaxCode) → DemandThree (coax_format k)
coax_demand k = demand_three (coax_format k) (coax_one k) (coax_sized k)

pub long_demand : DemandThree (coax_format Long)
long_demand = coax_demand Long

pub short_demand : DemandThree (coax_format Short)
short_demand = coax_demand Short
