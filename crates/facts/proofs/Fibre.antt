-- The four facts for Table 142-1: blocks of 256, 69 lines, 17,664 places, 3,072 checks.
--
--   none_empty_law, none_alike_law  the two computed tests over the table's lines
--   fibre_sum                       fact 1
--   fibre_turn                      fact 2
--   fibre_breaks_own, fibre_breaks  fact 3
--   fibre_apart                     fact 4
use lib.Dec.{T}
use Rattle.rules.specs.Matrix.{entry}
use Rattle.rules.specs.Table.{lines, fibre}
use Rattle.facts.specs.Claims.{SumKeeps, TurnKeeps, ChangeBreaksOwn, ChangeBreaks, PlacesApart}
use Rattle.facts.specs.Lines.{none_empty, none_alike}
use Rattle.facts.proofs.Keeping.{sum_keeps, turn_keeps}
use Rattle.facts.proofs.Breaking.{change_breaks_own, change_breaks}
use Rattle.facts.proofs.Apart.{places_apart}

pub none_empty_law : T (none_empty fibre)
unfolding entry lines
none_empty_law = tt

pub none_alike_law : T (none_alike fibre)
unfolding entry lines
none_alike_law = tt

pub fibre_sum : SumKeeps fibre
fibre_sum = sum_keeps fibre

pub fibre_turn : TurnKeeps fibre
fibre_turn = turn_keeps fibre

pub fibre_breaks_own : ChangeBreaksOwn fibre
fibre_breaks_own = change_breaks_own fibre

pub fibre_breaks : ChangeBreaks fibre
fibre_breaks = change_breaks fibre none_empty_law

pub fibre_apart : PlacesApart fibre
fibre_apart = places_apart fibre none_empty_law none_alike_law
