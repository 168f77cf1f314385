-- The four facts for Tables 101-3 and 101-4 of source document 001: blocks of 360 or of 180, 45 or 33 lines, 16,200 or
-- 5,940 places, 1,800 or 900 checks.
--
--   coax_none_empty, coax_none_alike  the two computed tests over each table's lines
--   coax_sum                          fact 1
--   coax_turn                         fact 2
--   coax_breaks_own, coax_breaks      fact 3
--   coax_apart                        fact 4
use lib.Dec.{T}
use Rattle.rules.specs.Matrix.{entry}
use Rattle.rules.specs.CoaxTables.{long_lines, short_lines}
use Rattle.rules.specs.Coax.{coax_code}
use Rattle.rules.specs.declared.CoaxCode.{CoaxCode}
use Rattle.rules.specs.declared.CoaxCode.TheVariants.{Long, Short}
use Rattle.facts.specs.Claims.{SumKeeps, TurnKeeps, ChangeBreaksOwn, ChangeBreaks, PlacesApart}
use Rattle.facts.specs.Lines.{none_empty, none_alike}
use Rattle.facts.proofs.Keeping.{sum_keeps, turn_keeps}
use Rattle.facts.proofs.Breaking.{change_breaks_own, change_breaks}
use Rattle.facts.proofs.Apart.{places_apart}

pub coax_none_empty : (k : CoaxCode) → T (none_empty (coax_code k))
unfolding entry long_lines short_lines
coax_none_empty Long = tt
coax_none_empty Short = tt

pub coax_none_alike : (k : CoaxCode) → T (none_alike (coax_code k))
unfolding entry long_lines short_lines
coax_none_alike Long = tt
coax_none_alike Short = tt

pub coax_sum : (k : CoaxCode) → SumKeeps (coax_code k)
coax_sum k = sum_keeps (coax_code k)

pub coax_turn : (k : CoaxCode) → TurnKeeps (coax_code k)
coax_turn k = turn_keeps (coax_code k)

pub coax_breaks_own : (k : CoaxCode) → ChangeBreaksOwn (coax_code k)
coax_breaks_own k = change_breaks_own (coax_code k)

pub coax_breaks : (k : CoaxCode) → ChangeBreaks (coax_code k)
coax_breaks k = change_breaks (coax_code k) (coax_none_empty k)

pub coax_apart : (k : CoaxCode) → PlacesApart (coax_code k)
coax_apart k = places_apart (coax_code k) (coax_none_empty k) (coax_none_alike k)
