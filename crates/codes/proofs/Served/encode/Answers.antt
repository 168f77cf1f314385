-- The lists that the fibre code is lent are those of the pair.
use Rattle.codes.proofs.Served.encode.Goals as goal

pub returns-in-Fibre : goal.returns-in-Fibre
returns-in-Fibre c =
    rw (c.in-Fibre.is, ← c.split.ensures.first, ← c.split.ensures.second) c.encode.ensures
