-- `stream_refusals::piece` meets its contract: refusal 16, and then what a piece asks alone.
use borrow.Author.Rules.{rules}
use Rattle.rules.specs.Formats.{fibre_format}
use Rattle.stream_refusals.proofs.piece.Goals as goal

pub returns : goal.returns
returns c =
    let told = c.piece_alone.ensures (fibre_format c.args.first.now c.args.second.now) c.limits.ensures in
    search rules
