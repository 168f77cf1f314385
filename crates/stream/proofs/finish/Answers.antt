-- `stream::finish` meets its contract: the tail that is written is of a stream that the finish takes.
use borrow.Author.Rules.{rules}
use mathlib.Core.Path.{◌≡◌}
use lib.ListN.{length}
use Rattle.rules.specs.Answers.{told}
use Rattle.rules.specs.Formats.{fibre_format}
use Rattle.laws.proofs.Asked.{finish_asked}
use Rattle.stream.proofs.finish.Goals as goal

pub write_tail-requires : goal.write_tail-requires
write_tail-requires c =
    let a = c.args in
    let none : told c.finish.result ≡ 0 = search rules in
    let asked =
    finish_asked (fibre_format a.first.now a.second.now) none a.stream.now a.delimiter
    (length a.tail.now) c.finish.ensures in
    (asked.lists.1, asked.fits)
