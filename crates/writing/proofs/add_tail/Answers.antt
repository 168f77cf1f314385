-- `writing::add_tail` meets its contract.
use lib.Dec.{lit≤}
use Rattle.rules.specs.Terms.{by_second}
use Rattle.writing.proofs.Tail.{tail_added}
use Rattle.writing.proofs.add_tail.Goals as goal

pub returns : goal.returns
returns c =
    let a = c.args in
    tail_added (by_second a.second.now) (lit≤ tt) a.parity.now a.delimiter c.pick_sent-sent.result
    a.at c.pick_sent-sent.ensures c.add_run.ensures
    (rw c.digits_of-digits.ensures at c.add_run-2.ensures)
