-- `line::compare` meets its contract.
use borrow.Author.Rules.{rules}
use mathlib.Core.Path.{◌≡◌}
use native.Mathlib.Omega.{arith}
use lib.Dec.{lit≤}
use Rattle.std.specs.Prelude.{None}
use Rattle.line.proofs.Compared.{difference_lowest, difference_none, bytes_differ, digits_differ}
use Rattle.line.proofs.compare.Goals as goal

pub returns-in-Some-first_difference : goal.returns-in-Some-first_difference
returns-in-Some-first_difference c =
    let sent = c.pick_sent-sent in
    let d = c.args.delimiter in
    let found = c.in-Some-first_difference.ensures in
    let none : c.first_difference.result ≡ None = search rules in (
      difference_none (bytes_differ sent.result _ sent.ensures (rw none at c.first_difference.ensures.place))
          (omega arith),
      difference_lowest (digits_differ d (lit≤ tt) c.digits_of-digits.ensures found.place) found.below,
    )

pub returns-in-None : goal.returns-in-None
returns-in-None c =
    let sent = c.pick_sent-sent in
    let d = c.args.delimiter in
    let none : c.first_difference.result ≡ None = search rules in (
      difference_none (bytes_differ sent.result _ sent.ensures (rw none at c.first_difference.ensures.place))
          (omega arith),
      difference_none (digits_differ d (lit≤ tt) c.digits_of-digits.ensures c.in-None.ensures.place) (omega arith),
    )
