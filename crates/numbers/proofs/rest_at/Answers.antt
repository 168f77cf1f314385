-- `numbers::rest_at` meets its contract.
use borrow.Author.Rules.{rules}
use native.Mathlib.Omega.{arith}
use Rattle.numbers.proofs.Reading.{number_moved}
use Rattle.numbers.proofs.rest_at.Goals as goal

pub returns : goal.returns
returns c =
    let a = c.args in
    number_moved a.s.now a.byte a.weight (search rules) (omega arith) c.end_at.ensures
