-- `line::check` meets its contract: the line word that is judged is one that the check takes.
use borrow.Author.Rules.{rules}
use mathlib.Core.Path.{◌≡◌}
use Rattle.rules.specs.Answers.{told}
use Rattle.rules.specs.Formats.{fibre_format}
use Rattle.laws.proofs.Asked.{line_asked}
use Rattle.line.proofs.check.Goals as goal

pub judge-requires : goal.judge-requires
judge-requires c =
    let a = c.args in
    let none : told c.check_line.result ≡ 0 = search rules in
    line_asked (fibre_format a.first.now a.second.now) none a.count a.line.now a.delimiter c.check_line.ensures
