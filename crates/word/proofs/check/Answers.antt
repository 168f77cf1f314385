-- `word::check` meets its contract: the word that is judged is one that the check takes.
use borrow.Author.Rules.{rules}
use mathlib.Core.Path.{◌≡◌}
use native.Mathlib.Omega.{arith}
use Rattle.rules.specs.Answers.{told}
use Rattle.rules.specs.Formats.{fibre_format}
use Rattle.laws.proofs.Asked.{word_asked}
use Rattle.word.proofs.check.Goals as goal

pub judge-requires : goal.judge-requires
judge-requires c =
    let a = c.args in
    let none : told c.check_word.result ≡ 0 = search rules in
    let asked =
    word_asked (fibre_format a.first.now a.second.now) none a.count a.word.now
    c.check_word.ensures in
    (omega (arith, asked.count.most), asked.bytes, asked.lists.0)
