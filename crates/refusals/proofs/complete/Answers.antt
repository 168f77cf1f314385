-- `refusals::complete` meets its contract: the word that refusal 8 is tested on is one that the full-word check takes.
use borrow.Author.Rules.{rules}
use mathlib.Core.Path.{◌≡◌}
use native.Mathlib.Omega.{arith}
use Rattle.rules.specs.Formats.{fibre_format}
use Rattle.rules.specs.Answers.{told}
use Rattle.laws.proofs.Asked.{word_asked}
use Rattle.refusals.proofs.complete.Goals as goal

pub shortened_set-requires : goal.shortened_set-requires
shortened_set-requires c =
    let a = c.args in
    let f = fibre_format a.first.now a.second.now in
    let none : told c.check_word.result ≡ 0 = search rules in
    let asked = word_asked f none a.count a.word.now c.check_word.ensures in
    (omega (arith, asked.count.most), asked.bytes, asked.lists.0)
