-- `line::encode` meets its contract: the payload that is written is one that encode takes.
use borrow.Author.Rules.{rules}
use mathlib.Core.Path.{◌≡◌}
use lib.ListN.{length}
use Rattle.rules.specs.Answers.{told}
use Rattle.rules.specs.Formats.{fibre_format}
use Rattle.laws.proofs.Asked.{encode_asked}
use Rattle.line.proofs.encode.Goals as goal

pub returns-in_err-encode : goal.returns-in_err-encode
returns-in_err-encode c = record { told = search rules; effect = search rules }

pub write-requires : goal.write-requires
write-requires c =
    let a = c.args in
    let none : told c.encode.result ≡ 0 = search rules in
    encode_asked (fibre_format a.first.now a.second.now) none a.count a.payload.now a.delimiter (length a.line.now)
    c.encode.ensures
