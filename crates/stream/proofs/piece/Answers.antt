-- `stream::piece` meets its contract: the piece that is added is one that the stream takes.
use borrow.Author.Rules.{rules}
use mathlib.Core.Path.{◌≡◌}
use native.Mathlib.Omega.{arith}
use Rattle.rules.specs.Answers.{told}
use Rattle.rules.specs.Formats.{fibre_format}
use Rattle.laws.proofs.Asked.{piece_asked}
use Rattle.stream.proofs.piece.Goals as goal

pub add_piece-requires : goal.add_piece-requires
add_piece-requires c =
    let a = c.args in
    let none : told c.piece.result ≡ 0 = search rules in
    let asked =
    piece_asked (fibre_format a.first.now a.second.now) none a.stream.now a.count a.bytes.now
    c.piece.ensures in
    (search rules, omega (arith, asked.most), omega (arith, asked.piece.bytes), asked.lists.0)
