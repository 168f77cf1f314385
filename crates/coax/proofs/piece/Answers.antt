-- `coax::piece` meets its contract: the piece that is added is one that the stream takes.
use borrow.Author.Rules.{rules}
use mathlib.Core.Path.{◌≡◌}
use native.Mathlib.Omega.{arith}
use lib.ListN.{length}
use Rattle.rules.specs.Answers.{told}
use Rattle.rules.specs.Streams.{stream_bytes}
use Rattle.rules.specs.Coax.{coax_format}
use Rattle.rules.proofs.CoaxLaws.{coax_numbers}
use Rattle.laws.proofs.Asked.{piece_asked}
use Rattle.coax.proofs.piece.Goals as goal

pub returns-in_err-piece_alone : goal.returns-in_err-piece_alone
returns-in_err-piece_alone c =
    let refusal = c.piece_alone.ensures (coax_format c.args.code) c.limits.ensures in
    record { told = search rules; effect = search rules }

pub add_piece-requires : goal.add_piece-requires
add_piece-requires c =
    let a = c.args in
    let f = coax_format a.code in
    let none : told c.piece_alone.result ≡ 0 = search rules in
    let asked = piece_asked f none a.stream.now a.count a.bytes.now (c.piece_alone.ensures f c.limits.ensures) in
    let long : stream_bytes ≡ length a.stream.now.checks = search rules in (
      omega (arith, long, (coax_numbers a.code).size),
      omega (arith, asked.most),
      omega (arith, asked.piece.bytes),
    )

pub overflow_add-stream : goal.overflow_add-stream
overflow_add-stream c =
    let a = c.args in
    let f = coax_format a.code in
    let none : told c.piece_alone.result ≡ 0 = search rules in
    let asked = piece_asked f none a.stream.now a.count a.bytes.now (c.piece_alone.ensures f c.limits.ensures) in
    record { fits = omega (arith, asked.most, (coax_numbers a.code).payload) }
