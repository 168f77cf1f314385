-- `word::judge` meets its contract.
use borrow.Author.Rules.{rules}
use mathlib.Core.Path.{◌≡◌}
use native.Mathlib.Omega.{arith}
use lib.Dec.{lit<}
use Rattle.std.specs.Prelude.{Some, None}
use Rattle.rules.specs.Bits.{need}
use Rattle.rules.specs.Matrix.{checks}
use Rattle.rules.specs.Table.{fibre}
use Rattle.rules.proofs.TableLaws.{fibre_fits}
use Rattle.running.proofs.Failing.{failing_counted, failing_none}
use Rattle.lists.proofs.Shortened.{shortened_lowest, shortened_nowhere}
use Rattle.word.proofs.Found.{scanned_lowest, scanned_some}
use Rattle.word.proofs.judge.Goals as goal

pub returns-in-Some : goal.returns-in-Some
returns-in-Some c = shortened_lowest c.in-Some.ensures.place c.in-Some.ensures.below

pub returns-then-count-eq0 : goal.returns-then-count-eq0
returns-then-count-eq0 c =
    let w = c.args.word.now in
    let ones = c.count_ones-count in
    let a = c.add_blocks.ensures in
    let none : c.first_shortened.result ≡ None = search rules in (
      shortened_nowhere (rw none at c.first_shortened.ensures.place) (omega arith),
      failing_none fibre (lit< tt) fibre_fits w _ ones.result (need (checks fibre)) a ones.ensures (omega arith)
          c.if-count-eq0.true,
    )

pub unwrap-row-requires : goal.unwrap-row-requires
unwrap-row-requires c =
    let w = c.args.word.now in
    let ones = c.count_ones-count in
    let a = c.add_blocks.ensures in
    let k = need (checks fibre) in
    let failing = failing_counted fibre (lit< tt) fibre_fits w _ ones.result k a ones.ensures (omega arith) in
    scanned_some fibre c.lowest_failing.result failing (λ e. omega arith) c.lowest_failing.ensures.row

pub returns : goal.returns
returns c =
    let w = c.args.word.now in
    let ones = c.count_ones-count in
    let a = c.add_blocks.ensures in
    let k = need (checks fibre) in
    let failing = failing_counted fibre (lit< tt) fibre_fits w _ ones.result k a ones.ensures (omega arith) in
    let none : c.first_shortened.result ≡ None = search rules in
    let found : c.lowest_failing.result ≡ Some c.unwrap-row.result = search rules in (
      shortened_nowhere (rw none at c.first_shortened.ensures.place) (omega arith),
      scanned_lowest fibre failing (λ e. omega arith) (rw found at c.lowest_failing.ensures.row),
      failing,
    )
