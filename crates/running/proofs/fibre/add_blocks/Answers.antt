use borrow.Author.Rules.{rules}
use Prim.Native.Nat.{◌+◌}
use native.Mathlib.Omega.{arith}
use lib.Dec.{lit<}
use Rattle.rules.specs.Table.{fibre}
use Rattle.rules.proofs.TableLaws.{fibre_fits, line_length, line_proper}
use Rattle.running.proofs.Blocks.{line_added, blocks_none, blocks_join}
use Rattle.running.proofs.fibre.add_blocks.Goals as goal

pub loop-j-init : goal.loop-j-init
loop-j-init c =
    let a = c.args in
    (search rules, search rules, blocks_none fibre (lit< tt) a.word.now _ a.from)

pub add_line-requires : goal.add_line-requires
add_line-requires c =
    let table = c.table-table.ensures in
    let j = c.loop-j.j in
    let long = line_length fibre fibre_fits j (omega arith) in
    let same = c.loop-j.invariant.2.length_same in (
      rw table record { bits = omega arith; counted = omega arith },
      record { bits = omega arith; counted = omega arith },
      search rules,
      rw table (line_proper fibre fibre_fits j),
    )

pub loop-j-preserved : goal.loop-j-preserved
loop-j-preserved c =
    let w = c.args.word.now in
    let from = c.args.from in
    let j = c.loop-j.j in
    let line = rw c.table-table.ensures at c.add_line.ensures in
    let added = line_added fibre (lit< tt) w j (omega arith) line in
    let joined = blocks_join fibre (lit< tt) w from j (j + 1) (omega arith) (omega arith) c.loop-j.invariant.2 added in
    (search rules, search rules, joined)
