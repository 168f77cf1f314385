use borrow.Author.Rules.{rules}
use mathlib.Core.Path.{ap}
use Prim.Native.Nat.{◌+◌, ◌≤◌, ◌<◌}
use native.Mathlib.Nat.{mul-le-mul_left}
use native.Mathlib.Omega.{arith}
use lib.ListN.{length}
use Rattle.rules.specs.Coax.{coax_size, coax_columns, coax_code}
use Rattle.rules.proofs.TableLaws.{line_length, line_proper}
use Rattle.rules.proofs.CoaxLaws.{coax_fits, coax_lines_law, coax_numbers}
use Rattle.running.proofs.Blocks.{line_added, blocks_none, blocks_join}
use Rattle.running.proofs.CoaxBlocks.{blocks_counted}
use Rattle.running.proofs.coax.add_blocks.Goals as goal

pub loop-j-init : goal.loop-j-init
loop-j-init c =
    let a = c.args in
    (search rules, search rules, blocks_none (coax_code a.code) (coax_numbers a.code).some a.word.now _ a.from)

pub bounds-table-j : goal.bounds-table-j
bounds-table-j c = omega (arith, ap length c.table-table.ensures, coax_lines_law c.args.code)

pub add_line-requires : goal.add_line-requires
add_line-requires c =
    let code = c.args.code in
    let j = c.loop-j.j in
    let n = coax_numbers code in
    let some = n.some in
    let columns : j < coax_columns code = omega arith in
    let ends : j + 1 ≤ c.args.to = omega arith in
    let long = line_length (coax_code code) (coax_fits code) j columns in
    let same = c.loop-j.invariant.2.length_same in
    rw (c.size-size.ensures, c.table-table.ensures) (
      rw long record { bits = omega arith; counted = omega (arith, n.size) },
      record {
        bits = omega (arith, mul-le-mul_left (coax_size code) ends);
        counted = blocks_counted code (j + 1) (omega arith);
      },
      some,
      line_proper (coax_code code) (coax_fits code) j,
    )

pub loop-j-preserved : goal.loop-j-preserved
loop-j-preserved c =
    let a = c.args in
    let code = coax_code a.code in
    let some = (coax_numbers a.code).some in
    let j = c.loop-j.j in
    let line = rw (c.size-size.ensures, c.table-table.ensures) at c.add_line.ensures in
    let added = line_added code some a.word.now j (omega arith) line in
    let joined = blocks_join code some a.word.now a.from j (j + 1) (omega arith) (omega arith) c.loop-j.invariant.2
    added in
    (search rules, search rules, joined)
