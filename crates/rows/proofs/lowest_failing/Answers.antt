use borrow.Author.Rules.{rules}
use borrow.Author.Count.{below_more}
use mathlib.Core.Path.{◌≡◌, refl, sym, ap, ◌∙◌}
use mathlib.Core.List.{List}
use Prim.Native.Nat.{ℕ, ◌/◌, ◌%◌, ◌<◌}
use native.Mathlib.Omega.{arith}
use lib.Dec.{lit<}
use Rattle.rules.specs.Bits.{bit}
use Rattle.rules.specs.Matrix.{total, check}
use Rattle.rules.specs.Table.{fibre}
use Rattle.rules.specs.Terms.{term}
use Rattle.rules.proofs.TableLaws.{fibre_fits, entry_read}
use Rattle.rules.proofs.Sums.{total_more}
use Rattle.rules.proofs.Checks.{check_columns}
use Rattle.laws.proofs.Bits.{bit<}
use Rattle.laws.proofs.Columns.{term_below}
use Rattle.rows.proofs.lowest_failing.Goals as goal

-- a term is 0 or 1
low : (w : List ℕ) (row j : ℕ) → term fibre row (bit w) j < 2
low w row j = term_below fibre (lit< tt) row (bit w) j (bit< w)

-- all terms are summed
summed : (w : List ℕ) (row ones j : ℕ) → ones ≡ total j (term fibre row (bit w)) → j ≡ fibre.columns
    → check fibre row (bit w) ≡ ones % 2
summed w row ones j e h =
    check_columns fibre (lit< tt) row (bit w)
    ∙ ap (λ (s : ℕ). s % 2) (sym (e ∙ ap (λ (j : ℕ). total j (term fibre row (bit w))) h))

pub loop-j-init : goal.loop-j-init
unfolding total
loop-j-init c = (search rules, search rules, refl)

pub term_of-requires : goal.term_of-requires
term_of-requires c =
    let i = c.loop-row.row / fibre.size in
    let read = entry_read fibre fibre_fits i c.loop-j.j (omega arith) (omega arith) in
    (search rules, search rules, search rules, rw c.table-table.ensures read)

pub loop-j-preserved : goal.loop-j-preserved
loop-j-preserved c =
    let l = c.loop-j in
    let w = c.args.word.now in (
      search rules,
      omega (arith, c.from-ones.ensures, c.term_of.ensures, low w c.loop-row.row l.j),
      rw (c.from-ones.ensures, c.term_of.ensures)
          (total_more (term fibre c.loop-row.row (bit w)) l.j l.ones l.invariant.2),
    )

pub loop-row-preserved : goal.loop-row-preserved
loop-row-preserved c =
    let l = c.loop-j in
    let w = c.args.word.now in
    let e = summed w c.loop-row.row l.ones l.j l.invariant.2 (omega arith) in
    (search rules, below_more _ c.loop-row.row c.loop-row.invariant.1 (omega (arith, e)))

pub returns-then-ones-eq1 : goal.returns-then-ones-eq1
returns-then-ones-eq1 c =
    let l = c.loop-j in
    let w = c.args.word.now in
    let e = summed w c.loop-row.row l.ones l.j l.invariant.2 (omega arith) in
    record {
      row = record { within = search rules; hold = c.loop-row.invariant.1; fails = λ h. omega (arith, e) };
      below = search rules;
    }
