use borrow.Author.Rules.{rules}
use mathlib.Core.Path.{◌≡◌, ap, ◌∙◌}
use Prim.Native.Nat.{ℕ, ◌*◌, ◌%◌, ◌^◌, ◌<◌}
use native.Mathlib.Omega.{arith}
use lib.Dec.{lit<}
use lib.Pow.{shl_exact}
use Rattle.laws.proofs.Runs.{placed_none}
use Rattle.laws.proofs.Adds.{adds_none}
use Rattle.numbers.proofs.Storing.{adds_moved, rest_more, rest_all}
use Rattle.numbers.proofs.add_rest.Goals as goal

-- 1 shifted by fewer than 64
unit : (n : ℕ) → n < 64 → (1 * 2 ^ n) % 2 ^ 64 ≡ 2 ^ n
unit n h = shl_exact 1 n 64 (lit< tt) (omega arith) ∙ omega arith

pub loop-i-init : goal.loop-i-init
loop-i-init c = (search rules, search rules, search rules, adds_none _ _ (placed_none _ _))

pub loop-i-preserved : goal.loop-i-preserved
loop-i-preserved c =
    let a = c.args in (
      search rules,
      search rules,
      search rules,
      rest_more a.byte a.weight _ c.requires.1 c.loop-i.i (omega arith) c.loop-i.invariant.3
          c.add_byte-in-loop-i.ensures,
    )

pub returns : goal.returns
returns c =
    let a = c.args in
    rest_all a.byte a.weight _ c.requires.1 a.number a.count c.loop-i.i
    (ap (λ (n : ℕ). a.number % n) (unit a.count (omega arith))) (omega arith) (omega arith)
    (adds_moved a.byte a.weight _ 8 (omega arith) (omega arith) c.add_byte.ensures)
    c.loop-i.invariant.3
