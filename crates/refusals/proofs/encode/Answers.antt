-- `refusals::encode` meets its contract: the unused bits are told where the bytes are as many as needed.
use borrow.Author.Rules.{rules}
use mathlib.Core.Path.{◌≡◌}
use mathlib.Core.Logic.{inr}
use lib.ListN.{length}
use Rattle.rules.specs.Bits.{need}
use Rattle.rules.specs.Answers.{told}
use Rattle.refusals.proofs.encode.Goals as goal

pub returns-in_err-unused_set : goal.returns-in_err-unused_set
returns-in_err-unused_set c =
    let bytes : length c.args.payload.now ≡ need c.args.count = search rules in
    let e : told c.from_residual-in_err-unused_set.result ≡ told c.unused_set.result = search rules in
    let t = c.unused_set.ensures bytes in
    inr (search rules, inr (search rules, inr (search rules, inr (search rules, rw e (search rules)))))
