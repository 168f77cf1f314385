-- `stream_refusals::piece_alone` meets its contract: its limits are those of the format, and the unused bits are told
-- where the bytes are as many as needed.
use borrow.Author.Rules.{rules}
use mathlib.Core.Path.{◌≡◌}
use mathlib.Core.Logic.{inr}
use lib.ListN.{length}
use Rattle.rules.specs.Bits.{need}
use Rattle.rules.specs.Answers.{told}
use Rattle.stream_refusals.proofs.piece_alone.Goals as goal

pub returns-in_err-unused_set : goal.returns-in_err-unused_set
returns-in_err-unused_set c f e =
    let serves = rw e at c.differs.ensures in
    let held = rw e at c.bad_state.ensures in
    let bytes : length c.args.bytes.now ≡ need c.args.count = search rules in
    let same : told c.from_residual-in_err-unused_set.result ≡ told c.unused_set.result = search rules in
    let unused = c.unused_set.ensures bytes in
    inr (search rules, inr (search rules, inr (search rules, rw same (search rules))))

pub returns : goal.returns
returns c f e =
    let serves = rw e at c.differs.ensures in
    let held = rw e at c.bad_state.ensures in
    let bytes : length c.args.bytes.now ≡ need c.args.count = search rules in
    let unused = c.unused_set.ensures bytes in
    let fits = rw e at c.above_with.ensures in
    inr (search rules, inr (search rules, inr (search rules, inr (search rules, search rules))))
