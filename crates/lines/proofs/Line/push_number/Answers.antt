-- The digits that were put are the number's.
use Rattle.std.proofs.Common.{◌++◌, ◌∙◌, ap}
use Rattle.lines.proofs.Decimals.{few_digits, digits_decimal}
use Rattle.lines.proofs.Line.push_number.Goals as goal

pub returns-clause-line_after : goal.returns-clause-line_after
returns-clause-line_after c =
    let told = c.decimal-k in
    let few = few_digits told.result c.args.number c.ranges.number.fits told.ensures.len in
    let same = told.ensures.digits ∙ digits_decimal 20 told.result c.args.number told.ensures.len few in
    c.push.ensures ∙ ap (λ t. c.args.self.now ++ t) same
