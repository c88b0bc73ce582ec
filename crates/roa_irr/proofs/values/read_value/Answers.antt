use Rattle.std.proofs.Common.{ap}
use Rattle.roa_irr.specs.Objects.{with_attribute}
use Rattle.roa_irr.proofs.Ahead.{ahead-does, value-continued, value-passed, value-read}
use Rattle.roa_irr.proofs.values.read_value.Goals as goal

pub returns-in-Begins-clause-value : goal.returns-in-Begins-clause-value
returns-in-Begins-clause-value c =
    let cut = c.first_line.result in
    let one = ahead-does c.lines.rest.now cut.0.now cut.1.now
    (with_attribute c.in-Begins.field-0.now c.in-Begins.field-1.now) c.first_line.ensures.lines c.in-Begins.ensures in
    value-read c.args.part.now c.args.text.now c.lines.rest.now c.lines.value c.lines.invariant
    (ap (λ a. a.parts) one.0)

pub lines-preserved-in-Passed : goal.lines-preserved-in-Passed
lines-preserved-in-Passed c =
    let cut = c.first_line.result in
    value-passed c.args.part.now c.args.text.now c.lines.rest.now cut.0.now cut.1.now c.lines.value c.lines.invariant
    c.first_line.ensures.lines c.first_line.ensures.shorter c.in-Passed.ensures

pub lines-preserved : goal.lines-preserved
lines-preserved c =
    let cut = c.first_line.result in
    value-continued c.args.part.now c.args.text.now c.lines.rest.now cut.0.now cut.1.now c.in-Continued.part.now
    c.lines.value c.with_part-value.result c.lines.invariant c.first_line.ensures.lines c.first_line.ensures.shorter
    c.in-Continued.ensures c.with_part-value.ensures
