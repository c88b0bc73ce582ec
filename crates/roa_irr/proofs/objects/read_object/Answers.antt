use Rattle.std.proofs.Common.{◌∷◌, refl, ap}
use Rattle.roa_irr.specs.Objects.{with_part}
use Rattle.roa_irr.specs.Steps.{ahead}
use Rattle.roa_irr.proofs.Ahead.{ahead-empty}
use Rattle.roa_irr.proofs.Seen.{object-more, object-passed, object-read}
use Rattle.roa_irr.proofs.Spelled.{no_octets}
use Rattle.roa_irr.proofs.objects.read_object.Goals as goal

pub returns-in-Empty-clause-outcome : goal.returns-in-Empty-clause-outcome
returns-in-Empty-clause-outcome c =
    let cut = c.first_line.result in
    let one = ahead-empty c.lines.rest.now cut.0.now cut.1.now c.first_line.ensures.lines c.in-Empty.ensures in
    object-read c.args.text.now c.lines.rest.now c.lines.object c.outcome_of.result c.lines.invariant
    (ap (λ a. a.attributes) one.0) c.outcome_of.ensures

pub lines-preserved-in-Passed : goal.lines-preserved-in-Passed
lines-preserved-in-Passed c =
    let cut = c.first_line.result in
    object-passed c.args.text.now c.lines.rest.now cut.0.now cut.1.now c.lines.object (λ all. all) c.lines.invariant
    c.first_line.ensures.lines c.first_line.ensures.shorter c.in-Passed.ensures (λ all. refl)

pub lines-preserved-in-Continued : goal.lines-preserved-in-Continued
lines-preserved-in-Continued c =
    let cut = c.first_line.result in
    object-passed c.args.text.now c.lines.rest.now cut.0.now cut.1.now c.lines.object
    (with_part c.in-Continued.field-0.now) c.lines.invariant c.first_line.ensures.lines c.first_line.ensures.shorter
    c.in-Continued.ensures (λ all. refl)

pub lines-preserved : goal.lines-preserved
lines-preserved c =
    let cut = c.first_line.result in
    let part = c.in-Begins.part.now in
    let read = c.read_value.ensures in
    object-more c.args.text.now c.lines.rest.now cut.0.now cut.1.now c.read_value.result.1.now c.in-Begins.name.now part
    c.lines.object c.with_attribute-object.result c.lines.invariant c.first_line.ensures.lines
    c.first_line.ensures.shorter c.in-Begins.ensures read.attributes read.behind read.shorter
    (λ attributes sees.
    c.with_attribute-object.ensures attributes (part ∷ (ahead cut.1.now).parts) sees read.value)

pub returns-clause-outcome : goal.returns-clause-outcome
returns-clause-outcome c =
    let none = no_octets c.lines.rest.now c.lines.rest.now c.is_empty.result c.is_empty.ensures (cc) refl in
    object-read c.args.text.now c.lines.rest.now c.lines.object c.outcome_of-2.result c.lines.invariant
    (ap (λ t. (ahead t).attributes) none) c.outcome_of-2.ensures
