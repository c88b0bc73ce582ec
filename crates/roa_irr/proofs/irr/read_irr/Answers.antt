use Rattle.std.proofs.Common.{Ok, Err, inl, ap, ◌∙◌, length, arith}
use Rattle.roa_irr.proofs.ReadObjects.{objects-many, objects-more, objects-only, objects-pair, objects-read, objects-skipped}
use Rattle.roa_irr.proofs.ReadObjects.{objects-started, objects-too_many}
use Rattle.roa_irr.proofs.Reading.{handed_on, is_memory, not_both, same_fault}
use Rattle.roa_irr.proofs.irr.read_irr.Goals as goal

pub objects-init : goal.objects-init
objects-init c =
    objects-started c.args.text c.new-pairs.result c.new-pairs.ensures.pairs c.new-pairs.ensures.skipped

pub add-requires-clause-few : goal.add-requires-clause-few
add-requires-clause-few c =
    let few = objects-skipped c.args.text.now c.objects.left c.objects.pairs c.objects.invariant in
    let small = c.requires in
    omega arith

pub returns-in_err-add-clause-only : goal.returns-in_err-add-clause-only
returns-in_err-add-clause-only c table is short =
    let object = c.read_object-outcome in
    is_memory c.from_residual.result c.in_err-add.field-0.0
    (handed_on c.from_residual.result c.in_err-add.field-0.0 c.from_residual.ensures.1)
    (λ full. not_both _ _ short
    (objects-too_many c.args.text.now c.in-Some.rest object.result.1 c.objects.pairs object.result.0
    (rw c.in-Some.is at c.objects.invariant) object.ensures.outcome object.ensures.rest
    (c.add.ensures.too_many (c.in_err-add.was ∙ ap (λ f. Err f) full)) table is))

pub returns-in_err-add-clause-many : goal.returns-in_err-add-clause-many
returns-in_err-add-clause-many c is =
    let object = c.read_object-outcome in
    objects-many c.args.text.now c.in-Some.rest object.result.1 c.objects.pairs object.result.0
    (rw c.in-Some.is at c.objects.invariant) object.ensures.outcome object.ensures.rest
    (c.add.ensures.too_many (c.in_err-add.was ∙ ap (λ f. Err f)
    (same_fault c.from_residual.result c.in_err-add.field-0.0 _
    (handed_on c.from_residual.result c.in_err-add.field-0.0 c.from_residual.ensures.1) is)))

pub returns-in_err-add-clause-memory : goal.returns-in_err-add-clause-memory
returns-in_err-add-clause-memory c is =
    let object = c.read_object-outcome in
    objects-pair c.args.text.now c.in-Some.rest object.result.1 c.objects.pairs object.result.0
    (rw c.in-Some.is at c.objects.invariant) object.ensures.outcome object.ensures.rest
    (c.add.ensures.memory (c.in_err-add.was ∙ ap (λ f. Err f)
    (same_fault c.from_residual.result c.in_err-add.field-0.0 _
    (handed_on c.from_residual.result c.in_err-add.field-0.0 c.from_residual.ensures.1) is)))

pub objects-preserved : goal.objects-preserved
objects-preserved c =
    let object = c.read_object-outcome in
    objects-more c.args.text.now c.in-Some.rest object.result.1 c.objects.pairs c.add.new.self object.result.0
    (rw c.in-Some.is at c.objects.invariant) object.ensures.outcome object.ensures.rest object.ensures.shorter
    c.in_ok-add.ensures.pairs c.in_ok-add.ensures.skipped c.in_ok-add.ensures.fits

pub returns-clause-found : goal.returns-clause-found
returns-clause-found c =
    objects-read c.args.text.now c.objects.pairs (rw c.in_default.is at c.objects.invariant)

pub returns-clause-only : goal.returns-clause-only
returns-clause-only c table is short =
    inl (ap (λ r. Ok r)
    (objects-only c.args.text.now c.objects.pairs table (rw c.in_default.is at c.objects.invariant) is))

pub returns-clause-too_many : goal.returns-clause-too_many
returns-clause-too_many c table is long =
    let same = objects-only c.args.text.now c.objects.pairs table (rw c.in_default.is at c.objects.invariant) is in
    let lengths = ap (λ t. length t.pairs) same in
    let fits = c.objects.invariant.fits in
    absurd (omega arith)
