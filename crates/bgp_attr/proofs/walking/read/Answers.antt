use Rattle.std.proofs.Common.{◌<◌, sym, ap, arith}
use Rattle.bgp_attr.proofs.FrontLaws.{attribute_reads}
use Rattle.bgp_attr.proofs.WalkLaws.{walk_begin, walk_on, stands_faulty, mark_tells}
use Rattle.urpf_base.proofs.Series.{rest_shorter}
use Rattle.bgp_attr.proofs.walking.read.Goals as goal

pub returns-in-Some-fault_of-clause-fault : goal.returns-in-Some-fault_of-clause-fault
returns-in-Some-fault_of-clause-fault c =
    let walked = c.loop-rest.invariant in
    let within : c.attribute.inside.code < 256 = omega arith in
    let tells =
    mark_tells walked c.in-Some.attribute.code c.attribute.inside.code within (ap (λ a. a.code) c.attribute.view_is)
    in
    stands_faulty walked.place c.in-Some.more.now c.in-Some.attribute c.in-Some-fault_of.sub (sym c.in-Some.ensures)
    (c.in-Some-fault_of.ensures.fault walked.place.before tells)

pub loop-rest-init : goal.loop-rest-init
loop-rest-init c = walk_begin c.args.width c.args.v6 c.args.field.now c.new-slots.result c.new-slots.ensures

pub loop-rest-smaller : goal.loop-rest-smaller
loop-rest-smaller c =
    rest_shorter attribute_reads c.loop-rest.rest.now c.in-Some.more.now c.in-Some.attribute (sym c.in-Some.ensures)

pub loop-rest-preserved : goal.loop-rest-preserved
loop-rest-preserved c =
    let within : c.attribute.inside.code < 256 = omega arith in
    walk_on c.loop-rest.invariant c.in-Some.more.now c.in-Some.attribute c.attribute.inside.code c.with-slots.result
    (sym c.in-Some.ensures) within (ap (λ a. a.code) c.attribute.view_is) c.in_default-fault_of.ensures.new
    c.in_default-fault_of.ensures.proper c.with-slots.ensures
