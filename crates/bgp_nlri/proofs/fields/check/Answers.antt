use Rattle.std.proofs.Common.{◌≡◌, Some}
use Rattle.bgp_nlri.specs.Front.{prefix_front}
use Rattle.urpf_base.proofs.Alike.{alike_further, alike_stuck, not_empty, none_read, answers_no}
use Rattle.bgp_nlri.proofs.Laws.{front_reads, shorter}
use Rattle.bgp_nlri.proofs.fields.check.Goals as goal

pub returns-in_default : goal.returns-in_default
returns-in_default c =
    let none = none_read _ _ _ c.first.ensures c.in_default.is in
    let some = not_empty _ _ c.is_empty.ensures c.loop-rest-test.true in
    answers_no (alike_stuck (front_reads c.args.family) c.loop-rest.invariant none some)

pub loop-rest-smaller : goal.loop-rest-smaller
loop-rest-smaller c =
    let read = c.in-Some.ensures in
    let found : prefix_front c.args.family c.loop-rest.rest.now ≡ Some (c.in-Some.field-0-0, c.in-Some.more.now) = cc in
    shorter c.args.family c.loop-rest.rest.now c.in-Some.more.now c.in-Some.field-0-0 found

pub loop-rest-preserved : goal.loop-rest-preserved
loop-rest-preserved c =
    let read = c.in-Some.ensures in
    let found : prefix_front c.args.family c.loop-rest.rest.now ≡ Some (c.in-Some.field-0-0, c.in-Some.more.now) = cc in
    alike_further (front_reads c.args.family) c.loop-rest.invariant c.in-Some.more.now c.in-Some.field-0-0 found
