use Rattle.std.proofs.Common.{sym}
use Rattle.urpf_base.proofs.Alike.{alike_further, alike_stuck, not_empty, none_read, answers_no}
use Rattle.as_path.proofs.PathLaws.{segment_reads, shorter}
use Rattle.as_path.proofs.paths.is_path.Goals as goal

pub returns-in_default : goal.returns-in_default
returns-in_default c =
    let none = none_read _ _ _ c.first.ensures.segment c.in_default.is in
    let some = not_empty _ _ c.is_empty.ensures c.loop-rest-test.true in
    answers_no (alike_stuck (segment_reads c.args.width) c.loop-rest.invariant none some)

pub loop-rest-smaller : goal.loop-rest-smaller
loop-rest-smaller c =
    shorter c.args.width c.loop-rest.rest.now c.in-Some.segment.rest.now _ (sym c.in-Some.ensures.segment)

pub loop-rest-preserved : goal.loop-rest-preserved
loop-rest-preserved c =
    alike_further (segment_reads c.args.width) c.loop-rest.invariant c.in-Some.segment.rest.now _
    (sym c.in-Some.ensures.segment)
