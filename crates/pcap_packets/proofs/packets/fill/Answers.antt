use Rattle.std.proofs.Common.{◌∙◌, arith}
use Rattle.pcap_packets.proofs.Moving.{moved_then}
use Rattle.pcap_packets.proofs.packets.fill.Goals as goal

pub returns-in_err-step-clause-moved : goal.returns-in_err-step-clause-moved
returns-in_err-step-clause-moved g c =
    let at = c.loop-input in
    let now = c.step.new in
    moved_then c.args.iface (g.S.Source.left c.args.input.now.source) (g.S.Source.left at.input.source)
    (g.S.Source.left now.input.source) c.args.input.now.taken at.input.taken now.input.taken c.args.part.now at.part
    now.part c.args.pending.now at.pending now.pending at.invariant.moved c.step.ensures.moved

pub returns-then-not-branch-clause-moved : goal.returns-then-not-branch-clause-moved
returns-then-not-branch-clause-moved g c =
    let at = c.loop-input in
    let now = c.step.new in
    moved_then c.args.iface (g.S.Source.left c.args.input.now.source) (g.S.Source.left at.input.source)
    (g.S.Source.left now.input.source) c.args.input.now.taken at.input.taken now.input.taken c.args.part.now at.part
    now.part c.args.pending.now at.pending now.pending at.invariant.moved c.step.ensures.moved

pub loop-input-preserved : goal.loop-input-preserved
loop-input-preserved g c =
    let at = c.loop-input in
    let now = c.step.new in
    record {
      moved = moved_then c.args.iface (g.S.Source.left c.args.input.now.source) (g.S.Source.left at.input.source)
          (g.S.Source.left now.input.source) c.args.input.now.taken at.input.taken now.input.taken c.args.part.now
          at.part now.part c.args.pending.now at.pending now.pending at.invariant.moved c.step.ensures.moved;
      unfinished = c.in_ok-step.ensures.unfinished;
      grows = omega (arith, at.invariant.grows, c.step.ensures.grows);
      kept = c.in_ok-step.ensures.kept ∙ at.invariant.kept;
    }
