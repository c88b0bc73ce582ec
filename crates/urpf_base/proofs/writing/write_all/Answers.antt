use Rattle.std.proofs.Common.{ℕ, ◌∙◌, arith, length-take, length-drop}
use Rattle.urpf_base.proofs.Growth.{Appends-more}
use Rattle.urpf_base.proofs.writing.write_all.Goals as goal

pub loop-taken-preserved : goal.loop-taken-preserved
loop-taken-preserved g c =
    let written = c.in_ok-taken.ensures in
    record {
      within = omega (arith, written.bound, length-take {A = ℕ}, length-drop {A = ℕ});
      front =
          Appends-more (g.K.Sink.held c.args.sink.now) (g.K.Sink.held c.loop-taken.sink)
          (g.K.Sink.held c.write.new.self) c.args.piece.now c.loop-taken.taken c.in_ok-taken.field-0
          c.loop-taken.invariant.front written.octets;
      kept = written.cause.kept ∙ c.loop-taken.invariant.kept;
    }
