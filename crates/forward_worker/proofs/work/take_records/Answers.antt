use Rattle.std.proofs.Common.{◌∙◌, [], inl, refl, sym, subst, arith}
use Rattle.std.proofs.KnownBytes.{Keeps-refl}
use Rattle.forward_worker.specs.Rounds.{PassesOver}
use Rattle.forward_worker.proofs.Answering.{none_is_not, prefix_trans}
use Rattle.forward_worker.proofs.Passing.{over-start, over-then}
use Rattle.forward_worker.proofs.work.take_records.Goals as goal

pub returns-then-desk-clause-round : goal.returns-then-desk-clause-round
returns-then-desk-clause-round g c =
    let desk = c.args.desk.now in
    let left = g.P.PacketSource.left c.args.packets.now in
    record {
      desk = desk;
      behind = left;
      over = subst (λ all. PassesOver c.args.stop desk desk left left [] all) (sym c.requires.rows)
          (over-start c.args.stop desk left []);
      ends = (record { worker = refl; place = refl; taken = omega arith; limit = refl }, Keeps-refl left, inl c.if-desk.true);
    }

pub loop-desk-preserved : goal.loop-desk-preserved
loop-desk-preserved g c =
    let i = c.loop-desk.invariant in
    let e = c.in_default.ensures in
    record {
      within = omega (arith, e.more, e.over.limit, c.loop-desk-test.true);
      place = e.place;
      ended = e.over.ended ∙ i.ended;
      over = over-then c.args.stop _ _ _ _ _ _ _ _ _ i.over e.over;
      answered = e.answered _ _ i.asks i.answered;
      asks = e.asks _ i.asks;
      kept = (e.kept.0 ∙ i.kept.0, e.kept.1 ∙ i.kept.1);
      grows = prefix_trans _ _ _ i.grows e.grows;
      faults = e.no_fault (none_is_not _) ∙ i.faults;
    }
