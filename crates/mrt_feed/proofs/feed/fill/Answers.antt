use Rattle.std.proofs.Common.{[], refl, ◌∙◌, arith}
use Rattle.mrt_feed.proofs.Progresses.{goes_nowhere}
use Rattle.mrt_feed.proofs.Runs.{ran_still, ran_trans}
use Rattle.mrt_feed.proofs.feed.fill.Goals as goal

pub loop-input-init : goal.loop-input-init
loop-input-init g c = record {
  start = c.requires;
  ran = λ peer. ran_still peer (g.S.Source.left c.args.input.now.source) c.args.input.now.taken c.args.place.now
      c.args.place.now [] (goes_nowhere peer c.args.place.now);
  room = omega arith;
  grows = omega arith;
  kept = refl;
}

pub loop-input-preserved : goal.loop-input-preserved
loop-input-preserved g c = record {
  start = c.fill_piece.ensures.start;
  ran = λ peer. ran_trans peer _ _ _ _ _ _ _ _ _ [] (c.loop-input.invariant.ran peer) (c.fill_piece.ensures.ran peer);
  room = omega (arith, c.fill_piece.ensures.room, c.loop-input.invariant.room);
  grows = omega (arith, c.fill_piece.ensures.grows, c.loop-input.invariant.grows);
  kept = c.in_ok-more.ensures.kept ∙ c.loop-input.invariant.kept;
}

pub returns-in_err-more-clause-ran : goal.returns-in_err-more-clause-ran
returns-in_err-more-clause-ran g c peer =
    ran_trans peer _ _ _ _ _ _ _ _ _ [] (c.loop-input.invariant.ran peer) (c.fill_piece.ensures.ran peer)

pub returns-then-not-more-clause-ran : goal.returns-then-not-more-clause-ran
returns-then-not-more-clause-ran g c peer =
    ran_trans peer _ _ _ _ _ _ _ _ _ [] (c.loop-input.invariant.ran peer) (c.fill_piece.ensures.ran peer)
