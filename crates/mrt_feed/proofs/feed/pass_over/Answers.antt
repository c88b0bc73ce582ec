use Rattle.std.proofs.Common.{[], refl, ◌∙◌, arith}
use Rattle.mrt_feed.proofs.Progresses.{goes_nowhere}
use Rattle.mrt_feed.proofs.Runs.{ran_still, ran_trans}
use Rattle.mrt_feed.proofs.feed.pass_over.Goals as goal

pub loop-place-init : goal.loop-place-init
loop-place-init g c = record {
  between = c.requires;
  ran = λ peer. ran_still peer (g.S.Source.left c.args.input.now.source) c.args.input.now.taken c.args.place.now
      c.args.place.now [] (goes_nowhere peer c.args.place.now);
  head = refl;
  grows = omega arith;
  kept = refl;
}

pub loop-place-preserved : goal.loop-place-preserved
loop-place-preserved g c = record {
  between = c.skip_piece.ensures.between;
  ran = λ peer. ran_trans peer _ _ _ _ _ _ _ _ _ [] (c.loop-place.invariant.ran peer) (c.skip_piece.ensures.ran peer);
  head = c.skip_piece.ensures.head ∙ c.loop-place.invariant.head;
  grows = omega (arith, c.skip_piece.ensures.grows, c.loop-place.invariant.grows);
  kept = c.in_ok-skip_piece.ensures.kept ∙ c.loop-place.invariant.kept;
}

pub returns-in_err-skip_piece-clause-ran : goal.returns-in_err-skip_piece-clause-ran
returns-in_err-skip_piece-clause-ran g c peer =
    ran_trans peer _ _ _ _ _ _ _ _ _ [] (c.loop-place.invariant.ran peer) (c.skip_piece.ensures.ran peer)
