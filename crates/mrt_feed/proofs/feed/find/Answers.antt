use Rattle.std.proofs.Common.{[], Ok, inr, length, refl, ap, ◌∙◌, arith, subst}
use Rattle.std.proofs.lemmas.Result.{err_from_is_err_and}
use Rattle.mrt_feed.specs.Places.{Goes, due_events}
use Rattle.mrt_feed.proofs.Heads.{head_length-low}
use Rattle.mrt_feed.proofs.Progresses.{goes_nowhere}
use Rattle.mrt_feed.proofs.Runs.{ran_still, ran_trans, peer_stops, off_halts}
use Rattle.mrt_feed.proofs.feed.find.Goals as goal

pub loop-whole-init : goal.loop-whole-init
loop-whole-init g c = record {
  between = c.requires;
  ran = ran_still c.args.peer (g.S.Source.left c.args.input.now.source) c.args.input.now.taken c.args.place.now
      c.args.place.now [] (goes_nowhere c.args.peer c.args.place.now);
  grows = omega arith;
  kept = refl;
}

pub loop-whole-smaller : goal.loop-whole-smaller
loop-whole-smaller g c =
    let whole = c.in_ok-whole.ensures.whole (ap (λ w. Ok w) c.if-not-whole.false) in
    let empty = c.in_ok-due.ensures.empty (ap (λ d. Ok d) c.in-None.is) in
    omega (
      arith,
      c.next_head.ensures.room,
      whole,
      head_length-low c.next_head.new.place.head,
      ap length empty,
    )

pub loop-whole-preserved : goal.loop-whole-preserved
loop-whole-preserved g c =
    let goes = subst (λ d. Goes c.args.peer c.next_head.new.place [] c.take_head.new.place (due_events d)) c.in-None.is
    c.in_ok-due.ensures.goes in record {
      between = c.in_ok-due.ensures.between (ap (λ d. Ok d) c.in-None.is);
      ran = ran_trans c.args.peer _ _ _ _ _ _ _ _ _ [] c.loop-whole.invariant.ran
          (ran_trans c.args.peer _ _ _ _ _ _ _ _ _ [] (c.next_head.ensures.ran c.args.peer)
          (ran_still c.args.peer _ _ _ _ [] goes));
      grows = omega (arith, c.next_head.ensures.grows, c.loop-whole.invariant.grows);
      kept = c.in_ok-whole.ensures.kept ∙ c.loop-whole.invariant.kept;
    }

pub returns-in_err-whole-clause-ran : goal.returns-in_err-whole-clause-ran
returns-in_err-whole-clause-ran g c =
    let p = err_from_is_err_and c.from_residual.result c.from_residual.ensures.1 in
    rw (p.1)
    (ran_trans c.args.peer _ _ _ _ _ _ _ _ _ [] c.loop-whole.invariant.ran (c.next_head.ensures.ran c.args.peer))

pub returns-in_err-whole-clause-failed : goal.returns-in_err-whole-clause-failed
returns-in_err-whole-clause-failed g c =
    let p = err_from_is_err_and c.from_residual.result c.from_residual.ensures.1 in
    rw (p.1)
    (peer_stops _ _ _ c.args.peer _ _ _ c.loop-whole.invariant.kept c.in_err-whole.ensures.failed)

pub returns-then-not-whole-clause-ran : goal.returns-then-not-whole-clause-ran
returns-then-not-whole-clause-ran g c =
    ran_trans c.args.peer _ _ _ _ _ _ _ _ _ [] c.loop-whole.invariant.ran (c.next_head.ensures.ran c.args.peer)

pub returns-then-not-whole-clause-ended : goal.returns-then-not-whole-clause-ended
returns-then-not-whole-clause-ended g c same =
    c.in_ok-whole.ensures.ended (ap (λ w. Ok w) c.if-not-whole.true)

pub returns-in_err-due-clause-ran : goal.returns-in_err-due-clause-ran
returns-in_err-due-clause-ran g c =
    let p = err_from_is_err_and c.from_residual-in_err-due.result c.from_residual-in_err-due.ensures.1 in
    rw (p.1)
    (ran_trans c.args.peer _ _ _ _ _ _ _ _ _ [] c.loop-whole.invariant.ran
    (ran_trans c.args.peer _ _ _ _ _ _ _ _ _ [] (c.next_head.ensures.ran c.args.peer)
    (ran_still c.args.peer _ _ _ _ [] c.in_err-due.ensures.kept)))

pub returns-in_err-due-clause-failed : goal.returns-in_err-due-clause-failed
returns-in_err-due-clause-failed g c =
    let p = err_from_is_err_and c.from_residual-in_err-due.result c.from_residual-in_err-due.ensures.1 in
    rw (p.1)
    (inr (off_halts c.args.peer c.take_head.new.place _ _ c.in_err-due.ensures.off))

pub returns-in-Some-clause-ran : goal.returns-in-Some-clause-ran
returns-in-Some-clause-ran g c =
    let goes = subst (λ d. Goes c.args.peer c.next_head.new.place [] c.take_head.new.place (due_events d)) c.in-Some.is
    c.in_ok-due.ensures.goes in
    ran_trans c.args.peer _ _ _ _ _ _ _ _ _ _ c.loop-whole.invariant.ran
    (ran_trans c.args.peer _ _ _ _ _ _ _ _ _ _ (c.next_head.ensures.ran c.args.peer)
    (ran_still c.args.peer _ _ _ _ _ goes))

pub returns-in-Some-clause-octets : goal.returns-in-Some-clause-octets
returns-in-Some-clause-octets g c same = c.in_ok-due.ensures.octets (ap (λ d. Ok d) c.in-Some.is ∙ same)
