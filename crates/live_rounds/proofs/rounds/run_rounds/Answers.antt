use Rattle.std.proofs.Common.{◌+◌, arith}
use Rattle.live_rounds.proofs.Joining.{run_ends, run_more, run_none}
use Rattle.live_rounds.proofs.Ending.{on_ok}
use Rattle.live_rounds.proofs.rounds.run_rounds.Goals as goal

pub loop-upto-init : goal.loop-upto-init
loop-upto-init g c = record {
  within = omega arith;
  ready = c.requires.ready;
  sound = c.requires.sound;
  workers = c.requires.workers;
  few = c.requires.few;
  run = run_none g.C.Part.ran g.J.Naming.opening c.args.book.now _;
}

pub loop-upto-preserved : goal.loop-upto-preserved
loop-upto-preserved g c =
    let i = c.loop-upto.invariant in
    let e = c.in_default-run_round.ensures in
    let some = c.in-Some.ensures.some in
    record {
      within = omega (arith, some.1);
      ready = e.ready;
      sound = e.sound;
      workers = e.workers;
      few = omega arith;
      run = run_more g.C.Part.ran g.J.Naming.opening c.args.book.now c.loop-upto.from (c.in-Some.upto + 1) _ _ _
          (omega (arith, some.0)) (omega (arith, some.1)) i.run e.ran;
    }

pub returns : goal.returns
returns g c = record {
  ran = on_ok c.run_last.result
      (λ last. run_ends g.C.Part.ran g.J.Naming.opening c.args.book.now c.loop-upto.from _ _ _ c.loop-upto.invariant.run last)
      c.run_last.ensures.ran;
}
