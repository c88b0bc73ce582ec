use Rattle.std.proofs.Common.{[]}
use Rattle.mrt_feed.proofs.Progresses.{goes_nowhere}
use Rattle.mrt_feed.proofs.Runs.{ran_still}
use Rattle.mrt_feed.proofs.feed.due.Goals as goal

pub returns-then-not-is_empty-clause-ran : goal.returns-then-not-is_empty-clause-ran
returns-then-not-is_empty-clause-ran g c =
    ran_still c.args.peer (g.S.Source.left c.args.input.now.source) c.args.input.now.taken c.args.place.now
    c.args.place.now [] (goes_nowhere c.args.peer c.args.place.now)
