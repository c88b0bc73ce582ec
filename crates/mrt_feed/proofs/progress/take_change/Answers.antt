use Rattle.std.proofs.Common.{sym, ◌∙◌}
use Rattle.mrt_feed.proofs.Progresses.{goes_unchanged, goes_still, goes_closed}
use Rattle.mrt_feed.proofs.progress.take_change.Goals as goal

pub returns-then-not-is_lost-clause-goes : goal.returns-then-not-is_lost-clause-goes
returns-then-not-is_lost-clause-goes c =
    rw (c.clear.ensures)
    (goes_unchanged c.args.peer c.args.place.now c.args.from c.args.state c.requires.start c.requires.whole
    c.requires.says (sym c.is_lost.ensures ∙ c.if-not-is_lost.true))

pub returns-in-None-clause-goes : goal.returns-in-None-clause-goes
returns-in-None-clause-goes c =
    rw (c.clear.ensures)
    (goes_still c.args.peer c.args.place.now c.args.from c.args.state c.requires.start c.requires.whole
    c.requires.says (sym c.is_lost.ensures ∙ c.if-not-is_lost.false) c.in-None.is)

pub returns-in-Some-clause-goes : goal.returns-in-Some-clause-goes
returns-in-Some-clause-goes c =
    rw (c.clear.ensures)
    (goes_closed c.args.peer c.args.place.now c.in-Some.field-0 c.args.from c.args.state c.requires.start
    c.requires.whole c.requires.says (sym c.is_lost.ensures ∙ c.if-not-is_lost.false) c.in-Some.is)
