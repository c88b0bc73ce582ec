use Rattle.std.proofs.Common.{ap, sym, ◌∙◌}
use Rattle.mrt_feed.specs.Records.{head_says}
use Rattle.mrt_feed.proofs.Progresses.{goes_nowhere, malformed_off, goes_other}
use Rattle.mrt_feed.proofs.progress.take_head.Goals as goal

pub returns-in-Malformed-clause-kept : goal.returns-in-Malformed-clause-kept
returns-in-Malformed-clause-kept c = goes_nowhere c.args.peer c.args.place.now

pub returns-in-Malformed-clause-off : goal.returns-in-Malformed-clause-off
returns-in-Malformed-clause-off c =
    malformed_off c.args.peer c.args.place.now c.requires.start c.requires.whole
    (sym (c.read_head.ensures ∙ ap head_says c.octets.ensures.octets) ∙ c.in-Malformed.is)

pub returns-in-Other-clause-goes : goal.returns-in-Other-clause-goes
returns-in-Other-clause-goes c =
    rw (c.pass.ensures)
    (goes_other c.args.peer c.args.place.now c.in-Other.count c.requires.start c.requires.whole
    (sym (c.read_head.ensures ∙ ap head_says c.octets.ensures.octets) ∙ c.in-Other.is))
