use Rattle.control_core.proofs.PairEdits.{added_or_there, adds_edit}
use Rattle.control_core.proofs.set_edits.add_one.Goals as goal

pub returns-clause-ok : goal.returns-clause-ok
returns-clause-ok g c =
    adds_edit c.args.prefix c.args.asn c.args.sets.now c.add_pair.new.self
    (added_or_there c.add_pair.result c.in_ok-add_pair.field-0 (c.args.prefix, c.args.asn) c.args.sets.now
    c.add_pair.new.self c.in_ok-add_pair.was c.add_pair.ensures.added c.add_pair.ensures.there)
