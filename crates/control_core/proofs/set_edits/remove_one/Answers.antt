use Rattle.control_core.proofs.PairEdits.{removed_or_absent, removes_edit}
use Rattle.control_core.proofs.set_edits.remove_one.Goals as goal

pub returns : goal.returns
returns g c =
    removes_edit c.args.prefix.now c.args.asn c.args.sets.now c.remove_pair.new.self
    (removed_or_absent c.remove_pair.result (c.args.prefix.now, c.args.asn) c.args.sets.now c.remove_pair.new.self
    c.remove_pair.ensures.removed c.remove_pair.ensures.absent)
