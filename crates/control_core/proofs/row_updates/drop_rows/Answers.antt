use Rattle.control_core.proofs.Logs.{next_there}
use Rattle.control_core.proofs.row_updates.drop_rows.Goals as goal

pub remove_row-requires : goal.remove_row-requires
remove_row-requires g c =
    next_there c.args.iface c.args.rib.now c.loop-prefix.prefix-iterator c.next.new.self c.in-Some.prefix
    c.in-Some.origin c.args.sets.now c.loop-prefix.sets (rw c.in-Some.is at c.next.ensures.steps) c.requires
    c.loop-prefix.invariant.taken
