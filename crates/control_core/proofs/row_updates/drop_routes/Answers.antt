use Rattle.control_core.proofs.Logs.{follow_emptied}
use Rattle.control_core.proofs.row_updates.drop_routes.Goals as goal

pub returns-clause-rows : goal.returns-clause-rows
returns-clause-rows g c =
    follow_emptied c.args.iface c.args.rib.now c.clear.new.self c.args.sets.now c.drop_rows.new.sets
    c.drop_rows.ensures c.clear.ensures.none
