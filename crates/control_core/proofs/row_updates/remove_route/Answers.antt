use Rattle.std.proofs.Common.{sym, ◌∙◌}
use Rattle.control_core.proofs.Logs.{follow_absent, follow_removed, route_there}
use Rattle.control_core.proofs.row_updates.remove_route.Goals as goal

pub remove_row-requires : goal.remove_row-requires
remove_row-requires g c =
    route_there c.args.iface c.args.prefix.now c.in-Some.origin c.args.rib.now c.args.sets.now
    (sym c.remove.ensures.old ∙ c.in-Some.is) c.requires

pub returns-in-Some-clause-rows : goal.returns-in-Some-clause-rows
returns-in-Some-clause-rows g c =
    follow_removed c.args.iface c.args.prefix.now c.in-Some.origin c.args.rib.now c.remove.new.self c.args.sets.now
    c.remove_row.new.self (sym c.remove.ensures.old ∙ c.in-Some.is) c.remove.ensures.gone c.remove_row.ensures

pub returns-in_default-clause-rows : goal.returns-in_default-clause-rows
returns-in_default-clause-rows g c =
    follow_absent c.args.iface c.args.prefix.now c.args.rib.now c.remove.new.self c.args.sets.now
    (sym c.remove.ensures.old ∙ c.in_default.is) c.remove.ensures.gone
