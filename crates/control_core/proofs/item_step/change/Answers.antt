use Rattle.std.proofs.Common.{◌<◌, ◌≤◌, subst}
use Rattle.urpf_base.specs.declared.sessions.SessionConfig.{SessionConfig}
use Rattle.control_core.proofs.ItemStepLaws.{changed_within, changed_over}
use Rattle.control_core.proofs.Logs.{follow-trans, held_after}
use Rattle.control_core.proofs.item_step.change.Goals as goal

pub drop_routes-requires : goal.drop_routes-requires
drop_routes-requires g c =
    held_after c.args.iface c.args.rib.now c.apply_with_rows.new.rib c.args.sets.now c.apply_with_rows.new.sets
    c.apply_with_rows.ensures.rows c.requires.ready.held

pub returns-then-len-config-clause-changed : goal.returns-then-len-config-clause-changed
returns-then-len-config-clause-changed g c =
    let within = subst (λ (k : SessionConfig). c.len.result ≤ k.max) c.config.ensures c.if-len-config.true in
    changed_within c.args.session.now c.args.update.now c.args.rib.now c.apply_with_rows.new.rib c.len.result
    c.in_ok-apply_with_rows.ensures.ok c.len.ensures.count within

pub returns-clause-changed : goal.returns-clause-changed
returns-clause-changed g c =
    let over = subst (λ (k : SessionConfig). k.max < c.len.result) c.config.ensures c.if-len-config.false in
    changed_over c.args.session.now c.cease.new.self c.args.update.now c.args.rib.now c.apply_with_rows.new.rib
    c.drop_routes.new.rib c.len.result c.cease.result c.in_ok-apply_with_rows.ensures.ok c.len.ensures.count over
    c.cease.ensures.ended c.cease.ensures.cause c.drop_routes.ensures.none

pub returns-clause-rows : goal.returns-clause-rows
returns-clause-rows g c =
    follow-trans c.args.iface c.args.rib.now c.apply_with_rows.new.rib c.drop_routes.new.rib c.args.sets.now
    c.apply_with_rows.new.sets c.drop_routes.new.sets c.apply_with_rows.ensures.rows c.drop_routes.ensures.rows
