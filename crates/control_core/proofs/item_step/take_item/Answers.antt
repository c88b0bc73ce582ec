use Rattle.std.proofs.Common.{sym, subst}
use Rattle.urpf_base.specs.declared.sessions.SessionConfig.{SessionConfig}
use Rattle.control_core.proofs.ItemStepLaws.{took_nothing, took_advance, took_reset, took_change}
use Rattle.control_core.proofs.Logs.{follow_none}
use Rattle.control_core.specs.EngineRows.{HasRowsOf, HasSession, RowsFollow}
use Rattle.control_core.proofs.item_step.take_item.Goals as goal

pub returns-in-Nothing-clause-took : goal.returns-in-Nothing-clause-took
returns-in-Nothing-clause-took g c =
    took_nothing c.args.session.now c.step.new.self c.args.item c.args.rib.now c.in-Nothing.ensures.row

pub returns-in-Nothing-clause-rows : goal.returns-in-Nothing-clause-rows
returns-in-Nothing-clause-rows g c = follow_none c.args.session.now.config.iface c.args.rib.now c.args.sets.now

pub returns-in-Advanced-clause-took : goal.returns-in-Advanced-clause-took
returns-in-Advanced-clause-took g c =
    took_advance c.args.session.now c.step.new.self c.args.item c.args.rib.now c.in-Advanced.ensures.row

pub returns-in-Advanced-clause-rows : goal.returns-in-Advanced-clause-rows
returns-in-Advanced-clause-rows g c = follow_none c.args.session.now.config.iface c.args.rib.now c.args.sets.now

pub drop_routes-requires : goal.drop_routes-requires
drop_routes-requires g c =
    subst (λ (k : SessionConfig). HasRowsOf k.iface c.args.rib.now c.args.sets.now) (sym c.config.ensures)
    c.requires.ready.held

pub returns-in-Reset-clause-took : goal.returns-in-Reset-clause-took
returns-in-Reset-clause-took g c =
    λ before holds. took_reset c.args.session.now c.step.new.self c.args.item c.drop_routes.new.rib c.in-Reset.cause
    c.in-Reset.ensures.row c.drop_routes.ensures.none before

pub returns-in-Reset-clause-rows : goal.returns-in-Reset-clause-rows
returns-in-Reset-clause-rows g c =
    subst (λ (k : SessionConfig). RowsFollow k.iface c.args.rib.now c.drop_routes.new.rib c.args.sets.now
    c.drop_routes.new.sets) c.config.ensures c.drop_routes.ensures.rows

pub change-requires-clause-ready : goal.change-requires-clause-ready
change-requires-clause-ready g c =
    subst (λ (k : SessionConfig). HasSession k.iface c.args.rib.now c.args.sets.now) (sym c.config.ensures)
    c.requires.ready

pub returns-in-Ok-clause-took : goal.returns-in-Ok-clause-took
returns-in-Ok-clause-took g c = λ before holds.
    took_change c.args.session.now c.step.new.self c.change.new.session c.args.item c.in-Changes.update
    c.change.new.rib c.in-Ok.reset c.step.ensures.config c.in-Changes.ensures.row before
    (c.in-Ok.ensures.changed before holds)
