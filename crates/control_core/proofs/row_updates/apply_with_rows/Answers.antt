use Rattle.std.proofs.Common.{sym, subst}
use Rattle.adj_rib.specs.Routes.{Routes}
use Rattle.control_core.specs.EngineRows.{HasRows, Log, RowsFollow, TakesRows, replaced_rows}
use Rattle.control_core.proofs.Logs.{follow-trans, follow_logged, held_after, logged_first, replaced_there}
use Rattle.control_core.proofs.row_updates.apply_with_rows.Goals as goal

pub take_back-requires : goal.take_back-requires
take_back-requires g c = record {
  before = c.args.rib.now;
  begun = c.args.sets.now;
  logged_since = c.announce.ensures.logged c.args.rib.now c.args.sets.now
      (logged_first c.args.iface c.origin-origin.result c.new-log.result.items c.args.rib.now c.args.sets.now
      c.new-log.ensures.items);
  held = c.requires.held;
}

pub returns-in-Err-clause-err : goal.returns-in-Err-clause-err
returns-in-Err-clause-err g c =
    (c.take_back.ensures c.args.rib.now c.args.sets.now
    (c.announce.ensures.logged c.args.rib.now c.args.sets.now
    (logged_first c.args.iface c.origin-origin.result c.new-log.result.items c.args.rib.now c.args.sets.now
    c.new-log.ensures.items))).0

pub returns-in-Err-clause-rows : goal.returns-in-Err-clause-rows
returns-in-Err-clause-rows g c =
    let back = c.take_back.ensures c.args.rib.now c.args.sets.now
    (c.announce.ensures.logged c.args.rib.now c.args.sets.now
    (logged_first c.args.iface c.origin-origin.result c.new-log.result.items c.args.rib.now c.args.sets.now
    c.new-log.ensures.items)) in
    subst (λ (r : Routes). RowsFollow c.args.iface c.args.rib.now r c.args.sets.now c.take_back.new.sets)
    (sym back.0) back.1

pub drop_replaced-requires : goal.drop_replaced-requires
drop_replaced-requires g c =
    subst (λ (l : Log). HasRows (replaced_rows c.args.iface l) c.announce.new.sets) (sym c.deref.ensures.value)
    (replaced_there c.args.iface c.origin-origin.result c.announce.new.log.items c.args.rib.now c.announce.new.rib
    c.args.sets.now c.announce.new.sets
    (c.announce.ensures.logged c.args.rib.now c.args.sets.now
    (logged_first c.args.iface c.origin-origin.result c.new-log.result.items c.args.rib.now c.args.sets.now
    c.new-log.ensures.items)) c.requires.held)

pub withdraw-requires : goal.withdraw-requires
withdraw-requires g c =
    held_after c.args.iface c.args.rib.now c.announce.new.rib c.args.sets.now c.drop_replaced.new.sets
    (follow_logged c.args.iface c.origin-origin.result c.announce.new.log.items c.args.rib.now c.announce.new.rib
    c.args.sets.now c.announce.new.sets c.drop_replaced.new.sets
    (c.announce.ensures.logged c.args.rib.now c.args.sets.now
    (logged_first c.args.iface c.origin-origin.result c.new-log.result.items c.args.rib.now c.args.sets.now
    c.new-log.ensures.items))
    (subst (λ (l : Log). TakesRows (replaced_rows c.args.iface l) c.announce.new.sets c.drop_replaced.new.sets)
    c.deref.ensures.value c.drop_replaced.ensures)) c.requires.held

pub returns-clause-rows : goal.returns-clause-rows
returns-clause-rows g c =
    follow-trans c.args.iface c.args.rib.now c.announce.new.rib c.withdraw.new.rib c.args.sets.now
    c.drop_replaced.new.sets c.withdraw.new.sets
    (follow_logged c.args.iface c.origin-origin.result c.announce.new.log.items c.args.rib.now c.announce.new.rib
    c.args.sets.now c.announce.new.sets c.drop_replaced.new.sets
    (c.announce.ensures.logged c.args.rib.now c.args.sets.now
    (logged_first c.args.iface c.origin-origin.result c.new-log.result.items c.args.rib.now c.args.sets.now
    c.new-log.ensures.items))
    (subst (λ (l : Log). TakesRows (replaced_rows c.args.iface l) c.announce.new.sets c.drop_replaced.new.sets)
    c.deref.ensures.value c.drop_replaced.ensures)) c.withdraw.ensures.rows
