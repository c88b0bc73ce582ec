use Rattle.std.proofs.Common.{◌≡◌, [], arith}
use Rattle.std.proofs.lemmas.Grind.{common_steps}
use Rattle.control_core.proofs.Logs.{logged_end, logged_popped, open_given, open_popped, open_there}
use Rattle.control_core.proofs.row_updates.take_back.Goals as goal

pub restore-requires : goal.restore-requires
restore-requires g c =
    open_given c.args.iface c.args.origin c.loop-change.log.items c.pop.new.self.items c.in-Some.change.0
    c.in-Some.change.1 c.loop-change.rib c.loop-change.sets (rw c.in-Some.is at c.pop.ensures.items)
    c.loop-change.invariant.unfinished

pub remove_row-requires : goal.remove_row-requires
remove_row-requires g c =
    open_there c.args.iface c.args.origin c.loop-change.log.items c.pop.new.self.items c.in-Some.change.0
    c.in-Some.change.1 c.loop-change.rib c.loop-change.sets (rw c.in-Some.is at c.pop.ensures.items)
    c.loop-change.invariant.unfinished

pub loop-change-preserved : goal.loop-change-preserved
loop-change-preserved g c =
    let all = rw c.in-Some.is at c.pop.ensures.items in
    record {
      logged = λ before begun is.
          logged_popped c.args.iface c.args.origin c.loop-change.log.items c.pop.new.self.items c.in-Some.change.0
          c.in-Some.change.1 before c.loop-change.rib c.restore.new.rib begun c.loop-change.sets c.remove_row.new.self
          all c.restore.ensures c.remove_row.ensures (c.loop-change.invariant.logged before begun is);
      unfinished =
          open_popped c.args.iface c.args.origin c.loop-change.log.items c.pop.new.self.items c.in-Some.change.0
          c.in-Some.change.1 c.loop-change.rib c.restore.new.rib c.loop-change.sets c.remove_row.new.self all
          c.restore.ensures c.remove_row.ensures c.loop-change.invariant.unfinished;
    }

pub returns : goal.returns
returns g c = λ before begun is.
    let none : c.loop-change.log.items ≡ [] = grind (arith, common_steps) in
    logged_end c.args.iface c.args.origin c.loop-change.log.items before c.loop-change.rib begun c.loop-change.sets
    (c.loop-change.invariant.logged before begun is) none
