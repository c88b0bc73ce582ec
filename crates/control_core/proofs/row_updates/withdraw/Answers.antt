use Rattle.control_core.proofs.Logs.{follow-trans}
use Rattle.control_core.proofs.Withdrawals.{withdrawing_goes_on}
use Rattle.control_core.proofs.row_updates.withdraw.Goals as goal

pub loop-prefix-preserved : goal.loop-prefix-preserved
loop-prefix-preserved g c =
    let step = rw c.in-Some.is at c.next.ensures.steps in
    let walk = rw step at c.loop-prefix.invariant.walk in
    record {
      walk = withdrawing_goes_on c.args.update.now.announced c.args.update.now.withdrawn c.next.new.self
          c.in-Some.prefix c.args.rib.now c.loop-prefix.rib c.withdraw_one.new.rib walk c.withdraw_one.ensures.gone
          c.withdraw_one.ensures.kept;
      rows = follow-trans c.args.iface c.args.rib.now c.loop-prefix.rib c.withdraw_one.new.rib c.args.sets.now
          c.loop-prefix.sets c.withdraw_one.new.sets c.loop-prefix.invariant.rows c.withdraw_one.ensures.rows;
    }
