use Rattle.urpf_cli.proofs.CheckLines.{held_more}
use Rattle.urpf_cli.proofs.check.take_all.Goals as goal

pub loop-item-preserved : goal.loop-item-preserved
loop-item-preserved c =
    held_more c.args.items.now c.loop-item.item-index c.item-item.result _ c.loop-item.rib c.apply_item.new.rib
    c.loop-item-test.true c.item-item.is c.as_ref.ensures.value c.loop-item.invariant c.in_ok-apply_item.ensures
