use Rattle.report_text.proofs.Spacing.{put_more}
use Rattle.report_text.proofs.runs.put_items.Goals as goal

pub loop-item-preserved : goal.loop-item-preserved
loop-item-preserved c =
    put_more c.args.to.now c.loop-item.to c.put_item.new.to c.args.items.now c.loop-item.item-index
    c.loop-item.invariant c.loop-item-test.true c.put_item.ensures.text c.put_item.ensures.short
