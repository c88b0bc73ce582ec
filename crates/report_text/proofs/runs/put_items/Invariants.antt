use Rattle.std.proofs.Common.{take}
use Rattle.report_text.proofs.Spacing.{IsPut}
use Rattle.report_text.proofs.runs.put_items.Given as goal

abbrev pub invariant-loop-item : goal.invariant-loop-item
invariant-loop-item l = IsPut l.initial.to l.to (take l.item-index l.items) l.item-index
