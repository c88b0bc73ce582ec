use Rattle.ip_text.proofs.Sides.{at_end}
use Rattle.ip_text.proofs.groups.read_side.Goals as goal

pub returns-then-is_end_or_gap-clause-only : goal.returns-then-is_end_or_gap-clause-only
returns-then-is_end_or_gap-clause-only c groups rest few opens =
    at_end c.args.text.now groups rest (c.is_end_or_gap.ensures.0 c.if-is_end_or_gap.true) opens
