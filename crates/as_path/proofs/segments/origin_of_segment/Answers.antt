use Rattle.as_path.proofs.HopLaws.{origin-segment}
use Rattle.as_path.proofs.segments.origin_of_segment.Goals as goal

pub returns-in-Sequence : goal.returns-in-Sequence
returns-in-Sequence c =
    origin-segment c.args.width c.args.segment_type c.requires.0 c.args.numbers.now _ _ c.in-Sequence.is c.requires.1
    c.requires.2 c.last_number.ensures c.unless_zero.ensures
