use Rattle.std.proofs.Common.{length, ap, ◌∙◌, arith}
use Rattle.control_core.proofs.RowLengths.{adds_length}
use Rattle.control_core.proofs.counted_engine.CountedEngine.remove_row.Goals as goal

pub invariant_of-self : goal.invariant_of-self
invariant_of-self g c = (
  omega (arith, adds_length c.remove_row.ensures, c.self.invariant.0),
  c.self.invariant.1 ∙ ap length c.remove_row.ensures.pairs,
)
