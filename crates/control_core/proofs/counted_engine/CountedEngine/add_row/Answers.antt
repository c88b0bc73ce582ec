use Rattle.std.proofs.Common.{length, ap, sym, ◌∙◌, arith}
use Rattle.control_core.proofs.RowLengths.{adds_length}
use Rattle.control_core.proofs.counted_engine.CountedEngine.add_row.Goals as goal

pub invariant_of-self-2 : goal.invariant_of-self-2
invariant_of-self-2 g c =
    let added = rw c.in_ok-add_row.was at c.add_row.ensures.ok in (
      omega (arith, adds_length added, c.self.invariant.0),
      c.self.invariant.1 ∙ ap length (sym added.pairs),
    )
