use Rattle.std.proofs.Common.{◌++◌}
use Rattle.cover_table.proofs.Writes.{no_rows}
use Rattle.cover_table.proofs.table.CoverTable.new.Goals as goal

pub returns : goal.returns
returns c = no_rows _ (λ i. c.new.ensures.rows 32 i ++ c.new-2.ensures.rows 128 i)
