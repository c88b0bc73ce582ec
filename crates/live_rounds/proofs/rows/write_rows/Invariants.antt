use Rattle.std.proofs.Common.{map, take}
use Rattle.std.specs.Io.KnownBytes.{Appends}
use Rattle.live_rounds.specs.Rows.{final_row, rows_text}
use Rattle.live_rounds.proofs.rows.write_rows.Given as goal

-- the first rows were written
abbrev pub invariant-loop-row : goal.invariant-loop-row
invariant-loop-row g l =
    Appends (g.K.Sink.held l.initial.out) (g.K.Sink.held l.out)
    (rows_text (map (final_row l.known g.J.Naming.opening (g.C.Part.state l.part).batches) (take l.row-index l.row-items)))
