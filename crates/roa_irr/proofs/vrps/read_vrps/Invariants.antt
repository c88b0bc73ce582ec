use Rattle.csv.specs.Reading.{source_of}
use Rattle.roa_irr.specs.Vrps.{known}
use Rattle.roa_irr.proofs.Reading.{IsReading, left_of}
use Rattle.roa_irr.proofs.vrps.read_vrps.Given as goal

-- the records before what is left were read, and are in the table
abbrev pub invariant-rows : goal.invariant-rows
invariant-rows l = IsReading l.fn.text l.reader l.pairs

abbrev pub decreases-rows : goal.decreases-rows
decreases-rows l = left_of (source_of known l.reader) l.reader.state
