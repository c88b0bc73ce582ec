use Rattle.roa_irr.proofs.ReadObjects.{IsReadTo, room}
use Rattle.roa_irr.proofs.irr.read_irr.Given as goal

-- the objects before what is left were read, and are in the table
abbrev pub invariant-objects : goal.invariant-objects
invariant-objects l = IsReadTo l.fn.text l.left l.pairs

abbrev pub decreases-objects : goal.decreases-objects
decreases-objects l = room l.left
