use Rattle.std.proofs.Common.{length}
use Rattle.roa_irr.proofs.Ahead.{IsValueSoFar}
use Rattle.roa_irr.proofs.values.read_value.Given as goal

abbrev pub invariant-lines : goal.invariant-lines
invariant-lines l = IsValueSoFar l.part l.text l.rest l.value

abbrev pub decreases-lines : goal.decreases-lines
decreases-lines l = length l.rest
