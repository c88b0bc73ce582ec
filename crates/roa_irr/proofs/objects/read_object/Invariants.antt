use Rattle.std.proofs.Common.{length}
use Rattle.roa_irr.proofs.Seen.{IsObjectSoFar}
use Rattle.roa_irr.proofs.objects.read_object.Given as goal

-- the attributes before what is left were read
abbrev pub invariant-lines : goal.invariant-lines
invariant-lines l = IsObjectSoFar l.text l.rest l.object

abbrev pub decreases-lines : goal.decreases-lines
decreases-lines l = length l.rest
