use Rattle.std.proofs.Common.{length}
use Rattle.as_path.specs.Path.{SpellsSegment}
use Rattle.urpf_base.proofs.Alike.{SpellsAlike}
use Rattle.as_path.proofs.paths.is_path.Given as goal

abbrev pub invariant-loop-rest : goal.invariant-loop-rest
invariant-loop-rest l = SpellsAlike (SpellsSegment l.width) l.value l.rest

abbrev pub decreases-loop-rest : goal.decreases-loop-rest
decreases-loop-rest l = length l.rest
