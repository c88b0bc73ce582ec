use Rattle.std.proofs.Common.{length}
use Rattle.urpf_base.proofs.Alike.{SpellsAlike}
use Rattle.bgp_nlri.specs.Nlri.{SpellsPrefix}
use Rattle.bgp_nlri.proofs.fields.check.Given as goal

abbrev pub invariant-loop-rest : goal.invariant-loop-rest
invariant-loop-rest l = SpellsAlike (SpellsPrefix l.family) l.field l.rest

abbrev pub decreases-loop-rest : goal.decreases-loop-rest
decreases-loop-rest l = length l.rest
