use Rattle.std.proofs.Common.{take}
use Rattle.origin_pairs.specs.Pairs.{IsPairSet}
use Rattle.control_core.specs.Loads.{GrowsPairs}
use Rattle.control_core.proofs.set_edits.add_pairs.Given as goal

-- the pairs up to this one are there
abbrev pub invariant-loop-k : goal.invariant-loop-k
invariant-loop-k g l = record {
  told : IsPairSet (take l.k l.pairs.pairs) l.sets.world.pairs;
  grows : GrowsPairs l.initial.sets l.sets;
}
