use Rattle.rpf_plain.specs.Walks.{ArePlaced}
use Rattle.rpf_plain.proofs.near.Near.placed.Given as goal

abbrev pub invariant-loop-asn : goal.invariant-loop-asn
invariant-loop-asn l = ArePlaced l.origins.reaches l.places.items
