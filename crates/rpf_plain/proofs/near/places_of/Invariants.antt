use Rattle.std.proofs.Common.{◌≡◌}
use Rattle.rpf_plain.specs.Walks.{ArePlaced, reach_at}
use Rattle.rpf_plain.proofs.near.places_of.Given as goal

abbrev pub invariant-loop : goal.invariant-loop
invariant-loop l = record {
  known : l.known ≡ reach_at l.origins.reaches 0;
  placed : ArePlaced l.origins.reaches l.places.items;
}
