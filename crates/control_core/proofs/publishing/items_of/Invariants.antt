use Rattle.std.proofs.Common.{◌≡◌, map, take}
use Rattle.control_core.proofs.publishing.items_of.Given as goal

abbrev pub invariant-loop-peer : goal.invariant-loop-peer
invariant-loop-peer l = l.items.items ≡ map (λ p. p.session.items) (take l.peer-index l.peers)
