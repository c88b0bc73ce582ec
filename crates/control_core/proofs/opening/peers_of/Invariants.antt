use Rattle.std.proofs.Common.{◌≡◌, map, take, vec_len}
use Rattle.control_core.specs.Openings.{AreNew}
use Rattle.control_core.specs.Peers.{peer_of}
use Rattle.control_core.proofs.opening.peers_of.Given as goal

abbrev pub invariant-loop-number : goal.invariant-loop-number
invariant-loop-number l = record {
  new : AreNew l.config.interfaces (take l.number l.config.sessions) (map peer_of l.peers.items);
  count : vec_len l.peers ≡ l.number;
}
