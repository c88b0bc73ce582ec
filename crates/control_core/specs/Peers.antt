-- What contracts see of a session with its feed.
use Rattle.std.specs.Prelude.{ℕ, List, ◌++◌}
use Rattle.control_core.specs.declared.reassembly.Reassembly.{Reassembly}
use Rattle.control_core.specs.declared.peering.Peering.{Peering}
use Rattle.control_core.specs.States.{PeerState}

-- the octets that are held: those in the framer, and behind them those that wait
abbrev pub held_octets : Reassembly → List ℕ
held_octets reassembly = reassembly.framer ++ reassembly.waiting

-- the session, its routes, and what it holds of its feed
abbrev pub peer_of : Peering → PeerState
peer_of p = record {
  number = p.number;
  session = p.session;
  routes = p.rib;
  held = held_octets p.reassembly;
  receiving = p.reassembly.receiving;
  octets = p.octets;
  ended = p.ended;
}
