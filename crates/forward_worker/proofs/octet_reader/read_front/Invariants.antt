use Rattle.std.proofs.Common.{◌≡◌, ◌+◌, ℕ, List, length, take}
use Rattle.std.specs.Io.KnownBytes.{Consumes}
use Rattle.forward_worker.specs.declared.octet_front.TheConstants.{FRONT_OCTETS}
use Rattle.forward_worker.proofs.octet_reader.read_front.Given as goal

abbrev pub invariant-loop-missing : goal.invariant-loop-missing
invariant-loop-missing g l = record {
  read : (octets : List ℕ) × Consumes (g.P.PacketSource.left l.initial.packets) (g.P.PacketSource.left l.packets) octets
      × (length octets + l.missing ≡ l.count) × (l.front ≡ take FRONT_OCTETS octets);
  kept : g.P.PacketSource.faults l.packets ≡ g.P.PacketSource.faults l.initial.packets;
}

abbrev pub decreases-loop-missing : goal.decreases-loop-missing
decreases-loop-missing g l = l.missing
