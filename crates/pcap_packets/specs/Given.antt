-- The packets of captured frames, as packet records. Our own choice, as all packet records.
use Rattle.std.specs.Prelude.{ℕ, List, [], ◌∷◌, take, drop, Option, Some, None}
use Rattle.feed_io.specs.Packets.{PacketRecord, packet}
use Rattle.pcap_packets.specs.Frames.{packet_offset}
use Rattle.pcap_packets.specs.declared.formats.Link.{Link}

-- what stands behind so many octets, up to 60 octets of it, as a packet that came in on this interface
abbrev pub packets_behind : ℕ → Option ℕ → List ℕ → List PacketRecord
packets_behind iface None frame = []
packets_behind iface (Some offset) frame = packet iface (take 60 (drop offset frame)) ∷ []

-- the packet of a frame, where it has one
abbrev pub packets_of : Link → ℕ → List ℕ → List PacketRecord
packets_of link iface frame = packets_behind iface (packet_offset link frame) frame
