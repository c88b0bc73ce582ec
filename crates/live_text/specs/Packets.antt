-- The packets of a stream, each with its place and its round. Our own choice.
use Rattle.std.specs.Prelude.{ℕ, ◌+◌, min, List, [], ◌∷◌}
use Rattle.feed_io.specs.Packets.{BeginsWith, PacketRecord, packet, marker, records_in}

-- a packet that a worker reads: its place among the packets of the stream, its round, its interface and its octets
pub record Packet : Type 0 where
  pub worker : ℕ
  pub place : ℕ
  pub round : ℕ
  pub iface : ℕ
  pub octets : List ℕ

-- the packets among records, whose places follow this one: they are of this round, and behind each marker of
-- the next one, but of none behind the last
abbrev pub packets_from : ℕ → ℕ → ℕ → ℕ → List PacketRecord → List Packet
packets_from last worker place round [] = []
packets_from last worker place round (packet iface octets ∷ records) =
    record { worker = worker; place = place + 1; round = round; iface = iface; octets = octets }
    ∷ packets_from last worker (place + 1) round records
packets_from last worker place round (marker ∷ records) =
    packets_from last worker place (min (round + 1) last) records

-- the packets of the stream of a worker, in a run of so many rounds: those behind all of them are of one round more
abbrev pub packets_in : ℕ → ℕ → List ℕ → List Packet
packets_in rounds worker stream = packets_from (rounds + 1) worker 0 1 (records_in stream)

-- a stream is packets and markers up to its end
abbrev pub IsGood : List ℕ → Type 0
IsGood stream = BeginsWith stream (records_in stream) []
