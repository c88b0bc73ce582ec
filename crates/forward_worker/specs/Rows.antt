-- The rows of a round: one for each packet, in order. Our own choice.
use Rattle.std.specs.Prelude.{◌≡◌, ℕ, ◌+◌, List, [], ◌∷◌, take, Option, Some, None}
use Rattle.urpf_base.specs.declared.address.Addr.{Addr}
use Rattle.ip_head.specs.Heads.{HasSource}
use Rattle.feed_io.specs.Packets.{PacketRecord, packet, marker}
use Rattle.forward_worker.specs.declared.octet_front.TheConstants.{FRONT_OCTETS}
use Rattle.forward_worker.specs.declared.rows.CheckRow.{CheckRow}

-- the first octets of the packet name this address as its source, or none
abbrev pub NamesSource : List ℕ → Option Addr → Type 0
NamesSource octets None = (addr : Addr) → HasSource (take FRONT_OCTETS octets) addr → ⊥
NamesSource octets (Some addr) = HasSource (take FRONT_OCTETS octets) addr

-- the row is that of the packet at this place, whatever its answer is
pub record IsRowOf (worker place iface : ℕ) (octets : List ℕ) (row : CheckRow) : Type 0 where
  pub worker_is : row.worker ≡ worker
  pub place_is : row.place ≡ place
  pub iface_is : row.iface ≡ iface
  pub source_is : NamesSource octets row.source

-- the rows are those of the packets among the records, whose places follow this one
abbrev pub AreRowsOf : ℕ → ℕ → List PacketRecord → List CheckRow → Type 0
AreRowsOf worker place [] rows = rows ≡ []
AreRowsOf worker place (marker ∷ records) rows = AreRowsOf worker place records rows
AreRowsOf worker place (packet iface octets ∷ records) rows =
    (row : CheckRow) × (later : List CheckRow) × (rows ≡ row ∷ later)
    × IsRowOf worker (place + 1) iface octets row × AreRowsOf worker (place + 1) records later
