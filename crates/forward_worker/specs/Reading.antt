-- What is read of a source: the front of a piece of it, and one record. Our own choice.
use Rattle.std.specs.Prelude.{◌≡◌, ℕ, ◌<◌, List, length, take, Option, Some, None, IfSome}
use Rattle.std.specs.Io.KnownBytes.{Consumes, IsAtEnd, Keeps}
use Rattle.feed_io.specs.Packets.{PacketRecord, packet, marker}
use Rattle.forward_worker.specs.Rows.{NamesSource}
use Rattle.forward_worker.specs.Rounds.{SomeAreRead}
use Rattle.forward_worker.specs.declared.octet_front.TheConstants.{FRONT_OCTETS}
use Rattle.forward_worker.specs.declared.octet_reader.FrontRead.{FrontRead}
use Rattle.forward_worker.specs.declared.octet_reader.FrontRead.TheVariants as read
use Rattle.forward_worker.specs.declared.record_reader.RecordRead.{RecordRead}
use Rattle.forward_worker.specs.declared.record_reader.RecordRead.TheVariants.{Packet, Marker, End, Bad, Failed}

-- so many octets were read, whose first ones are these, or the source has fewer
abbrev pub IsFrontRead : ℕ → Option (List ℕ) → Option (List ℕ) → FrontRead → Type 0
IsFrontRead count had has (read.Whole front) =
    (octets : List ℕ) × Consumes had has octets × (length octets ≡ count) × (front ≡ take FRONT_OCTETS octets)
IsFrontRead count had has read.Short = SomeAreRead had has × IfSome had (λ text. length text < count)
IsFrontRead count had has read.Failed = SomeAreRead had has

-- front finds this record first, where it is told what a source had, and the rest is left
abbrev pub IsFirst : (List ℕ → Option (PacketRecord × List ℕ)) → PacketRecord → Option (List ℕ) → Option (List ℕ) → Type 0
IsFirst front first None has = Unit {0}
IsFirst front first (Some text) None = ⊥
IsFirst front first (Some text) (Some rest) = front text ≡ Some (first, rest)

-- what front finds first was read
abbrev pub IsRecordRead : (List ℕ → Option (PacketRecord × List ℕ)) → Option (List ℕ) → Option (List ℕ) → RecordRead → Type 0
IsRecordRead front had has (Packet iface source) =
    (octets : List ℕ) × NamesSource octets source × IsFirst front (packet iface octets) had has
IsRecordRead front had has Marker = IsFirst front marker had has
IsRecordRead front had has End = Keeps had has × IsAtEnd had
IsRecordRead front had has Bad = SomeAreRead had has × IfSome had (λ text. front text ≡ None)
IsRecordRead front had has Failed = SomeAreRead had has
