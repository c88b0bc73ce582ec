-- The packets of records, and the rows that were made of them.
use Rattle.std.proofs.Common.{◌≡◌, ℕ, ◌+◌, min, List, [], ◌∷◌, ◌++◌, length, refl, sym, ap, subst, ◌∙◌, arith}
use Rattle.std.specs.List.{AllZip}
use Rattle.feed_io.specs.Packets.{BeginsWith, PacketRecord, packet, marker, records_in}
use Rattle.feed_io.proofs.Packets.{records_then}
use Rattle.forward_worker.specs.Rows.{AreRowsOf, NamesSource}
use Rattle.forward_worker.specs.Rounds.{GoesOver}
use Rattle.forward_worker.specs.declared.desk.Stop.TheVariants as stop
use Rattle.forward_worker.specs.declared.rows.CheckRow.{CheckRow}
use Rattle.forward_worker.proofs.Passing.{begins-joined}
use Rattle.live_text.specs.Packets.{IsGood, Packet, packets_from}

-- the row is that of the packet, which is of this round
pub record IsPacketRow (round : ℕ) (packet : Packet) (row : CheckRow) : Type 0 where
  pub round_is : packet.round ≡ round
  pub worker : row.worker ≡ packet.worker
  pub place : row.place ≡ packet.place
  pub iface : row.iface ≡ packet.iface
  pub source : NamesSource packet.octets row.source

-- ---- records up to a marker

-- records without a marker give the rows of one round
pub rows_paired : (last worker place round : ℕ) (records : List PacketRecord) (rows : List CheckRow)
    → GoesOver stop.Marker records → AreRowsOf worker place records rows
    → AllZip (IsPacketRow round) (packets_from last worker place round records) rows
rows_paired last worker place round [] rows over are =
    subst (λ (rs : List CheckRow). AllZip (IsPacketRow round) [] rs) (sym are) tt
rows_paired last worker place round (packet iface octets ∷ records) rows over are =
    let (row, later, parts, is, rest) = are in
    subst
    (λ (rs : List CheckRow). AllZip (IsPacketRow round)
    (packets_from last worker place round (packet iface octets ∷ records)) rs)
    (sym parts) (
      record { round_is = refl; worker = is.worker_is; place = is.place_is; iface = is.iface_is; source = is.source_is },
      rows_paired last worker (place + 1) round records later over rest,
    )
rows_paired last worker place round (marker ∷ records) rows over are = absurd over

-- the packets of such records, and of those behind them
pub packets_then : (last worker place round : ℕ) (records more : List PacketRecord) (rows : List CheckRow)
    → GoesOver stop.Marker records → AreRowsOf worker place records rows
    → packets_from last worker place round (records ++ more)
    ≡ packets_from last worker place round records ++ packets_from last worker (place + length rows) round more
packets_then last worker place round [] more rows over are =
    let none : length rows ≡ 0 = ap length are in
    ap (λ (n : ℕ). packets_from last worker n round more) (omega (arith, none))
packets_then last worker place round (packet iface octets ∷ records) more rows over are =
    let (row, later, parts, is, rest) = are in
    let longer : length rows ≡ length later + 1 = ap length parts ∙ omega arith in
    ap
    (λ (ps : List Packet). record { worker = worker; place = place + 1; round = round; iface = iface; octets = octets } ∷ ps)
    (packets_then last worker (place + 1) round records more later over rest
    ∙ ap (λ (n : ℕ). packets_from last worker (place + 1) round records ++ packets_from last worker n round more)
    (omega (arith, longer)))
packets_then last worker place round (marker ∷ records) more rows over are = absurd over

-- ---- records up to the end

-- behind the last round all records are of it
pub rows_last : (last worker place : ℕ) (records : List PacketRecord) (rows : List CheckRow)
    → AreRowsOf worker place records rows
    → AllZip (IsPacketRow last) (packets_from last worker place last records) rows
rows_last last worker place [] rows are =
    subst (λ (rs : List CheckRow). AllZip (IsPacketRow last) [] rs) (sym are) tt
rows_last last worker place (packet iface octets ∷ records) rows are =
    let (row, later, parts, is, rest) = are in
    subst
    (λ (rs : List CheckRow). AllZip (IsPacketRow last)
    (packets_from last worker place last (packet iface octets ∷ records)) rs)
    (sym parts) (
      record { round_is = refl; worker = is.worker_is; place = is.place_is; iface = is.iface_is; source = is.source_is },
      rows_last last worker (place + 1) records later rest,
    )
rows_last last worker place (marker ∷ records) rows are =
    let same : last ≡ min (last + 1) last = omega arith in
    subst (λ (r : ℕ). AllZip (IsPacketRow last) (packets_from last worker place r records) rows) same
    (rows_last last worker place records rows are)

-- ---- streams

-- the records of a stream, and of what is left behind them
pub stream_then : (text rest : List ℕ) (records : List PacketRecord) → BeginsWith text records rest → IsGood rest
    → IsGood text
stream_then text rest records begins good =
    subst (λ (rs : List PacketRecord). BeginsWith text rs []) (sym (records_then text rest records begins))
    (begins-joined text rest [] records (records_in rest) begins good)

-- what has ended is good
pub good_end : IsGood []
good_end = refl
