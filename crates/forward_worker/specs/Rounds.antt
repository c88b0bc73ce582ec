-- A round of work: which records were read, and why it ended. Our own choice.
use Rattle.std.specs.Prelude.{◌≡◌, ℕ, ◌+◌, ◌<◌, ◌⊎◌, true, false, List, [], ◌∷◌, ◌++◌, length}
use Rattle.std.specs.Prelude.{Option, Some, None, IfSome}
use Rattle.std.specs.Io.KnownBytes.{Consumes, IsAtEnd, Keeps}
use Rattle.feed_io.specs.Packets.{PacketRecord, packet, marker, BeginsWith, IsBroken}
use Rattle.forward_worker.specs.Rows.{AreRowsOf}
use Rattle.forward_worker.specs.declared.desk.Desk.{Desk}
use Rattle.forward_worker.specs.declared.desk.Stop.{Stop}
use Rattle.forward_worker.specs.declared.desk.Stop.TheVariants as stop
use Rattle.forward_worker.specs.declared.desk.WorkerEnd.{WorkerEnd}
use Rattle.forward_worker.specs.declared.desk.WorkerEnd.TheVariants.{Marker, End, Failed, Bad, Limit, OutOfMemory}
use Rattle.forward_worker.specs.declared.rows.CheckRow.{CheckRow}

-- no record is a marker that the round stops at
abbrev pub GoesOver : Stop → List PacketRecord → Type 0
GoesOver stop.End records = Unit {0}
GoesOver stop.Marker [] = Unit {0}
GoesOver stop.Marker (packet iface octets ∷ records) = GoesOver stop.Marker records
GoesOver stop.Marker (marker ∷ records) = ⊥

-- these records were read from the front of what a source had left, where that is told
abbrev pub AreRead : List PacketRecord → Option (List ℕ) → Option (List ℕ) → Type 0
AreRead records None left = Unit {0}
AreRead records (Some text) None = ⊥
AreRead records (Some text) (Some rest) = BeginsWith text records rest

-- some octets were read, where it is told what a source has left
abbrev pub SomeAreRead : Option (List ℕ) → Option (List ℕ) → Type 0
SomeAreRead old new = (octets : List ℕ) × Consumes old new octets

-- records were read and passed over, and further rows were made, one for each packet among them
pub record PassesOver (stop_at : Stop) (old new : Desk) (had has : Option (List ℕ)) (rows all : List CheckRow) : Type 0 where
  pub records : List PacketRecord
  pub further : List CheckRow
  pub over : GoesOver stop_at records
  pub read : AreRead records had has
  pub rows_are : AreRowsOf old.worker old.place records further
  pub joined : all ≡ rows ++ further
  pub worker : new.worker ≡ old.worker
  pub place : new.place ≡ old.place + length further
  pub taken : new.taken ≡ old.taken + length records
  pub limit : new.limit ≡ old.limit
  pub ended : new.ended ≡ old.ended

-- so many records more were taken, and no packet among them
pub record Takes (count : ℕ) (old new : Desk) : Type 0 where
  pub worker : new.worker ≡ old.worker
  pub place : new.place ≡ old.place
  pub taken : new.taken ≡ old.taken + count
  pub limit : new.limit ≡ old.limit

-- a further record may be read
abbrev pub HasRoom : Desk → Type 0
HasRoom desk = (desk.ended ≡ false) × (desk.taken < desk.limit)

-- how a round ends, by the record that comes next: a marker to stop at, the end of the source, now or before, a read
-- that fails, no record, none that may be read, or no memory for a row
abbrev pub EndsBy : Stop → Desk → Desk → Option (List ℕ) → Option (List ℕ) → WorkerEnd → Type 0
EndsBy stop_at old new had has Marker =
    HasRoom old × Takes 1 old new × (stop_at ≡ stop.Marker) × AreRead (marker ∷ []) had has
EndsBy stop_at old new had has End =
    Takes 0 old new × Keeps had has × ((old.ended ≡ true) ⊎ HasRoom old × IsAtEnd had)
EndsBy stop_at old new had has Failed = HasRoom old × Takes 0 old new × SomeAreRead had has
EndsBy stop_at old new had has Bad = HasRoom old × Takes 0 old new × SomeAreRead had has × IfSome had IsBroken
EndsBy stop_at old new had has Limit =
    Takes 0 old new × Keeps had has × (old.ended ≡ false) × (old.taken ≡ old.limit)
EndsBy stop_at old new had has OutOfMemory = HasRoom old × Takes 0 old new × Keeps had has

-- records are passed over, with a further row for each packet, and the round ends by what comes behind them
pub record IsRound (stop_at : Stop) (old new : Desk) (had has : Option (List ℕ)) (rows all : List CheckRow)
    (outcome : WorkerEnd) : Type 0 where
  pub desk : Desk
  pub behind : Option (List ℕ)
  pub over : PassesOver stop_at old desk had behind rows all
  pub ends : EndsBy stop_at desk new behind has outcome
