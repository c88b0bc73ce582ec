-- A worker between rounds, and what a round makes of it. Our own choice.
use Rattle.std.specs.Prelude.{◌≡◌, ◌⊎◌, ◌↔◌, ℕ, ◌≤◌, Bool, true, List, [], length, map, Option, None}
use mathlib.Core.List.{IsPrefix}
use Rattle.logbook.specs.Pages.{Book}
use Rattle.urpf_base.specs.declared.kinds.Kind.{Kind}
use Rattle.cover_table.specs.declared.batch.Batch.{Batch}
use Rattle.forward_worker.specs.declared.desk.Desk.{Desk}
use Rattle.forward_worker.specs.declared.desk.Stop.{Stop}
use Rattle.forward_worker.specs.declared.desk.WorkerEnd.{WorkerEnd}
use Rattle.forward_worker.specs.declared.desk.WorkerEnd.TheVariants as end
use Rattle.forward_worker.specs.declared.rows.CheckRow.{CheckRow}
use Rattle.forward_worker.specs.Answers.{AreAnswered}
use Rattle.forward_worker.specs.Rounds.{IsRound}
use Rattle.live_rounds.specs.Rows.{AreJudged, Row, final_row}
use Rattle.live_rounds.specs.declared.worker.TheConstants.{RECORD_LIMIT}
use Rattle.live_rounds.specs.declared.worker.Worker.{Worker}

-- what is seen of a worker: its desk, what its source has left, the rows of its last round and how that ended, and
-- whether its checker is known to have been told of all batches
pub record Station : Type 0 where
  pub desk : Desk
  pub left : Option (List ℕ)
  pub rows : List CheckRow
  pub outcome : WorkerEnd
  pub known : Bool

abbrev pub station_of : {S P : Type 0} → (P → Option (List ℕ)) → Worker S P → Station
station_of left worker = record {
  desk = worker.desk;
  left = left worker.packets;
  rows = worker.rows;
  outcome = worker.outcome;
  known = worker.known;
}

-- a worker has read no more than it may, and that is no more than any worker may
abbrev pub IsFit : {S P : Type 0} → Worker S P → Type 0
IsFit worker = (worker.desk.place ≤ worker.desk.taken) × (worker.desk.taken ≤ worker.desk.limit)
    × (worker.desk.limit ≤ RECORD_LIMIT)

-- the checker has no publications, or it has these interfaces before the first one and was told of these batches
abbrev pub IsTold : Option Book → List (ℕ × Kind) → List Batch → List (ℕ × Kind) → List Batch → Type 0
IsTold identity opening list kinds batches =
    (identity ≡ None) ⊎ ((opening ≡ kinds) × IsPrefix batches list)

-- a round ended where it should
abbrev pub IsFine : WorkerEnd → Type 0
IsFine end.Marker = Unit {0}
IsFine end.End = Unit {0}
IsFine end.Failed = ⊥
IsFine end.Bad = ⊥
IsFine end.Limit = ⊥
IsFine end.OutOfMemory = ⊥

-- the rows of the last round as they are written
abbrev pub table_of : List (ℕ × Kind) → List Batch → Station → List Row
table_of kinds batches station = map (final_row station.known kinds batches) station.rows

-- a round that a worker worked, at whose end these batches were published, and before it so many
pub record WorkedRound (stop : Stop) (kinds : List (ℕ × Kind)) (batches : List Batch) (lowest : ℕ)
    (old new : Station) : Type 0 where
  pub round : IsRound stop old.desk new.desk old.left new.left [] new.rows new.outcome
  pub ended : (new.desk.ended ≡ true) ↔ ((old.desk.ended ≡ true) ⊎ (new.outcome ≡ end.End))
  pub judged : AreJudged kinds batches lowest (table_of kinds batches new)
  pub fine : IsFine new.outcome

module _ {S P : Type 0} (identity : S → Option Book) (opening : S → List (ℕ × Kind)) (list : S → List Batch)
    (left : P → Option (List ℕ)) where
  -- a worker worked a round: what it read and made of it, and what its checker did
  pub record Worked (stop : Stop) (old new : Worker S P) : Type 0 where
    pub round : IsRound stop old.desk new.desk (left old.packets) (left new.packets) [] new.rows new.outcome
    pub ended : (new.desk.ended ≡ true) ↔ ((old.desk.ended ≡ true) ⊎ (new.outcome ≡ end.End))
    pub fit : IsFit new
    pub answered : AreAnswered (opening new.place) (list new.place) (length (list old.place)) new.rows
    pub same_identity : identity new.place ≡ identity old.place
    pub same_opening : opening new.place ≡ opening old.place
    pub grows : IsPrefix (list old.place) (list new.place)

  -- a worker was told of these batches, and its checker was asked once more
  pub record Settled (batches : List Batch) (old new : Worker S P) : Type 0 where
    pub desk : new.desk ≡ old.desk
    pub packets : new.packets ≡ old.packets
    pub rows : new.rows ≡ old.rows
    pub outcome : new.outcome ≡ old.outcome
    pub same_identity : identity new.place ≡ identity old.place
    pub same_opening : opening new.place ≡ opening old.place
    pub grows : IsPrefix (list old.place) (list new.place)
    pub follows : (identity new.place ≡ None) ⊎ IsPrefix batches (list new.place)
    pub known : new.known ≡ true → ¬ (identity new.place ≡ None)

  -- a worker between two rounds: it has read no more than it may, and its checker was told of these batches
  abbrev pub IsReady : List (ℕ × Kind) → List Batch → Worker S P → Type 0
  IsReady kinds batches worker =
      IsFit worker × IsTold (identity worker.place) (opening worker.place) (list worker.place) kinds batches
