-- A live run, round by round: the control runs its lines, the workers read their packets meanwhile, and the rows are
-- written behind the line of the round. Our own choice.
use Rattle.std.specs.Prelude.{◌≡◌, ℕ, List, [], ◌∷◌, ◌++◌, length, map, sum, Option}
use Rattle.std.specs.List.{AllZip, concat, flat_map}
use Rattle.std.specs.Io.KnownBytes.{Appends}
use Rattle.urpf_base.specs.declared.kinds.Kind.{Kind}
use Rattle.cover_table.specs.declared.batch.Batch.{Batch}
use Rattle.report_text.specs.Lines.{done_line}
use Rattle.runbook.specs.declared.lines.BookLine.{BookLine}
use Rattle.runbook.specs.declared.lines.BookLine.TheVariants.{Pull, Publish, Round, Check, Change, Summary}
use Rattle.forward_worker.specs.declared.desk.Stop.TheVariants as stop
use Rattle.live_rounds.specs.Parts.{Running, Slots, Standing}
use Rattle.live_rounds.specs.Rows.{rows_text}
use Rattle.live_rounds.specs.Stations.{Station, WorkedRound, table_of}

-- a live run between two rounds: its control, the slots of its feeds, what its sink holds, and its workers
pub record Stage : Type 0 where
  pub state : Standing
  pub slots : Slots
  pub held : Option (List ℕ)
  pub stations : List Station

abbrev pub stage : Standing → Slots → Option (List ℕ) → List Station → Stage
stage state slots held stations = record { state = state; slots = slots; held = held; stations = stations }

-- the line ends no round
abbrev pub IsOther : BookLine → Type 0
IsOther (Pull session count) = Unit {0}
IsOther Publish = Unit {0}
IsOther Round = ⊥
IsOther (Check iface addr) = Unit {0}
IsOther (Change edit) = Unit {0}
IsOther Summary = Unit {0}

-- no line ends a round
abbrev pub AreOthers : List (ℕ × BookLine) → Type 0
AreOthers [] = Unit {0}
AreOthers (row ∷ rows) = IsOther row.1 × AreOthers rows

-- the rows of all workers, worker by worker
abbrev pub tables_text : List (ℕ × Kind) → List Batch → List Station → List ℕ
tables_text kinds batches stations = concat (map (λ s. rows_text (table_of kinds batches s)) stations)

-- how many packets the workers have read
abbrev pub packet_count : List Station → ℕ
packet_count stations = sum (map (λ s. s.desk.place) stations)

-- a round: lines that end none are run, then the line that ends it, and then the rows are written
pub record IsRoundOf (Ran : Running) (kinds : List (ℕ × Kind)) (lines : List (ℕ × BookLine)) (from to : Stage) : Type 0
  where
    pub before : List (ℕ × BookLine)
    pub others : AreOthers before
    pub line : ℕ × BookLine
    pub ends : line.1 ≡ Round
    pub parts : lines ≡ before ++ line ∷ []
    pub state : Standing
    pub slots : Slots
    pub held : Option (List ℕ)
    pub ran : Ran before from.state from.slots from.held state slots held
    pub told : Option (List ℕ)
    pub ended : Ran (line ∷ []) state slots held to.state to.slots told
    pub worked : AllZip (WorkedRound stop.Marker kinds to.state.batches (length from.state.batches)) from.stations
        to.stations
    pub wrote : Appends told to.held (tables_text kinds to.state.batches to.stations)

-- rounds, one after the other, of these lines
abbrev pub AreRounds : Running → List (ℕ × Kind) → List (List (ℕ × BookLine)) → Stage → Stage → Type 0
AreRounds Ran kinds [] from to = to ≡ from
AreRounds Ran kinds (lines ∷ rounds) from to =
    (mid : Stage) × IsRoundOf Ran kinds lines from mid × AreRounds Ran kinds rounds mid to

-- what comes behind the last round: the other lines are run, the workers read what is left and make rows of the last
-- publication, and the rows are written and the closing line
pub record IsLastOf (Ran : Running) (kinds : List (ℕ × Kind)) (lines : List (ℕ × BookLine)) (from to : Stage) : Type 0
  where
    pub others : AreOthers lines
    pub told : Option (List ℕ)
    pub ran : Ran lines from.state from.slots from.held to.state to.slots told
    pub worked : AllZip (WorkedRound stop.End kinds to.state.batches (length to.state.batches)) from.stations
        to.stations
    pub wrote : Appends told to.held (tables_text kinds to.state.batches to.stations
        ++ done_line (length to.state.batches) (packet_count to.stations))

-- a whole live run of these lines
pub record IsLiveRun (Ran : Running) (kinds : List (ℕ × Kind)) (lines : List (ℕ × BookLine)) (from to : Stage) : Type 0
  where
    pub rounds : List (List (ℕ × BookLine))
    pub rest : List (ℕ × BookLine)
    pub parts : lines ≡ flat_map (λ round. round) rounds ++ rest
    pub mid : Stage
    pub are : AreRounds Ran kinds rounds from mid
    pub last : IsLastOf Ran kinds rest mid to
