-- How a run in progress stands to the places of its runbook, and what its steps come to. Our own choice.
use Rattle.std.specs.Prelude.{◌≡◌, ℕ, ◌+◌, ◌<◌, ◌≤◌, true, false, List, [], ◌∷◌, ◌++◌, length, slice_get, Option, Some}
use Rattle.std.specs.Prelude.{◌↔◌, take, None, Result, Ok, Err}
use Rattle.std.specs.List.{concat}
use Rattle.std.specs.Io.KnownBytes.{Appends}
use Rattle.urpf_base.specs.Faults.{Rose}
use Rattle.cover_table.specs.Snapshots.{Publication}
use Rattle.feed_io.specs.Events.{Event}
use Rattle.router_config.specs.Configured.{IsConfigured}
use Rattle.router_config.specs.Settings.{Settings}
use Rattle.runbook.specs.declared.lines.BookLine.{BookLine}
use Rattle.control_core.specs.declared.limits.Limits.{Limits}
use Rattle.control_core.specs.declared.limits.RunFault.{RunFault}
use Rattle.control_core.specs.declared.limits.RunFault.TheVariants.{ItemLimit, OctetLimit, OutOfMemory, ReadFault}
use Rattle.control_core.specs.declared.limits.RunFault.TheVariants.{WriteFault}
use Rattle.control_core.specs.declared.limits.TheConstants.{ITEM_LIMIT, OCTET_LIMIT}
use Rattle.control_core.specs.Controls.{ControlStandsFor, IsShown}
use Rattle.control_core.specs.Items.{SameButCuts, octet_count}
use Rattle.control_core.specs.Slots.{CountsSlot}
use Rattle.control_core.specs.States.{ControlState, PeerState}
use Rattle.control_core.specs.Worlds.{Course, Position, last_number}
use Rattle.run_lines.specs.Inputs.{Input, IsRun, Run, opening_of, total}
use Rattle.run_lines.specs.Limits.{FillsItems, FillsNone, FillsOctets, OfGiven, PullFillsItems, PullFillsOctets}
use Rattle.run_lines.specs.Limits.{StepFills, asked_of}
use Rattle.run_lines.specs.Places.{Place, Reached, next_place, opening, place_after}
use Rattle.run_lines.specs.RunText.{GiveAll, Gives, IsHead, IsRunText, last_place, steps_for}
use Rattle.run_lines.specs.Slots.{AreEmptied, AreEmptiedBetween, Slot, left_in}
use Rattle.run_lines.specs.Steps.{Step, pull}
use Rattle.run_lines.specs.Stops.{PullKnows}

-- the limits of a run are the largest
abbrev pub run_limits : Limits
run_limits = record { items = ITEM_LIMIT; octets = OCTET_LIMIT }

-- a session stands where the run is: it took so many items of its events, and its feed has the others left; the slot of
-- the feed is empty exactly where the end was met. It took no more items than a session may, and met the end only below
-- both limits
pub record IsSessionAt (input : Input) (at : Reached) (course : Course) (peer : PeerState)
    (slot : Slot) : Type 0 where
  pub rest : List Event
  pub left_is : left_in slot ≡ Some rest
  pub emptied : slot ≡ None ↔ at.ended ≡ true
  pub same : SameButCuts input.course.events (course.events ++ rest)
  pub taken : at.taken ≡ length course.effects
  pub ended : peer.ended ≡ at.ended
  pub all_taken : at.ended ≡ true → at.taken ≡ total input
  pub within : at.taken ≤ ITEM_LIMIT
  pub few_items : at.ended ≡ true → total input < ITEM_LIMIT
  pub few_octets : at.ended ≡ true → octet_count input.course.events < OCTET_LIMIT

-- each session stands so
abbrev pub AreSessionsAt : List Input → List Reached → List Course → List PeerState → List Slot
    → Type 0
AreSessionsAt [] [] [] [] [] = Unit {0}
AreSessionsAt (input ∷ inputs) (at ∷ sessions) (course ∷ courses) (peer ∷ peers) (slot ∷ slots) =
    IsSessionAt input at course peer slot × AreSessionsAt inputs sessions courses peers slots
AreSessionsAt _ _ _ _ _ = ⊥

-- the run is at this place: its control stands for the edits and for what each session took, and made this mark last
pub record IsAt (run : Run) (place : Place) (control : ControlState) (rounds : ℕ)
    (slots : List Slot) : Type 0 where
  pub whole : IsRun run
  pub courses : List Course
  pub stands : ControlStandsFor (opening_of run) place.edits courses control
  pub sessions : AreSessionsAt run.inputs place.sessions courses control.peers slots
  pub earlier : List Position
  pub marks : control.marks ≡ earlier ++ place.mark ∷ []
  pub limits : control.limits ≡ run_limits
  pub able : control.exhausted ≡ false
  pub ended : rounds ≡ place.rounds

-- the publication shows the last mark of a run at this place
abbrev pub Shows : Run → Place → ControlState → Publication → Type 0
Shows run place control shown = IsShown (opening_of run) place.edits control shown

-- a sink took such a text
pub record TookAll (IsText : List ℕ → Type 0) (old new : Option (List ℕ)) : Type 0 where
  pub text : List ℕ
  pub is : IsText text
  pub appended : Appends old new text

-- a sink took a front of such a text
pub record TookFront (IsText : List ℕ → Type 0) (old new : Option (List ℕ)) : Type 0 where
  pub front : List ℕ
  pub more : List ℕ
  pub is : IsText (front ++ more)
  pub appended : Appends old new front

-- a fault of a run names one of so many sessions, where it names one
abbrev pub NamesSession : ℕ → RunFault → Type 0
NamesSession count (ReadFault session) = session < count
NamesSession count WriteFault = Unit {0}
NamesSession count (ItemLimit session) = session < count
NamesSession count (OctetLimit session) = session < count
NamesSession count OutOfMemory = Unit {0}

-- a fault that tells of a limit tells of one that this session reached: of its items, or of its octets
abbrev pub Reaches : (ℕ → Type 0) → (ℕ → Type 0) → RunFault → Type 0
Reaches Items Octets (ReadFault session) = Unit {0}
Reaches Items Octets WriteFault = Unit {0}
Reaches Items Octets (ItemLimit session) = Items session
Reaches Items Octets (OctetLimit session) = Octets session
Reaches Items Octets OutOfMemory = Unit {0}

-- a fault of this session at a step is one of a pull of it, and then all that the pull knows is written
abbrev pub PullStops : Run → Place → Step → List Slot → ℕ → Option (List ℕ) → Option (List ℕ) → Type 0
PullStops run place step slots session old new =
    (count : Option ℕ) × (step ≡ pull session count) × TookAll (PullKnows run place session slots) old new

-- what is written where a step stops: all that is known at a fault of a session; a failed write and want of memory leave
-- a front
abbrev pub StepKnows : Run → Place → Step → List Slot → RunFault → Option (List ℕ) → Option (List ℕ) → Type 0
StepKnows run place step slots (ReadFault session) old new = PullStops run place step slots session old new
StepKnows run place step slots WriteFault old new = Unit {0}
StepKnows run place step slots (ItemLimit session) old new = PullStops run place step slots session old new
StepKnows run place step slots (OctetLimit session) old new = PullStops run place step slots session old new
StepKnows run place step slots OutOfMemory old new = Unit {0}

-- how a step at a place stops: where it tells of a limit it is a pull that reaches it, no feed goes out of its slot but at
-- its end, and what is known is written
pub record StepStops (run : Run) (place : Place) (step : Step) (slots : List Slot) (fault : RunFault)
    (old new : Option (List ℕ)) : Type 0 where
  pub limit : Reaches (λ s. StepFills PullFillsItems run place step s slots)
      (λ s. StepFills PullFillsOctets run place step s slots) fault
  pub emptied : AreEmptiedBetween place (next_place run.inputs step place) slots
  pub knows : StepKnows run place step slots fault old new

-- what a step comes to: its text is taken and the run is at the next place, or it stopped with a front of its text
abbrev pub RanStep : Run → Place → Step → Result (Unit {0}) RunFault → ControlState → ℕ → List Slot
    → Option (List ℕ) → Option (List ℕ) → Type 0
RanStep run place step (Ok done) control rounds slots old new =
    TookAll (Gives run place step) old new × IsAt run (next_place run.inputs step place) control rounds slots
RanStep run place step (Err fault) control rounds slots old new =
    TookFront (Gives run place step) old new × StepStops run place step slots fault old new

-- the text of some steps from a place on
abbrev pub AreTexts : Run → Place → List Step → List ℕ → Type 0
AreTexts run place steps text = (texts : List (List ℕ)) × GiveAll run place steps texts × (text ≡ concat texts)

-- how some steps stop: one of them does, at the place that those before it lead to and where their texts are taken
pub record StepsStop (run : Run) (place : Place) (steps : List Step) (slots : List Slot)
    (fault : RunFault) (old new : Option (List ℕ)) : Type 0 where
  pub before : List Step
  pub step : Step
  pub later : List Step
  pub parts : steps ≡ before ++ step ∷ later
  pub mid : Option (List ℕ)
  pub took : TookAll (AreTexts run place before) old mid
  pub stops : StepStops run (place_after run.inputs before place) step slots fault mid new

-- what some steps come to: their texts are taken and the run is at the place that they lead to, or they stopped with a
-- front of their texts
abbrev pub RanSteps : Run → Place → List Step → Result (Unit {0}) RunFault → ControlState → ℕ
    → List Slot → Option (List ℕ) → Option (List ℕ) → Type 0
RanSteps run place steps (Ok done) control rounds slots old new =
    TookAll (AreTexts run place steps) old new × IsAt run (place_after run.inputs steps place) control rounds slots
RanSteps run place steps (Err fault) control rounds slots old new =
    TookFront (AreTexts run place steps) old new × StepsStop run place steps slots fault old new

-- why a run stops at a limit: the pulls of a session ask past what its feed gave
abbrev pub StopsAtLimit : Run → List Step → List Slot → RunFault → Type 0
StopsAtLimit run steps slots fault =
    Reaches (λ s. OfGiven run s slots (FillsItems (asked_of s steps)))
    (λ s. OfGiven run s slots (FillsOctets (asked_of s steps))) fault

-- a run that stopped had done some of its steps, and no more than one other: no feed went out of its slot but at its end
pub record EmptiesSome (run : Run) (steps : List Step) (slots : List Slot) : Type 0 where
  pub done : List Step
  pub others : List Step
  pub parts : steps ≡ done ++ others
  pub emptied : AreEmptiedBetween (place_after run.inputs done (opening run.config.sessions))
      (place_after run.inputs (done ++ take 1 others) (opening run.config.sessions)) slots

-- a run that a fault of this session stops wrote the head, the texts of the steps before a pull of it, and all that this
-- pull knows
pub record WroteKnown (run : Run) (steps : List Step) (slots : List Slot) (session : ℕ)
    (old new : Option (List ℕ)) : Type 0 where
  pub before : List Step
  pub count : Option ℕ
  pub later : List Step
  pub parts : steps ≡ before ++ pull session count ∷ later
  pub head : List ℕ
  pub is_head : IsHead run head
  pub texts : List ℕ
  pub are : AreTexts run (opening run.config.sessions) before texts
  pub known : List ℕ
  pub is_known : PullKnows run (place_after run.inputs before (opening run.config.sessions)) session slots known
  pub appended : Appends old new (head ++ (texts ++ known))

-- what is written where a run stops: all that is known at a fault of a session
abbrev pub RunKnows : Run → List Step → List Slot → RunFault → Option (List ℕ) → Option (List ℕ) → Type 0
RunKnows run steps slots (ReadFault session) old new = WroteKnown run steps slots session old new
RunKnows run steps slots WriteFault old new = Unit {0}
RunKnows run steps slots (ItemLimit session) old new = WroteKnown run steps slots session old new
RunKnows run steps slots (OctetLimit session) old new = WroteKnown run steps slots session old new
RunKnows run steps slots OutOfMemory old new = Unit {0}

-- the pulls of no session ask past a limit that its feed reached
abbrev pub FillNone : Run → List Step → List Slot → Type 0
FillNone run steps slots = (s : ℕ) → s < length run.inputs → OfGiven run s slots (FillsNone (asked_of s steps))

-- what the run of a book comes to: its text is taken, no limit that it asks past is reached, and the slots are empty of
-- the sessions whose end it met; or it stopped with a front of its text, and at a fault of a session with all of it that
-- was known by then
abbrev pub RanBook : Run → List BookLine → Result (Unit {0}) RunFault → List Slot → Option (List ℕ)
    → Option (List ℕ) → Type 0
RanBook run lines (Ok done) slots old new =
    TookAll (IsRunText run lines) old new × FillNone run (steps_for run lines) slots
    × AreEmptied (last_place run lines) slots
RanBook run lines (Err fault) slots old new =
    TookFront (IsRunText run lines) old new × StopsAtLimit run (steps_for run lines) slots fault
    × EmptiesSome run (steps_for run lines) slots × RunKnows run (steps_for run lines) slots fault old new

-- the control serves the sessions of a configuration, and its interfaces are those that are configured
pub record Serves (config : Settings) (control : ControlState) : Type 0 where
  pub sessions : length control.peers ≡ length config.sessions
  pub few : length config.sessions ≤ 128
  pub interfaces : (iface : ℕ) → IsConfigured config.interfaces iface → IsConfigured control.kinds iface

-- a line of a runbook makes at most one edit and at most one mark
pub record CountsOn (old new : ControlState) : Type 0 where
  pub edits : new.edits ≤ old.edits + 1
  pub number : last_number new.marks ≤ last_number old.marks + 1

-- the faults of the feeds in some slots: they rose exactly where this is so of its session. An empty slot stays empty,
-- and a feed that failed stays in its slot
pub record CountEach {F : Type 0} (faults : F → ℕ) (failed : ℕ → Type 0) (old new : List (Option F)) : Type 0 where
  pub as_many : length new ≡ length old
  pub each : (s : ℕ) (slot next : Option F) → slice_get old s ≡ Some slot → slice_get new s ≡ Some next
      → CountsSlot faults (failed s) slot next

-- no count of faults of the feeds in these slots has risen
abbrev pub NoneRose : {F : Type 0} → (F → ℕ) → List (Option F) → List (Option F) → Type 0
NoneRose {F} faults old new =
    (s : ℕ) (feed next : F) → slice_get old s ≡ Some (Some feed) → slice_get new s ≡ Some (Some next)
    → ¬ Rose (faults feed) (faults next)
