-- What a control of many sessions stands for, and what its calls change. Our own choice.
use Rattle.std.specs.Prelude.{◌≡◌, ℕ, ◌+◌, ◌≤◌, true, false, List, [], ◌∷◌, ◌++◌, length, map, take, Option, Some}
use Rattle.std.specs.Prelude.{Result, slice_get, slice_set, sum, ◌<◌}
use Rattle.std.specs.List.{AllByRecursion}
use Rattle.urpf_base.specs.Address.{Block}
use Rattle.urpf_base.specs.Lists.{Has}
use Rattle.urpf_base.specs.declared.kinds.Kind.{Kind}
use Rattle.urpf_base.specs.declared.sessions.SessionConfig.{SessionConfig}
use Rattle.adj_rib.specs.Routes.{prefixes_of}
use Rattle.cover_table.specs.Snapshots.{Publication}
use Rattle.cover_table.specs.declared.batch.Batch.{Batch}
use Rattle.feed_io.specs.Events.{Event}
use Rattle.origin_pairs.specs.Pairs.{IsPairSet, Pair}
use Rattle.router_config.specs.Edits.{edited}
use Rattle.router_config.specs.Settings.{Settings}
use Rattle.router_config.specs.declared.edits.Edit.{Edit}
use Rattle.router_config.specs.declared.edits.Edit.TheVariants as edit
use Rattle.rpf_plain.specs.Cells.{AreChanges, IsDifference, IsTable, cell_at}
use Rattle.rpf_plain.specs.Engine.{EngineState, IsDrained}
use Rattle.rpf_plain.specs.World.{World, roles_of}
use Rattle.session_fsm.specs.declared.items.Effect.{Effect}
use Rattle.control_core.specs.declared.counted_engine.TheConstants.{PAIRS_MOST}
use Rattle.control_core.specs.declared.limits.Limits.{Limits}
use Rattle.control_core.specs.declared.limits.RunFault.{RunFault}
use Rattle.control_core.specs.History.{StandsFor}
use Rattle.control_core.specs.Slots.{CountsSlot, PullsSlot}
use Rattle.control_core.specs.States.{ControlState, PeerState}
use Rattle.control_core.specs.Worlds.{Course, IsWorldAt, Opening, Position, kinds_after, last_number}
use Rattle.control_core.specs.Worlds.{pairs_edited}

-- how many items each session took
abbrev pub items_of : List PeerState → List ℕ
items_of peers = map (λ p. p.session.items) peers

-- where the control is, with the number of its last publication
abbrev pub position_of : ControlState → ℕ → Position
position_of control number = record { number = number; edits = control.edits; items = items_of control.peers }

-- each session stands for its course
abbrev pub AllStand : List Course → List PeerState → Type 0
AllStand [] [] = Unit {0}
AllStand [] (peer ∷ peers) = ⊥
AllStand (course ∷ courses) [] = ⊥
AllStand (course ∷ courses) (peer ∷ peers) =
    (peer.session.config ≡ course.config) × StandsFor course.events course.effects peer × AllStand courses peers

-- no number of the first list is above that of the second
abbrev pub AreAtMost : List ℕ → List ℕ → Type 0
AreAtMost [] [] = Unit {0}
AreAtMost [] (n ∷ ns) = ⊥
AreAtMost (m ∷ ms) [] = ⊥
AreAtMost (m ∷ ms) (n ∷ ns) = (m ≤ n) × AreAtMost ms ns

-- a position is none that is still to come
pub record IsReached (mark now : Position) : Type 0 where
  pub edits : mark.edits ≤ now.edits
  pub items : AreAtMost mark.items now.items

-- a control stands for an opening, edits and the course of each session: its kinds are those of the opening after the
-- edits, its engine has the world of now, and the table of the engine is that of the world of the last mark; no event and
-- no edit is kept
pub record ControlStandsFor (opening : Opening) (edits : List Edit) (courses : List Course)
    (control : ControlState) : Type 0 where
  pub sessions : map (λ c. c.config) courses ≡ opening.settings.sessions
  pub stand : AllStand courses control.peers
  pub counted : control.edits ≡ length edits
  pub earlier : List Position
  pub last : Position
  pub marks : control.marks ≡ earlier ++ last ∷ []
  pub reached : IsReached last (position_of control last.number)
  pub now : IsWorldAt opening edits courses (position_of control last.number) control.kinds control.engine.world
  pub marked_kinds : List (ℕ × Kind)
  pub marked : World
  pub is_marked : IsWorldAt opening edits courses last marked_kinds marked
  pub base : IsTable marked control.engine.base

-- a publication shows the last mark of a control: it has the number of the mark, the interfaces of the opening after the
-- edits of the mark, and the cells of the table of the engine
pub record IsShown (opening : Opening) (edits : List Edit) (control : ControlState)
    (publication : Publication) : Type 0 where
  pub earlier : List Position
  pub last : Position
  pub marks : control.marks ≡ earlier ++ last ∷ []
  pub number : publication.number ≡ last.number
  pub kinds : publication.kinds ≡ kinds_after (take last.edits edits) opening.settings.interfaces
  pub cells : (p : Block) → cell_at publication.cells p ≡ cell_at control.engine.base p

-- no event came to a session yet
abbrev pub not_begun : SessionConfig → Course
not_begun config = record { config = config; events = []; effects = [] }

-- mark 0: no edit, and no item of any session
abbrev pub first_mark : List SessionConfig → Position
first_mark sessions = record { number = 0; edits = 0; items = map (λ s. 0) sessions }

-- a new control: no event came, no feed met its end, nothing was edited, and mark 0 is the only one
pub record IsOpened (opening : Opening) (limits : Limits) (control : ControlState) : Type 0 where
  pub stands : ControlStandsFor opening [] (map not_begun opening.settings.sessions) control
  pub unmet : AllByRecursion (λ p. p.ended ≡ false) control.peers
  pub marks : control.marks ≡ first_mark opening.settings.sessions ∷ []
  pub limits_are : control.limits ≡ limits
  pub exhausted : control.exhausted ≡ false

-- what a run begins with that has no pairs
abbrev pub without_pairs : Settings → Opening
without_pairs settings = record { settings = settings; pairs = [] }

-- nothing was loaded, pulled, edited or published yet
pub record IsUnused (control : ControlState) : Type 0 where
  pub settings : Settings
  pub limits : Limits
  pub opened : IsOpened (without_pairs settings) limits control

-- how many routes the sessions have together
abbrev pub route_count : List PeerState → ℕ
route_count peers = sum (map (λ p. length (prefixes_of p.routes)) peers)

-- the marks, the table of the engine at the last of them and the limits are as they were
pub record KeepsPublished (old new : ControlState) : Type 0 where
  pub marks : new.marks ≡ old.marks
  pub base : new.engine.base ≡ old.engine.base
  pub limits : new.limits ≡ old.limits

-- the control that memory was refused to: nothing else of it is changed
abbrev pub refused : ControlState → ControlState
refused control = record control { exhausted = true }

-- the interfaces and the edits are as they were
pub record KeepsKinds (old new : ControlState) : Type 0 where
  pub kinds : new.kinds ≡ old.kinds
  pub edits : new.edits ≡ old.edits

-- the session of this number is pulled: no other one changes, and no other slot
pub record PullsOne {F : Type 0} (left : F → Option (List Event)) (session : ℕ) (count : Option ℕ) (limits : Limits)
    (old_slots new_slots : List (Option F)) (old_held new_held : Option (List ℕ))
    (result : Result (Unit {0}) RunFault) (old new : List PeerState) : Type 0 where
  pub peer : PeerState
  pub was : slice_get old session ≡ Some peer
  pub number : peer.number ≡ session
  pub later : PeerState
  pub is : new ≡ slice_set old session later
  pub slot : Option F
  pub had : slice_get old_slots session ≡ Some slot
  pub next : Option F
  pub has : new_slots ≡ slice_set old_slots session next
  pub pull : PullsSlot left count limits slot next old_held new_held result peer later

-- the faults of the feed in one slot of several
pub record CountsOne {F : Type 0} (faults : F → ℕ) (session : ℕ) (failed : Type 0)
    (old new : List (Option F)) : Type 0 where
  pub slot : Option F
  pub had : slice_get old session ≡ Some slot
  pub next : Option F
  pub has : new ≡ slice_set old session next
  pub counts : CountsSlot faults failed slot next

-- the session's course with more events of its feed, and the effects of more items
abbrev pub goes_on : Course → List Event → List Effect → Course
goes_on course gave more =
    record { config = course.config; events = course.events ++ gave; effects = course.effects ++ more }

-- the pairs of the table are those of the control, each once, and they are counted; all else is as it was
pub record LoadsPairs (table : List Pair) (old new : ControlState) (answer : ℕ) : Type 0 where
  pub pairs : IsPairSet table new.engine.world.pairs
  pub count : answer ≡ length new.engine.world.pairs
  pub kinds : KeepsKinds old new
  pub peers : new.peers ≡ old.peers
  pub published : KeepsPublished old new

-- where the roles of an engine are those of the interfaces, they are so after the edit, and so are its pairs where they
-- are those of a list; all else of it is as it was
pub record EditsSets (edit : Edit) (old new : EngineState) : Type 0 where
  pub rows : new.world.rows ≡ old.world.rows
  pub roles : (kinds : List (ℕ × Kind)) → old.world.roles ≡ roles_of kinds
      → new.world.roles ≡ roles_of (edited edit kinds)
  pub pairs : (pairs : List Pair) → IsPairSet pairs old.world.pairs
      → IsPairSet (pairs_edited edit pairs) new.world.pairs
  pub base : new.base ≡ old.base

-- memory can be refused for the edit: it adds a pair that is not there, or one where there are as many as an engine is
-- given
abbrev pub CanBeRefused : Edit → EngineState → Type 0
CanBeRefused (edit.Role iface role) engine = ⊥
CanBeRefused (edit.Mode iface mode) engine = ⊥
CanBeRefused (edit.PairAdd prefix asn) engine =
    length engine.world.pairs < PAIRS_MOST → ¬ Has engine.world.pairs (prefix, asn)
CanBeRefused (edit.PairDel prefix asn) engine = ⊥

-- an edit counts, also where it changes nothing; the routes and the last publication are as they were
pub record Edits (edit : Edit) (old new : ControlState) : Type 0 where
  pub kinds : new.kinds ≡ edited edit old.kinds
  pub counted : new.edits ≡ old.edits + 1
  pub peers : new.peers ≡ old.peers
  pub published : KeepsPublished old new

-- a publication makes a mark of now under the next number, and its batch has that number, the interfaces of now and the
-- cells that changed; the table of the engine is that of now, and nothing else is changed
pub record Publishes (old new : ControlState) (batch : Batch) : Type 0 where
  pub number : batch.number ≡ last_number old.marks + 1
  pub interfaces : batch.kinds ≡ old.kinds
  pub changed : AreChanges old.engine.world old.engine.base batch.changes
  pub drained : IsDrained old.engine new.engine
  pub marks : new.marks ≡ old.marks ++ position_of old batch.number ∷ []
  pub peers : new.peers ≡ old.peers
  pub limits : new.limits ≡ old.limits
  pub kept : KeepsKinds old new

-- the parts of a publication: a mark of these items and edits is made, and its batch has the interfaces and the cells
-- that changed since the last drain of the engine
pub record PublishesParts (items : List ℕ) (edits : ℕ) (kinds : List (ℕ × Kind)) (old_sets new_sets : EngineState)
    (old_marks new_marks : List Position) (batch : Batch) : Type 0 where
  pub number : batch.number ≡ last_number old_marks + 1
  pub interfaces : batch.kinds ≡ kinds
  pub changed : AreChanges old_sets.world old_sets.base batch.changes
  pub drained : IsDrained old_sets new_sets
  pub marks : new_marks ≡ old_marks ++ record { number = batch.number; edits = edits; items = items } ∷ []

-- the changes of a batch are exactly the cells that differ between the worlds of the last mark and of now
pub record PublishesDifference (opening : Opening) (edits : List Edit) (courses : List Course)
    (old : ControlState) (batch : Batch) : Type 0 where
  pub earlier : List Position
  pub last : Position
  pub marks : old.marks ≡ earlier ++ last ∷ []
  pub kinds_before : List (ℕ × Kind)
  pub before : World
  pub was : IsWorldAt opening edits courses last kinds_before before
  pub after : World
  pub is : IsWorldAt opening edits courses (position_of old batch.number) batch.kinds after
  pub difference : IsDifference before after batch.changes
