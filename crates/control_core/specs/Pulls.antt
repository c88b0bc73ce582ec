-- What a pull takes of a session, and what it writes. Our own choice, over the definitions of items and their effects.
use Rattle.std.specs.Prelude.{◌≡◌, ◌⊎◌, ℕ, ◌+◌, ◌-◌, ◌<◌, ◌≤◌, nat_lt, Bool, true, false, not, ◌&&◌, List, [], ◌++◌}
use Rattle.std.specs.Prelude.{◌∷◌, length, Option, Some, None, Result, Ok, Err}
use Rattle.std.specs.Io.KnownBytes.{Appends}
use Rattle.bgp_wire.specs.Frames.{IsShort}
use Rattle.feed_io.specs.Events.{Event}
use Rattle.urpf_base.specs.declared.sessions.ResetCause.{ResetCause}
use Rattle.session_fsm.specs.declared.items.Effect.{Effect}
use Rattle.report_text.specs.Lines.{reset_line, end_line}
use Rattle.control_core.specs.declared.limits.Limits.{Limits}
use Rattle.control_core.specs.declared.limits.RunFault.{RunFault}
use Rattle.control_core.specs.declared.limits.RunFault.TheVariants.{ReadFault, WriteFault, ItemLimit, OctetLimit}
use Rattle.control_core.specs.declared.limits.RunFault.TheVariants.{OutOfMemory}
use Rattle.control_core.specs.States.{PeerState}
use Rattle.control_core.specs.Items.{IsRest}
use Rattle.control_core.specs.History.{StandsFor}
use Rattle.control_core.specs.ItemSteps.{reset_of}
use Rattle.control_core.specs.Turns.{HadMemory}
use Rattle.control_core.specs.FeedCalls.{Gave, IsEmptied}

-- whether a pull asks for more items than so many: a pull of all does
abbrev pub asks_more : Option ℕ → ℕ → Bool
asks_more None taken = true
asks_more (Some count) taken = nat_lt taken count

-- the line of an item of a session that is a reset, and nothing for another
abbrev pub reset_text : ℕ → ℕ → Option ResetCause → List ℕ
reset_text session item None = []
reset_text session item (Some cause) = reset_line session item cause

-- the lines of the resets among items of these effects; so many items came before
abbrev pub reset_lines : ℕ → ℕ → List Effect → List ℕ
reset_lines session item [] = []
reset_lines session item (effect ∷ later) =
    reset_text session (item + 1) (reset_of effect) ++ reset_lines session (item + 1) later

-- the end line at the end of these events after so many items, and nothing where the end was not met
abbrev pub IsEndText : ℕ → Bool → List Event → ℕ → List ℕ → Type 0
IsEndText session true events items text = (rest : ℕ) × IsRest events rest × (text ≡ end_line session items rest)
IsEndText session false events items text = text ≡ []

-- what a pull writes: the line of each reset among the items that it took, and the end line where it met the end
pub record IsPullText (session : ℕ) (events : List Event) (before more : List Effect) (met : Bool)
    (text : List ℕ) : Type 0 where
  pub end : List ℕ
  pub is_end : IsEndText session met events (length before + length more) end
  pub parts : text ≡ reset_lines session (length before) more ++ end

-- what a sink took of that text: all of it, or a front of it where a write failed
abbrev pub Wrote : Result (Unit {0}) RunFault → (List ℕ → Type 0) → Option (List ℕ) → Option (List ℕ) → Type 0
Wrote (Ok done) IsText old new = (text : List ℕ) × IsText text × Appends old new text
Wrote (Err (ReadFault session)) IsText old new = (text : List ℕ) × IsText text × Appends old new text
Wrote (Err WriteFault) IsText old new =
    (front : List ℕ) × (rest : List ℕ) × IsText (front ++ rest) × Appends old new front
Wrote (Err (ItemLimit session)) IsText old new = (text : List ℕ) × IsText text × Appends old new text
Wrote (Err (OctetLimit session)) IsText old new = (text : List ℕ) × IsText text × Appends old new text
Wrote (Err OutOfMemory) IsText old new = Unit {0}

-- the feed met its end in this pull
abbrev pub met_end : PeerState → PeerState → Bool
met_end old new = not old.ended && new.ended

-- a session that stood for events and effects took more items of what its feed gave, and a sink took what the pull
-- writes
pub record Pulled (events : List Event) (effects : List Effect) (old_left new_left : Option (List Event))
    (old_held new_held : Option (List ℕ)) (result : Result (Unit {0}) RunFault) (old new : PeerState) : Type 0 where
  pub gave : List Event
  pub more : List Effect
  pub told : Gave old_left gave new_left
  pub stands : StandsFor (events ++ gave) (effects ++ more) new
  pub emptied : met_end old new ≡ true → IsEmptied old_left new_left × IsShort new.held
  pub wrote : Wrote result (IsPullText old.number (events ++ gave) effects more (met_end old new)) old_held new_held

-- no more items are taken than are asked for
abbrev pub TakesAtMost : Option ℕ → PeerState → PeerState → Type 0
TakesAtMost None old new = old.session.items ≤ new.session.items
TakesAtMost (Some count) old new =
    (old.session.items ≤ new.session.items) × (new.session.items ≤ old.session.items + count)

-- a pull that memory ran out for took whole items before that, and a sink took the lines of the resets among them
pub record Stopped (events : List Event) (effects : List Effect) (old_left new_left : Option (List Event))
    (old_held new_held : Option (List ℕ)) (old new : PeerState) : Type 0 where
  pub gave : List Event
  pub more : List Effect
  pub told : Gave old_left gave new_left
  pub stands : StandsFor (events ++ gave) (effects ++ more) new
  pub wrote : Appends old_held new_held (reset_lines old.number (length effects) more)

-- more items are asked for than were taken, and the end was met neither before nor now
abbrev pub IsAsked : Option ℕ → PeerState → PeerState → Type 0
IsAsked count old new =
    (old.ended ≡ false) × (new.ended ≡ false) × (asks_more count (new.session.items - old.session.items) ≡ true)

-- how a pull ends, where it leaves the session so: as it asked, at the end, or for one of these causes
abbrev pub EndsBy : Option ℕ → Limits → PeerState → PeerState → Result (Unit {0}) RunFault → Type 0
EndsBy count limits old new (Ok done) =
    ((old.ended ≡ true) × (new ≡ old))
    ⊎ ((old.ended ≡ false)
    × (((new.ended ≡ true) × (asks_more count (new.session.items - old.session.items) ≡ true)
    × (new.session.items < limits.items) × (new.octets < limits.octets))
    ⊎ ((new.ended ≡ false) × (asks_more count (new.session.items - old.session.items) ≡ false))))
EndsBy count limits old new (Err (ReadFault session)) =
    (session ≡ old.number) × IsAsked count old new × (new.session.items < limits.items) × (new.octets < limits.octets)
    × IsShort new.held
EndsBy count limits old new (Err WriteFault) =
    (old.ended ≡ false) × (new.ended ≡ true → asks_more count (new.session.items - old.session.items) ≡ true)
EndsBy count limits old new (Err (ItemLimit session)) =
    (session ≡ old.number) × IsAsked count old new × (limits.items ≤ new.session.items)
EndsBy count limits old new (Err (OctetLimit session)) =
    (session ≡ old.number) × IsAsked count old new × (new.session.items < limits.items) × (limits.octets ≤ new.octets)
    × IsShort new.held
EndsBy count limits old new (Err OutOfMemory) = IsAsked count old new

-- a session within a limit stays within it
abbrev pub StaysWithin : Limits → PeerState → PeerState → Type 0
StaysWithin limits old new =
    (old.session.items ≤ limits.items → new.session.items ≤ limits.items)
    × (old.octets ≤ limits.octets → new.octets ≤ limits.octets)

-- a pull: what it took and wrote, of whatever events the session stood for, how it ended, and what it stayed within
pub record Pull (count : Option ℕ) (limits : Limits) (old_left new_left : Option (List Event))
    (old_held new_held : Option (List ℕ)) (result : Result (Unit {0}) RunFault) (old new : PeerState) : Type 0 where
  pub pulled : (events : List Event) (effects : List Effect) → StandsFor events effects old → HadMemory result
      → Pulled events effects old_left new_left old_held new_held result old new
  pub stopped : (events : List Event) (effects : List Effect) → StandsFor events effects old → result ≡ Err OutOfMemory
      → Stopped events effects old_left new_left old_held new_held old new
  pub ends : EndsBy count limits old new result
  pub most : TakesAtMost count old new
  pub within : StaysWithin limits old new
  pub number : new.number ≡ old.number
  pub config : new.session.config ≡ old.session.config
