-- Where a run stops at a limit of a session. Our own choice.
use Rattle.std.specs.Prelude.{◌≡◌, ◌⊎◌, ℕ, ◌-◌, ◌<◌, ◌≤◌, ◌==◌, true, false, if◌then◌else◌, List, [], ◌∷◌, ◌++◌, length}
use Rattle.std.specs.Prelude.{slice_get, Option, Some, None}
use Rattle.feed_io.specs.Events.{Event}
use Rattle.control_core.specs.declared.limits.TheConstants.{ITEM_LIMIT, OCTET_LIMIT}
use Rattle.control_core.specs.FeedCalls.{Gave}
use Rattle.control_core.specs.Items.{AreItems, Item, SameButCuts, octet_count}
use Rattle.control_core.specs.Pulls.{asks_more}
use Rattle.run_lines.specs.Inputs.{Input, Run}
use Rattle.run_lines.specs.Places.{Place, Reached, reached_at}
use Rattle.run_lines.specs.Slots.{Slot, left_in}
use Rattle.run_lines.specs.Steps.{Step, pull, publish, round, check, change, summary}

-- how many items each pull of this session asks for, where one may ask for all
abbrev pub asked_of : ℕ → List Step → List (Option ℕ)
asked_of session [] = []
asked_of session (pull other count ∷ steps) =
    if other == session then count ∷ asked_of session steps else asked_of session steps
asked_of session (publish ∷ steps) = asked_of session steps
asked_of session (round ∷ steps) = asked_of session steps
asked_of session (check iface addr ∷ steps) = asked_of session steps
asked_of session (change edit ∷ steps) = asked_of session steps
asked_of session (summary ∷ steps) = asked_of session steps

-- pulls ask for more than so many items
abbrev pub AsksPast : List (Option ℕ) → ℕ → Type 0
AsksPast [] items = ⊥
AsksPast (None ∷ counts) items = Unit {0}
AsksPast (Some count ∷ counts) items = (items < count) ⊎ AsksPast counts (items - count)

-- the events have as many items as a session may take, and the pulls ask for more
pub record FillsItems (counts : List (Option ℕ)) (events : List Event) : Type 0 where
  pub items : List Item
  pub are : AreItems events items
  pub full : ITEM_LIMIT ≤ length items
  pub asks : AsksPast counts ITEM_LIMIT

-- the events have as many octets as a feed may give, and fewer items than a session may take; the pulls ask for more
-- than these
pub record FillsOctets (counts : List (Option ℕ)) (events : List Event) : Type 0 where
  pub items : List Item
  pub are : AreItems events items
  pub few : length items < ITEM_LIMIT
  pub full : OCTET_LIMIT ≤ octet_count events
  pub asks : AsksPast counts (length items)

-- the events fill no limit that the pulls ask past
abbrev pub FillsNone : List (Option ℕ) → List Event → Type 0
FillsNone counts events = (FillsItems counts events → ⊥) × (FillsOctets counts events → ⊥)

-- it is so of the events that the feed of this session gave
pub record OfGiven (run : Run) (session : ℕ) (slots : List Slot)
    (Fills : List Event → Type 0) : Type 0 where
  pub input : Input
  pub has : slice_get run.inputs session ≡ Some input
  pub slot : Slot
  pub leaves : slice_get slots session ≡ Some slot
  pub gave : List Event
  pub told : Gave (Some input.course.events) gave (left_in slot)
  pub fills : Fills gave

-- a pull where the session has come so far reaches the limit of items, and asks for more
pub record PullFillsItems (at : Reached) (count : Option ℕ) (events : List Event) : Type 0 where
  pub items : List Item
  pub are : AreItems events items
  pub full : ITEM_LIMIT ≤ length items
  pub unmet : at.ended ≡ false
  pub from : at.taken ≤ ITEM_LIMIT
  pub asks : asks_more count (ITEM_LIMIT - at.taken) ≡ true

-- a pull where the session has come so far reaches the limit of octets, and asks for more items than these have
pub record PullFillsOctets (at : Reached) (count : Option ℕ) (events : List Event) : Type 0 where
  pub items : List Item
  pub are : AreItems events items
  pub few : length items < ITEM_LIMIT
  pub full : OCTET_LIMIT ≤ octet_count events
  pub unmet : at.ended ≡ false
  pub from : at.taken ≤ length items
  pub asks : asks_more count (length items - at.taken) ≡ true

-- a step at a place is a pull of this session that reaches a limit with the events that its feed gave
pub record StepFills (Fills : Reached → Option ℕ → List Event → Type 0) (run : Run) (place : Place) (step : Step)
    (session : ℕ) (slots : List Slot) : Type 0 where
  pub count : Option ℕ
  pub pulls : step ≡ pull session count
  pub given : OfGiven run session slots (Fills (reached_at place session) count)

-- the pulls of each session ask past no limit, however many of its events its feed gives
abbrev pub StaysBelow : List (List Event) → List Step → Type 0
StaysBelow feeds steps = (session : ℕ) (all : List Event) → slice_get feeds session ≡ Some all
    → (gave rest : List Event) → SameButCuts all (gave ++ rest) → FillsNone (asked_of session steps) gave
