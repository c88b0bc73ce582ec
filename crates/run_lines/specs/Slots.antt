-- The slots of the feeds, one for each session, as contracts see them, and which of them are empty. Our own choice.
use Rattle.std.specs.Prelude.{◌≡◌, ◌↔◌, ℕ, true, List, [], map, slice_get, Option, Some, None}
use Rattle.std.specs.Option.{option_map}
use Rattle.feed_io.specs.Events.{Event}
use Rattle.run_lines.specs.Inputs.{Run}
use Rattle.run_lines.specs.Places.{Place, reached_at}

-- what stands in a slot: nothing, or a feed that has this left
abbrev pub Slot : Type 0
Slot = Option (Option (List Event))

-- what stands in the slots of these feeds
abbrev pub slots_of : {F : Type 0} → (F → Option (List Event)) → List (Option F) → List Slot
slots_of left feeds = map (option_map left) feeds

-- a feed that tells that it has these events left
abbrev pub filled : List Event → Slot
filled events = Some (Some events)

-- what stands in the slots of a run before any event is taken of the feeds
abbrev pub told_by : Run → List Slot
told_by run = map (λ i. filled i.course.events) run.inputs

-- what a slot has left: what its feed has, and nothing where it is empty
abbrev pub left_in : Slot → Option (List Event)
left_in None = Some []
left_in (Some left) = left

-- a slot is empty exactly where the end of its session was met
abbrev pub AreEmptied : Place → List Slot → Type 0
AreEmptied place slots =
    (session : ℕ) → slice_get slots session ≡ Some None ↔ (reached_at place session).ended ≡ true

-- between two places each slot is empty whose session met its end at the first, and no other is but where its session
-- met it at the second
pub record AreEmptiedBetween (first second : Place) (slots : List Slot) : Type 0 where
  pub all : (session : ℕ) → (reached_at first session).ended ≡ true → slice_get slots session ≡ Some None
  pub only : (session : ℕ) → slice_get slots session ≡ Some None → (reached_at second session).ended ≡ true
