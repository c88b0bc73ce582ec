-- What a pull knows of its session where it stops. Our own choice.
use Rattle.std.specs.Prelude.{◌≡◌, ℕ, min, List, length, slice_get, Some}
use Rattle.feed_io.specs.Events.{Event}
use Rattle.control_core.specs.FeedCalls.{Gave}
use Rattle.control_core.specs.Items.{AreItems, Item}
use Rattle.control_core.specs.declared.limits.TheConstants.{ITEM_LIMIT}
use Rattle.run_lines.specs.Inputs.{Input, Run}
use Rattle.run_lines.specs.Places.{Place, reached_at}
use Rattle.run_lines.specs.RunText.{resets}
use Rattle.run_lines.specs.Slots.{Slot, left_in}

-- the text that a pull of this session knows: the lines of the resets among the items of what its feed gave, up to the most
-- that a session takes
pub record PullKnows (run : Run) (place : Place) (session : ℕ) (slots : List Slot) (text : List ℕ) : Type 0 where
  pub input : Input
  pub has : slice_get run.inputs session ≡ Some input
  pub slot : Slot
  pub leaves : slice_get slots session ≡ Some slot
  pub gave : List Event
  pub told : Gave (Some input.course.events) gave (left_in slot)
  pub items : List Item
  pub are : AreItems gave items
  pub same : text ≡ resets session input (reached_at place session).taken (min (length items) ITEM_LIMIT)
