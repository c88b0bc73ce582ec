use Rattle.std.proofs.Common.{◌≡◌, ◌+◌, ◌-◌, ◌≤◌, Ok, length, slice_range, take}
use Rattle.router_config.specs.Settings.{Settings}
use Rattle.control_core.specs.Worlds.{last_number}
use Rattle.run_lines.specs.Inputs.{Run}
use Rattle.run_lines.specs.Places.{Place, place_after}
use Rattle.run_lines.specs.Publications.{Grows, HandedOn, IsInStep}
use Rattle.run_lines.specs.Runs.{CountEach, IsAt, RanSteps, Serves, Shows}
use Rattle.run_lines.specs.Slots.{slots_of}
use Rattle.run_lines.specs.Steps.{lines_in, steps_of}
use Rattle.run_lines.proofs.run.take_lines.Given as goal

-- the first of the lines were taken, and what they gave was written and handed on
abbrev pub invariant-loop-k : goal.invariant-loop-k
invariant-loop-k g l = record {
  within : l.k ≤ l.upto - l.from;
  ran : (run : Run) (place : Place)
      → IsAt run place l.initial.control l.initial.rounds (slots_of (λ b. (goal.Feed-dyn g (b.vtable, b.value)).left b.value) l.initial.feeds.items)
      → Shows run place l.initial.control (g.T.Outlet.shown l.initial.outlet)
      → RanSteps run place
      (steps_of (length l.initial.control.peers) (take l.k (lines_in (slice_range l.book l.from l.upto)))) (Ok tt)
      l.control l.rounds (slots_of (λ b. (goal.Feed-dyn g (b.vtable, b.value)).left b.value) l.feeds.items) (g.K.Sink.held l.initial.out) (g.K.Sink.held l.out);
  shown : (run : Run) (place : Place)
      → IsAt run place l.initial.control l.initial.rounds (slots_of (λ b. (goal.Feed-dyn g (b.vtable, b.value)).left b.value) l.initial.feeds.items)
      → Shows run place l.initial.control (g.T.Outlet.shown l.initial.outlet)
      → Shows run
      (place_after run.inputs
      (steps_of (length l.initial.control.peers) (take l.k (lines_in (slice_range l.book l.from l.upto)))) place)
      l.control (g.T.Outlet.shown l.outlet);
  batches : (run : Run) (place : Place)
      → IsAt run place l.initial.control l.initial.rounds (slots_of (λ b. (goal.Feed-dyn g (b.vtable, b.value)).left b.value) l.initial.feeds.items)
      → Shows run place l.initial.control (g.T.Outlet.shown l.initial.outlet)
      → HandedOn run place
      (steps_of (length l.initial.control.peers) (take l.k (lines_in (slice_range l.book l.from l.upto)))) (Ok tt)
      (g.T.Outlet.batches l.initial.outlet) (g.T.Outlet.batches l.outlet);
  grows : Grows (g.T.Outlet.batches l.initial.outlet) (g.T.Outlet.batches l.outlet);
  sound : g.T.Outlet.sound l.outlet;
  in_step : IsInStep l.control (g.T.Outlet.shown l.outlet);
  serves : (config : Settings) → Serves config l.initial.control → Serves config l.control;
  peers : length l.control.peers ≡ length l.initial.control.peers;
  edits : l.control.edits ≤ l.from + l.k;
  number : last_number l.control.marks ≤ l.from + l.k;
  rounds : l.rounds ≤ l.from + l.k;
  feeds : CountEach (λ b. (goal.Feed-dyn g (b.vtable, b.value)).faults b.value) (λ s. ⊥) l.initial.feeds.items
      l.feeds.items;
  out : g.K.Sink.faults l.out ≡ g.K.Sink.faults l.initial.out;
}

abbrev pub decreases-loop-k : goal.decreases-loop-k
decreases-loop-k g l = (l.upto - l.from) - l.k
