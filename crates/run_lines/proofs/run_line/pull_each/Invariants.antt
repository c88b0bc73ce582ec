use Rattle.std.proofs.Common.{◌≡◌, ℕ, Ok, length}
use Rattle.router_config.specs.Settings.{Settings}
use Rattle.control_core.specs.Controls.{KeepsPublished}
use Rattle.control_core.specs.Worlds.{last_number}
use Rattle.run_lines.specs.Inputs.{Run}
use Rattle.run_lines.specs.Places.{Place}
use Rattle.run_lines.specs.Runs.{CountEach, IsAt, RanSteps, Serves}
use Rattle.run_lines.specs.Slots.{slots_of}
use Rattle.run_lines.specs.Steps.{pulls_of}
use Rattle.run_lines.proofs.run_line.pull_each.Given as goal

-- the sessions before this one were pulled
abbrev pub invariant-loop-session : goal.invariant-loop-session
invariant-loop-session g l = record {
  ran : (run : Run) (place : Place) (rounds : ℕ)
      → IsAt run place l.initial.control rounds (slots_of (λ b. (goal.Feed-dyn g (b.vtable, b.value)).left b.value) l.initial.feeds.items)
      → RanSteps run place (pulls_of l.session l.count) (Ok tt) l.control rounds
      (slots_of (λ b. (goal.Feed-dyn g (b.vtable, b.value)).left b.value) l.feeds.items) (g.K.Sink.held l.initial.out) (g.K.Sink.held l.out);
  serves : (config : Settings) → Serves config l.initial.control → Serves config l.control;
  published : KeepsPublished l.initial.control l.control;
  kinds : l.control.kinds ≡ l.initial.control.kinds;
  peers : length l.control.peers ≡ length l.initial.control.peers;
  edits : l.control.edits ≡ l.initial.control.edits;
  number : last_number l.control.marks ≡ last_number l.initial.control.marks;
  feeds : CountEach (λ b. (goal.Feed-dyn g (b.vtable, b.value)).faults b.value) (λ s. ⊥) l.initial.feeds.items l.feeds.items;
  out : g.K.Sink.faults l.out ≡ g.K.Sink.faults l.initial.out;
}
