-- A control at its opening.
use Rattle.std.proofs.Common.{◌≡◌, ℕ, ◌<◌, ◌^◌, ◌≤◌, List, [], length, map, arith, sym, ap, subst, ◌∙◌}
use Rattle.urpf_base.specs.declared.kinds.Kind.{Kind}
use Rattle.cover_table.specs.Snapshots as snapshots
use Rattle.cover_table.specs.Snapshots.{Publication}
use Rattle.cover_table.specs.declared.batch.Batch.{Batch}
use Rattle.runbook.specs.Book.{AreConfiguredFor}
use Rattle.runbook.specs.declared.lines.BookLine.{BookLine}
use Rattle.control_core.specs.Controls.{IsOpened}
use Rattle.control_core.specs.Worlds.{Opening, last_number}
use Rattle.run_lines.specs.Publications.{IsInStep}
use Rattle.run_lines.specs.Runs.{run_limits}
use Rattle.run_lines.proofs.InStep.{opened_in_step}
use Rattle.run_lines.proofs.RunOpened.{as_many, serves_opened}
use Rattle.live_rounds.specs.Parts.{Standing}
use Rattle.live_control.specs.Standings.{IsReady}

-- any lines of its book may be run from the first one on
pub ready_first : (begun : Opening) (book : List (ℕ × BookLine)) (state : Standing)
    → AreConfiguredFor begun.settings book → length book < 2 ^ 32 → length begun.settings.sessions ≤ 128
    → IsOpened begun run_limits state.control → state.shown ≡ snapshots.opening begun.settings.interfaces
    → state.batches ≡ [] → state.kinds ≡ begun.settings.interfaces → state.rounds ≡ 0
    → IsReady book 0 (length begun.settings.sessions) state
ready_first begun book state configured few sessions opened shown batches kinds rounds = record {
  slots = sym (as_many begun.settings.sessions state.control.peers opened.stands.stand);
  config = begun.settings;
  serves = serves_opened begun state.control sessions opened;
  configured = configured;
  few = few;
  edits = omega (arith, opened.stands.counted);
  number = omega (arith, ap last_number opened.marks);
  rounds = omega (arith, rounds);
  in_step = subst (IsInStep state.control) (sym shown) (opened_in_step begun run_limits state.control opened);
  numbered = ap (λ (s : Publication). s.number) shown ∙ sym (ap (λ (l : List Batch). length l) batches);
  names = ap (λ (s : Publication). map (λ (row : ℕ × Kind). row.0) s.kinds) shown
      ∙ ap (map (λ (row : ℕ × Kind). row.0)) (sym kinds);
}
