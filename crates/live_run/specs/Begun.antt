-- A run with workers before its first line. Our own choice.
use Rattle.std.specs.Prelude.{◌≡◌, []}
use Rattle.cover_table.specs.Snapshots as snapshots
use Rattle.control_core.specs.Controls.{IsOpened}
use Rattle.control_core.specs.Worlds.{Opening}
use Rattle.run_lines.specs.Runs.{run_limits}
use Rattle.live_rounds.specs.Parts.{Standing}

-- a control at the opening, which published nothing and ended no round
pub record IsBegun (opening : Opening) (state : Standing) : Type 0 where
  pub opened : IsOpened opening run_limits state.control
  pub shown : state.shown ≡ snapshots.opening opening.settings.interfaces
  pub batches : state.batches ≡ []
  pub kinds : state.kinds ≡ opening.settings.interfaces
  pub rounds : state.rounds ≡ 0
