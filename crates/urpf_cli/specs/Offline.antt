-- What `offline` answers. Our own choice, over the definitions of the opening and of the run.
use Rattle.std.specs.Prelude.{ℕ, List, length, Option, Result}
use Rattle.feed_io.specs.Events.{Event}
use Rattle.roa_irr.specs.Tables.{Table}
use Rattle.router_config.specs.Settings.{Settings}
use Rattle.runbook.specs.declared.lines.BookLine.{BookLine}
use Rattle.control_core.specs.declared.limits.RunFault.{RunFault}
use Rattle.run_lines.specs.Inputs.{Run}
use Rattle.run_lines.specs.Limits.{StaysBelow}
use Rattle.urpf_cli.specs.Openings.{Opens, Texts}
use Rattle.urpf_cli.specs.Outputs.{Reads}
use Rattle.run_lines.specs.RunText.{IsRunText, steps_for}
use Rattle.run_lines.specs.Runs.{EmptiesSome, RanBook, TookFront}
use Rattle.run_lines.specs.Slots.{Slot}
use Rattle.run_lines.specs.Steps.{lines_in, steps_of}

-- the run of these words and texts over these events asks past no limit
pub record IsBelowLimits (words : List (List ℕ)) (texts : Texts) (events : List (List Event)) : Type 0 where
  pub settings : Settings
  pub rows : List (ℕ × BookLine)
  pub table : Option Table
  pub opens : Opens words texts (length events) settings rows table
  pub below : StaysBelow events (steps_of (length settings.sessions) (lines_in rows))

-- what the run of these words and texts over these events comes to
pub record RanText (words : List (List ℕ)) (texts : Texts) (events : List (List Event))
    (result : Result (Unit {0}) RunFault) (slots : List Slot) (old new : Option (List ℕ)) : Type 0
  where
    pub settings : Settings
    pub rows : List (ℕ × BookLine)
    pub table : Option Table
    pub opens : Opens words texts (length events) settings rows table
    pub run : Run
    pub reads : Reads run settings table events
    pub ran : RanBook run (lines_in rows) result slots old new

-- the sink took a front of the run of these words and texts over these events, and no feed went out of its slot but at
-- its end
pub record TookRunFront (words : List (List ℕ)) (texts : Texts) (events : List (List Event))
    (slots : List Slot) (old new : Option (List ℕ)) : Type 0 where
  pub settings : Settings
  pub rows : List (ℕ × BookLine)
  pub table : Option Table
  pub opens : Opens words texts (length events) settings rows table
  pub run : Run
  pub reads : Reads run settings table events
  pub took : TookFront (IsRunText run (lines_in rows)) old new
  pub emptied : EmptiesSome run (steps_for run (lines_in rows)) slots
