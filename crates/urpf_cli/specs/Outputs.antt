-- What a run writes, as a function of the texts and events that it reads. Our own choice.
use Rattle.std.specs.Prelude.{◌≡◌, ℕ, List, Option}
use Rattle.feed_io.specs.Events.{Event}
use Rattle.roa_irr.specs.Tables.{Table}
use Rattle.control_core.specs.Items.{AreItems, IsRest, Item}
use Rattle.router_config.specs.Settings.{IsConfig, Settings}
use Rattle.runbook.specs.declared.lines.BookLine.{BookLine}
use Rattle.runbook.specs.Book.{IsBook}
use Rattle.run_lines.specs.Inputs.{IsRun, Run, events_of}
use Rattle.urpf_cli.specs.Openings.{Texts}
use Rattle.urpf_cli.specs.PairTables.{HasTable}
use Rattle.run_lines.specs.RunText.{IsRunText}
use Rattle.run_lines.specs.Steps.{lines_in}
use Rattle.urpf_cli.specs.Words.{PairsFrom}

-- the events of a feed have the same items as those of another, and leave as many octets behind them
abbrev pub HaveSameItems : List Event → List Event → Type 0
HaveSameItems events others =
    (items : List Item) × (rest : ℕ) × AreItems events items × AreItems others items × IsRest events rest
    × IsRest others rest

-- the run reads this configuration, this table of pairs and these events, of one feed a session
pub record Reads (run : Run) (config : Settings) (table : Option Table) (events : List (List Event)) : Type 0 where
  pub configured : run.config ≡ config
  pub tabled : run.table ≡ table
  pub told : events_of run ≡ events
  pub is : IsRun run

-- what a run of these texts over these events writes, where nothing stops it, and where its pairs come from there
pub record IsOutput (from : PairsFrom) (texts : Texts) (events : List (List Event)) (output : List ℕ) : Type 0 where
  pub settings : Settings
  pub configures : IsConfig texts.config settings
  pub rows : List (ℕ × BookLine)
  pub lists : IsBook settings texts.book rows
  pub table : Option Table
  pub has : HasTable from texts.pairs table
  pub run : Run
  pub reads : Reads run settings table events
  pub is : IsRunText run (lines_in rows) output
