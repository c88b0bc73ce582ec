-- Which runbook a text is, and which line is refused first. Our own format.
use Rattle.std.specs.Prelude.{◌≡◌, ◌<◌, ℕ, List, ◌∷◌, ◌++◌, length, Some, None, Ok, Err}
use Rattle.std.specs.List.{AllByRecursion, AllZip}
use Rattle.router_config.specs.Configured.{IsConfigured}
use Rattle.router_config.specs.Edits.{IsForConfigured}
use Rattle.router_config.specs.Settings.{Settings}
use Rattle.runbook.specs.declared.lines.BookLine.{BookLine}
use Rattle.runbook.specs.declared.lines.BookLine.TheVariants as line
use Rattle.runbook.specs.declared.lines.BookKind.{BookKind}
use Rattle.runbook.specs.Lines.{Line, numbered}
use Rattle.runbook.specs.Says.{IsJudged}

-- the line of the book has the number of the line of the text, and is what its words say
abbrev pub IsLine : Settings → Line → ℕ × BookLine → Type 0
IsLine config line row = (row.0 ≡ line.number) × IsJudged config line.rounds line.words (Ok row.1)

-- the book has the lines of the text that have words, in their order, and each is taken
abbrev pub IsBook : Settings → List ℕ → List (ℕ × BookLine) → Type 0
IsBook config text rows = AllZip (IsLine config) (numbered text) rows

-- the line of this number is refused for this, and all lines before it are taken
pub record IsFirstFault (config : Settings) (text : List ℕ) (number : ℕ) (kind : BookKind) : Type 0 where
  pub before : List Line
  pub line : Line
  pub behind : List Line
  pub parts : numbered text ≡ before ++ (line ∷ behind)
  pub place : line.number ≡ number
  pub rows : List (ℕ × BookLine)
  pub taken : AllZip (IsLine config) before rows
  pub refused : IsJudged config line.rounds line.words (Err kind)

-- some lines that have words, the first of the text, are taken
pub record OpensTaken (config : Settings) (text : List ℕ) : Type 0 where
  pub before : List Line
  pub behind : List Line
  pub parts : numbered text ≡ before ++ behind
  pub some : 0 < length before
  pub rows : List (ℕ × BookLine)
  pub taken : AllZip (IsLine config) before rows

-- the line names a session or an interface that is configured, where it names one
abbrev pub IsConfiguredFor : Settings → BookLine → Type 0
IsConfiguredFor config (line.Pull None count) = Unit {0}
IsConfiguredFor config (line.Pull (Some session) count) = session < length config.sessions
IsConfiguredFor config line.Publish = Unit {0}
IsConfiguredFor config line.Round = Unit {0}
IsConfiguredFor config (line.Check iface addr) = IsConfigured config.interfaces iface
IsConfiguredFor config (line.Change edit) = IsForConfigured config.interfaces edit
IsConfiguredFor config line.Summary = Unit {0}

-- so does each line of a book
abbrev pub AreConfiguredFor : Settings → List (ℕ × BookLine) → Type 0
AreConfiguredFor config rows = AllByRecursion (λ row. IsConfiguredFor config row.1) rows
