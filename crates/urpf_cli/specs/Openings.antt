-- What comes before a run: the words, the texts of the configuration, of the runbook and of the table of pairs, and the
-- number of sessions. Our own choice.
use Rattle.std.specs.Prelude.{◌≡◌, ℕ, ◌≤◌, List, length, min, Option, Some}
use Rattle.router_config.specs.declared.faults.ConfigFault.{ConfigFault}
use Rattle.router_config.specs.Settings.{IsConfig, Settings}
use Rattle.router_config.specs.Settings as settings
use Rattle.roa_irr.specs.Tables.{Table}
use Rattle.runbook.specs.declared.book.BookFault.{BookFault}
use Rattle.runbook.specs.declared.lines.BookLine.{BookLine}
use Rattle.runbook.specs.Book.{AreConfiguredFor, IsBook, IsFirstFault}
use Rattle.urpf_cli.specs.PairTables.{HasTable, IsPairsRefused}
use Rattle.urpf_cli.specs.TextRefusals.{IsTextFailure, IsTextRefused}
use Rattle.urpf_cli.specs.Words.{AreOfflineWords}
use Rattle.urpf_cli.specs.declared.opening.TheConstants.{BOOK_OCTETS, CONFIG_OCTETS}
use Rattle.urpf_cli.specs.declared.refusals.Refusal.{Refusal}
use Rattle.urpf_cli.specs.declared.refusals.Refusal.TheVariants.{Misused, Config, Book, Pairs, SessionCount}
use Rattle.urpf_cli.specs.declared.refusals.TextRefusal.{TextRefusal}
use Rattle.urpf_cli.specs.declared.refusals.TooManyPairs.{TooManyPairs}

-- the texts that a run begins with
pub record Texts : Type 0 where
  pub config : List ℕ
  pub book : List ℕ
  pub pairs : List ℕ

-- the sources of the configuration, of the runbook and of the table of pairs tell these texts
pub record AreTold (config book pairs : Option (List ℕ)) (texts : Texts) : Type 0 where
  pub configuration : config ≡ Some texts.config
  pub runbook : book ≡ Some texts.book
  pub table : pairs ≡ Some texts.pairs

-- the text has at most 1 MiB and configures this
pub record Configures (text : List ℕ) (config : Settings) : Type 0 where
  pub short : length text ≤ CONFIG_OCTETS
  pub is : IsConfig text config

-- the text has at most 1 MiB, and over this configuration it is the runbook of these lines
pub record IsRunbook (config : Settings) (text : List ℕ) (rows : List (ℕ × BookLine)) : Type 0 where
  pub short : length text ≤ BOOK_OCTETS
  pub is : IsBook config text rows

-- the text is refused as a configuration, for this
abbrev pub IsConfigRefused : List ℕ → TextRefusal ConfigFault → Type 0
IsConfigRefused text refusal = IsTextRefused CONFIG_OCTETS (settings.IsRefused text) text refusal

-- the text is refused as a runbook over this configuration, for this
abbrev pub IsBookRefused : Settings → List ℕ → TextRefusal BookFault → Type 0
IsBookRefused config text refusal =
    IsTextRefused BOOK_OCTETS (λ fault. IsFirstFault config text fault.line fault.kind) text refusal

-- the words, the texts and so many sessions given open a run of these lines over this configuration, with this table of
-- pairs
pub record Opens (words : List (List ℕ)) (texts : Texts) (given : ℕ) (settings : Settings)
    (rows : List (ℕ × BookLine)) (table : Option Table) : Type 0 where
  pub fit : AreOfflineWords words
  pub configured : Configures texts.config settings
  pub listed : IsRunbook settings texts.book rows
  pub tabled : HasTable fit.pairs texts.pairs table
  pub counted : given ≡ length settings.sessions

-- so many sessions are configured as are given, and each line of the runbook names what is configured
pub record IsReady (given : ℕ) (settings : Settings) (rows : List (ℕ × BookLine)) : Type 0 where
  pub counted : given ≡ length settings.sessions
  pub short : length rows ≤ BOOK_OCTETS
  pub configured : AreConfiguredFor settings rows

-- the words fit and the configuration is read; over it the runbook is refused, for this
pub record RefusesBook (words : List (List ℕ)) (texts : Texts) (refusal : TextRefusal BookFault) : Type 0 where
  pub fit : AreOfflineWords words
  pub settings : Settings
  pub configured : Configures texts.config settings
  pub refused : IsBookRefused settings texts.book refusal

-- the words fit and the configuration and the runbook are read; the table of pairs is refused, for this
pub record RefusesPairs (words : List (List ℕ)) (texts : Texts) (refusal : TextRefusal TooManyPairs) : Type 0 where
  pub fit : AreOfflineWords words
  pub settings : Settings
  pub configured : Configures texts.config settings
  pub rows : List (ℕ × BookLine)
  pub listed : IsRunbook settings texts.book rows
  pub refused : IsPairsRefused fit.pairs texts.pairs refusal

-- the words fit and all texts are read; so many sessions are given, and another number is configured: a number above
-- 2^32 - 1 is told as that
pub record RefusesCount (words : List (List ℕ)) (texts : Texts) (given told wanted : ℕ) : Type 0 where
  pub settings : Settings
  pub rows : List (ℕ × BookLine)
  pub pairs : Option Table
  pub fit : AreOfflineWords words
  pub configured : Configures texts.config settings
  pub listed : IsRunbook settings texts.book rows
  pub tabled : HasTable fit.pairs texts.pairs pairs
  pub wants : wanted ≡ length settings.sessions
  pub differs : ¬ (given ≡ wanted)
  pub tells : told ≡ min given 4294967295

-- the words, the texts and the number of sessions given decide that no run begins, for this: the words come first, then
-- the configuration, the runbook, the table of pairs and the number
abbrev pub IsRefused : List (List ℕ) → Texts → ℕ → Refusal → Type 0
IsRefused words texts given Misused = ¬ (AreOfflineWords words)
IsRefused words texts given (Config refusal) = AreOfflineWords words × IsConfigRefused texts.config refusal
IsRefused words texts given (Book refusal) = RefusesBook words texts refusal
IsRefused words texts given (Pairs refusal) = RefusesPairs words texts refusal
IsRefused words texts given (SessionCount told wanted) = RefusesCount words texts given told wanted

-- a read failed, or memory could not be had: any other refusal is decided by words, texts and the number of sessions
abbrev pub IsFailure : Refusal → Type 0
IsFailure Misused = ⊥
IsFailure (Config refusal) = IsTextFailure refusal
IsFailure (Book refusal) = IsTextFailure refusal
IsFailure (Pairs refusal) = IsTextFailure refusal
IsFailure (SessionCount told wanted) = ⊥

-- a refusal that words, texts and the number of sessions decide
abbrev pub IsDecided : Refusal → Type 0
IsDecided refusal = ¬ (IsFailure refusal)

-- a refusal that comes before the table of pairs is looked at
abbrev pub IsBeforePairs : Refusal → Type 0
IsBeforePairs Misused = Unit {0}
IsBeforePairs (Config refusal) = Unit {0}
IsBeforePairs (Book refusal) = Unit {0}
IsBeforePairs (Pairs refusal) = ⊥
IsBeforePairs (SessionCount told wanted) = ⊥
