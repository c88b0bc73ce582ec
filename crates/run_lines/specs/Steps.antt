-- What the lines of a runbook ask for, step by step. Our own choice.
use Rattle.std.specs.Prelude.{ℕ, zero, suc, List, [], ◌∷◌, ◌++◌, map, Option, Some, None}
use Rattle.urpf_base.specs.declared.address.Addr.{Addr}
use Rattle.router_config.specs.declared.edits.Edit.{Edit}
use Rattle.runbook.specs.declared.lines.BookLine.{BookLine}
use Rattle.runbook.specs.declared.lines.BookLine.TheVariants as line

-- so many items of a session are taken, or all of them; the cells are published; a round is ended; an address is
-- checked on an interface; an interface is edited; the routes are counted
pub data Step : Type 0 where
  pull : ℕ → Option ℕ → Step
  publish : Step
  round : Step
  check : ℕ → Addr → Step
  change : Edit → Step
  summary : Step

-- a pull of each of so many sessions, from session 0 on
abbrev pub pulls_of : ℕ → Option ℕ → List Step
pulls_of zero count = []
pulls_of (suc n) count = pulls_of n count ++ pull n count ∷ []

-- the steps of a line, where there are so many sessions
abbrev pub steps_in : ℕ → BookLine → List Step
steps_in sessions (line.Pull None count) = pulls_of sessions count
steps_in sessions (line.Pull (Some session) count) = pull session count ∷ []
steps_in sessions line.Publish = publish ∷ []
steps_in sessions line.Round = round ∷ []
steps_in sessions (line.Check iface addr) = check iface addr ∷ []
steps_in sessions (line.Change edit) = change edit ∷ []
steps_in sessions line.Summary = summary ∷ []

-- the steps of all lines
abbrev pub steps_of : ℕ → List BookLine → List Step
steps_of sessions [] = []
steps_of sessions (line ∷ lines) = steps_in sessions line ++ steps_of sessions lines

-- the lines of a runbook without their numbers
abbrev pub lines_in : List (ℕ × BookLine) → List BookLine
lines_in rows = map (λ row. row.1) rows
