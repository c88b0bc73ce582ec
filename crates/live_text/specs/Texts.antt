-- The text of a run with the rows of its packets: behind each step what it gives, behind the end of each round
-- its rows, and behind all steps the other rows and the closing line. Our own choice.
use Rattle.std.specs.Prelude.{◌≡◌, ℕ, ◌+◌, ◌==◌, List, [], ◌∷◌, ◌++◌, length, map, sum}
use Rattle.std.specs.List.{concat, filter}
use Rattle.report_text.specs.Lines.{done_line}
use Rattle.runbook.specs.declared.lines.BookLine.{BookLine}
use Rattle.run_lines.specs.Inputs.{Run}
use Rattle.run_lines.specs.Places.{opening}
use Rattle.run_lines.specs.RunText.{GiveAll, IsHead, last_place, steps_for}
use Rattle.run_lines.specs.Steps.{Step, pull, publish, round, check, change, summary}
use Rattle.live_rounds.specs.Rows.{row_line}
use Rattle.live_text.specs.Numbers.{rounds_by}
use Rattle.live_text.specs.Tables.{AreTablesOf, Table}

-- the lines of the rows of a round, in their order
abbrev pub table_text : ℕ → Table → List ℕ
table_text number table = concat (map (λ e. row_line e.1) (filter (λ e. e.0 == number) table))

-- the same of all workers, worker by worker
abbrev pub round_text : ℕ → List Table → List ℕ
round_text number tables = concat (map (table_text number) tables)

-- what comes behind the text of a step: the rows of this round where the step ends it
abbrev pub rows_behind : Step → ℕ → List Table → List ℕ
rows_behind (pull session count) number tables = []
rows_behind publish number tables = []
rows_behind round number tables = round_text number tables
rows_behind (check iface addr) number tables = []
rows_behind (change edit) number tables = []
rows_behind summary number tables = []

-- the texts of steps and the rows of their rounds, from this round on, and then the rows behind all of them
abbrev pub with_rows : List Table → ℕ → List Step → List (List ℕ) → List ℕ
with_rows tables number (step ∷ steps) (text ∷ texts) =
    text ++ (rows_behind step number tables ++ with_rows tables (number + rounds_by step) steps texts)
with_rows tables number (step ∷ steps) [] = []
with_rows tables number [] texts = round_text number tables

-- how many packets there are in all
abbrev pub row_count : List Table → ℕ
row_count tables = sum (map length tables)

-- the text is that of a run of these lines with the rows of these streams, one stream for each worker
pub record IsLiveText (run : Run) (lines : List BookLine) (streams : List (List ℕ)) (text : List ℕ) : Type 0 where
  pub tables : List Table
  pub legal : AreTablesOf run (steps_for run lines) 0 streams tables
  pub head : List ℕ
  pub is_head : IsHead run head
  pub texts : List (List ℕ)
  pub given : GiveAll run (opening run.config.sessions) (steps_for run lines) texts
  pub parts : text ≡ head ++ (with_rows tables 1 (steps_for run lines) texts
      ++ done_line (last_place run lines).mark.number (row_count tables))
