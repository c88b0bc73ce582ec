-- The text of a run: the head, what each step of its runbook writes, and the closing line. Our own choice, over the
-- source sets (RFC 8704, section 3) of the routes that the sessions leave (RFC 4271, section 3.2).
use Rattle.std.specs.Prelude.{◌≡◌, ℕ, ◌+◌, Bool, not, ◌&&◌, if◌then◌else◌, List, [], ◌∷◌, ◌++◌, length, map}
use Rattle.std.specs.Prelude.{drop, take, slice_get, Option, Some, None}
use Rattle.std.specs.List.{concat}
use Rattle.urpf_base.specs.declared.address.Addr.{Addr}
use Rattle.urpf_base.specs.declared.cells.CellChange.{CellChange}
use Rattle.urpf_base.specs.declared.kinds.Kind.{Kind}
use Rattle.urpf_base.specs.declared.sessions.SessionConfig.{SessionConfig}
use Rattle.urpf_base.specs.declared.verdicts.Verdict.{Verdict}
use Rattle.rpf_plain.specs.Cells.{IsDifference}
use Rattle.rpf_plain.specs.Modes.{IsVerdict}
use Rattle.rpf_plain.specs.World.{World}
use Rattle.origin_pairs.specs.Pairs.{IsPairSet, Pair}
use Rattle.roa_irr.specs.Tables.{Table}
use Rattle.router_config.specs.Settings.{Settings}
use Rattle.runbook.specs.declared.lines.BookLine.{BookLine}
use Rattle.report_text.specs.Lines.{check_line, done_line, end_line, publish_line, round_line, run_line, summary_line}
use Rattle.control_core.specs.Effects.{HoldsSoMany}
use Rattle.control_core.specs.Pulls.{reset_lines}
use Rattle.control_core.specs.Worlds.{IsWorldAt, Position, pairs_after}
use Rattle.run_lines.specs.Inputs.{Input, Run, courses_of, opening_of, pairs_in, skipped_in, total}
use Rattle.run_lines.specs.Places.{Place, Reached, items_at, mark_at, next_place, opening, place_after, pulled}
use Rattle.run_lines.specs.Places.{reached_at}
use Rattle.run_lines.specs.Steps.{Step, pull, publish, round, check, change, summary, steps_of}
use Rattle.run_lines.specs.declared.run.Totals.{Totals}

-- the lines of the resets among the items of a session from one number on up to another
abbrev pub resets : ℕ → Input → ℕ → ℕ → List ℕ
resets session input taken upto = reset_lines session taken (drop taken (take upto input.course.effects))

-- the end line of the session where its end was met, and nothing where it was not
abbrev pub end_text : Bool → ℕ → Input → List ℕ
end_text met session input = if met then end_line session (total input) input.rest else []

-- what a pull writes that leads from one place of a session to another
abbrev pub pull_text : ℕ → Input → Reached → Reached → List ℕ
pull_text session input at next =
    resets session input at.taken next.taken ++ end_text (not at.ended && next.ended) session input

-- the same, where the session may not be there
abbrev pub pull_text_of : ℕ → Option Input → Option ℕ → Reached → List ℕ
pull_text_of session None count at = []
pull_text_of session (Some input) count at = pull_text session input at (pulled (total input) count at)

-- these are the kinds and the world of a mark that the run makes, or made
abbrev pub IsWorldOf : Run → Place → Position → List (ℕ × Kind) → World → Type 0
IsWorldOf run place mark kinds world = IsWorldAt (opening_of run) place.edits (courses_of run) mark kinds world

-- what a publication writes: its number, and how many prefixes have another cell than at the last mark
pub record PublishGives (run : Run) (place : Place) (text : List ℕ) : Type 0 where
  pub old_kinds : List (ℕ × Kind)
  pub old : World
  pub was : IsWorldOf run place place.mark old_kinds old
  pub new_kinds : List (ℕ × Kind)
  pub new : World
  pub is : IsWorldOf run place (mark_at place (place.mark.number + 1)) new_kinds new
  pub changes : List CellChange
  pub difference : IsDifference old new changes
  pub same : text
      ≡ publish_line (place.mark.number + 1) (length place.edits) (length changes) (items_at place)

-- what a check writes: the verdict by the sets of the last mark
pub record CheckGives (run : Run) (place : Place) (iface : ℕ) (addr : Addr) (text : List ℕ) : Type 0 where
  pub kinds : List (ℕ × Kind)
  pub world : World
  pub is : IsWorldOf run place place.mark kinds world
  pub verdict : Verdict
  pub judges : IsVerdict kinds world.rows world.pairs iface (Some addr) verdict
  pub same : text ≡ check_line iface addr verdict place.mark.number

-- so many routes are left by the items that the sessions took: one for each session and prefix
abbrev pub LeaveRoutes : List Input → List Reached → ℕ → Type 0
LeaveRoutes [] sessions count = count ≡ 0
LeaveRoutes (input ∷ inputs) [] count = count ≡ 0
LeaveRoutes (input ∷ inputs) (at ∷ sessions) count =
    (own : ℕ) × (others : ℕ) × HoldsSoMany (take at.taken input.course.effects) own
    × LeaveRoutes inputs sessions others × (count ≡ own + others)

-- what a summary writes: how many routes and how many pairs there are now
pub record SummaryGives (run : Run) (place : Place) (text : List ℕ) : Type 0 where
  pub count : ℕ
  pub left : LeaveRoutes run.inputs place.sessions count
  pub pairs : List Pair
  pub set : IsPairSet (pairs_after place.edits (pairs_in run.table)) pairs
  pub same : text ≡ summary_line count (length pairs)

-- what one step writes at a place
abbrev pub Gives : Run → Place → Step → List ℕ → Type 0
Gives run place (pull session count) text =
    text ≡ pull_text_of session (slice_get run.inputs session) count (reached_at place session)
Gives run place publish text = PublishGives run place text
Gives run place round text = text ≡ round_line (place.rounds + 1)
Gives run place (check iface addr) text = CheckGives run place iface addr text
Gives run place (change edit) text = text ≡ []
Gives run place summary text = SummaryGives run place text

-- what steps write, one after the other, from a place on
abbrev pub GiveAll : Run → Place → List Step → List (List ℕ) → Type 0
GiveAll run place [] [] = Unit {0}
GiveAll run place [] (text ∷ texts) = ⊥
GiveAll run place (step ∷ steps) [] = ⊥
GiveAll run place (step ∷ steps) (text ∷ texts) =
    Gives run place step text × GiveAll run (next_place run.inputs step place) steps texts

-- how much a run begins with: its interfaces, its sessions, its pairs, each once, and what its table skipped
pub record AreTotals (config : Settings) (table : Option Table) (totals : Totals) : Type 0 where
  pub interfaces : totals.interfaces ≡ length config.interfaces
  pub sessions : totals.sessions ≡ length config.sessions
  pub set : List Pair
  pub is : IsPairSet (pairs_in table) set
  pub pairs : totals.pairs ≡ length set
  pub skipped : totals.skipped ≡ skipped_in table

-- the run line and the line of publication 0
abbrev pub head_text : Totals → List SessionConfig → List ℕ
head_text totals sessions =
    run_line totals.interfaces totals.sessions totals.pairs totals.skipped
    ++ publish_line 0 0 0 (map (λ s. 0) sessions)

-- the text is the head of a run
pub record IsHead (run : Run) (text : List ℕ) : Type 0 where
  pub totals : Totals
  pub are : AreTotals run.config run.table totals
  pub same : text ≡ head_text totals run.config.sessions

-- the steps of a run of these lines
abbrev pub steps_for : Run → List BookLine → List Step
steps_for run lines = steps_of (length run.config.sessions) lines

-- the place at which a run of these lines ends
abbrev pub last_place : Run → List BookLine → Place
last_place run lines = place_after run.inputs (steps_for run lines) (opening run.config.sessions)

-- the text is a run of these lines: the head, what each step writes, and the closing line; there are no packets yet
pub record IsRunText (run : Run) (lines : List BookLine) (text : List ℕ) : Type 0 where
  pub head : List ℕ
  pub is_head : IsHead run head
  pub texts : List (List ℕ)
  pub given : GiveAll run (opening run.config.sessions) (steps_for run lines) texts
  pub parts : text ≡ head ++ (concat texts ++ done_line (last_place run lines).mark.number 0)
