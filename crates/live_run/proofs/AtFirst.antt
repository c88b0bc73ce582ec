-- A live run from its opening on, with workers that were just made and whose streams are told.
use Rattle.std.proofs.Common.{◌≡◌, ◌∙◌, ℕ, ◌+◌, List, [], ◌∷◌, map, Option, Some, Result, Ok, Err, subst, sym}
use Rattle.std.specs.Prelude.{OnOk}
use Rattle.std.specs.Io.KnownBytes.{Appends}
use Rattle.urpf_base.specs.declared.kinds.Kind.{Kind}
use Rattle.cover_table.specs.Snapshots.{Publication}
use Rattle.runbook.specs.declared.lines.BookLine.{BookLine}
use Rattle.control_core.proofs.Shown.{shown_opened}
use Rattle.run_lines.specs.Inputs.{IsRun, Run, opening_of}
use Rattle.run_lines.specs.Places.{opening}
use Rattle.run_lines.specs.RunText.{IsHead}
use Rattle.run_lines.specs.Runs.{IsAt, Shows, TookAll, run_limits}
use Rattle.run_lines.specs.Slots.{told_by}
use Rattle.run_lines.specs.Steps.{lines_in}
use Rattle.run_lines.proofs.RunOpened.{as_many, opened_at}
use Rattle.live_rounds.specs.Parts.{Slots, Standing}
use Rattle.live_rounds.specs.Rounds.{IsLiveRun, Stage, stage}
use Rattle.live_rounds.specs.Stations.{Station}
use Rattle.live_rounds.specs.declared.fault.LiveFault.{LiveFault}
use Rattle.live_control.specs.Standings.{Ran}
use Rattle.live_text.specs.Texts.{IsLiveText}
use Rattle.live_text.proofs.Whole.{live_text}
use Rattle.live_run.specs.Begun.{IsBegun}
use Rattle.live_rounds.specs.Stations.{station_of}
use Rattle.live_rounds.specs.declared.worker.Worker.{Worker}
use Rattle.live_run.specs.Hiring.{AreNew}
use Rattle.live_text.proofs.Whole.{AreAtFirst}

pub at_first : {S P : Type 0} (left : P → Option (List ℕ)) (number : ℕ) (workers : List (Worker S P))
    (streams : List (List ℕ)) → AreNew number (map (station_of left) workers)
    → map (λ w. left w.packets) workers ≡ map Some streams
    → AreAtFirst number (map (station_of left) workers) streams
at_first left number [] [] new told = tt
at_first left number [] (stream ∷ streams) new told = absurd cc
at_first left number (w ∷ workers) [] new told = absurd cc
at_first left number (w ∷ workers) (stream ∷ streams) new told =
    (new.0.worker, new.0.place, new.0.ended, cc, at_first left (number + 1) workers streams new.1 cc)

-- a run that was done from there on wrote the text of the run with legal rows
pub begun_text : (run : Run) (rows : List (ℕ × BookLine)) (streams : List (List ℕ)) (kinds : List (ℕ × Kind))
    (state : Standing) (slots : Slots) (stations : List Station) (to : Stage) (head : List ℕ)
    (old mid : Option (List ℕ)) (result : Result (Unit {0}) LiveFault) → IsBegun (opening_of run) state → IsRun run
    → slots ≡ told_by run → state.kinds ≡ kinds → AreAtFirst 0 stations streams → IsHead run head
    → Appends old mid head → OnOk result (IsLiveRun Ran kinds rows (stage state slots mid stations) to)
    → OnOk result (TookAll (IsLiveText run (lines_in rows) streams) old to.held)
begun_text run rows streams kinds state slots stations to head old mid (Err fault) begun is told same first is_head
    appended live = tt
begun_text run rows streams kinds state slots stations to head old mid (Ok done) begun is told same first is_head
    appended live =
    live_text run rows streams (stage state slots mid stations) to head old
    (subst (λ (rounds : ℕ). IsAt run (opening run.config.sessions) state.control rounds slots) (sym begun.rounds)
    (opened_at run state.control slots is begun.opened told))
    (subst (λ (p : Publication). Shows run (opening run.config.sessions) state.control p) (sym begun.shown)
    (shown_opened (opening_of run) run_limits state.control begun.opened))
    begun.batches (as_many run.config.sessions state.control.peers begun.opened.stands.stand) first is_head appended
    (subst (λ (ks : List (ℕ × Kind)). IsLiveRun Ran ks rows (stage state slots mid stations) to)
    (sym same ∙ begun.kinds) live)
