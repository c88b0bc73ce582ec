-- A whole live run writes the text of its run with legal rows.
use Rattle.std.proofs.Common.{◌≡◌, ◌∙◌, ℕ, zero, suc, ◌+◌, false, List, [], ◌∷◌, ◌++◌, length, map}
use Rattle.std.proofs.Common.{Option, None, Some}
use Rattle.std.proofs.Common.{refl, ap, sym, subst, arith, append_assoc}
use Rattle.std.proofs.lemmas.List.{map-append}
use Rattle.std.specs.List.{flat_map}
use Rattle.std.specs.Io.KnownBytes.{Appends}
use Rattle.urpf_base.proofs.Growth.{Appends-append}
use Rattle.cover_table.specs.declared.batch.Batch.{Batch}
use Rattle.report_text.specs.Lines.{done_line}
use Rattle.runbook.specs.declared.lines.BookLine.{BookLine}
use Rattle.runbook.specs.declared.lines.BookLine.TheVariants.{Pull, Publish, Round, Check, Change, Summary}
use Rattle.run_lines.specs.Inputs.{Run}
use Rattle.run_lines.specs.Places.{Place, next_place, opening, place_after}
use Rattle.run_lines.specs.Publications.{AreBatches}
use Rattle.run_lines.specs.RunText.{IsHead, last_place, steps_for}
use Rattle.run_lines.specs.Runs.{IsAt, Shows, TookAll}
use Rattle.run_lines.specs.Slots.{Slot}
use Rattle.run_lines.specs.Steps.{Step, lines_in, pull, pulls_of, round, steps_in, steps_of}
use Rattle.run_lines.proofs.Composing.{steps_of-append}
use Rattle.live_rounds.specs.Parts.{Standing}
use Rattle.live_rounds.specs.Rounds.{AreOthers, AreRounds, IsLastOf, IsLiveRun, IsOther, Stage, packet_count}
use Rattle.live_rounds.specs.Stations.{Station}
use Rattle.live_control.specs.Standings.{Leads, Ran, steps_in_lines}
use Rattle.live_text.specs.Numbers.{round_count}
use Rattle.live_text.specs.Tables.{AreTablesOf, Table}
use Rattle.live_text.specs.Texts.{IsLiveText, row_count, with_rows}
use Rattle.live_text.proofs.Continuing.{Continues, continues_last, continues_round}
use Rattle.live_text.proofs.Numbers.{batch_count, number_after, rounds-append}
use Rattle.live_text.proofs.Joined.{IsRestOf}
use Rattle.live_text.proofs.Rests.{AreRests}
use Rattle.live_text.proofs.RoundTexts.{sum_more}
use Rattle.live_text.proofs.Worked.{whole_table}

-- ---- lines and steps

quiet_pulls : (sessions : ℕ) (count : Option ℕ) → round_count (pulls_of sessions count) ≡ 0
quiet_pulls zero count = refl
quiet_pulls (suc n) count =
    let more = quiet_pulls n count in
    let both = rounds-append (pulls_of n count) (pull n count ∷ []) in
    let one : round_count (pull n count ∷ []) ≡ 0 = refl in
    omega (arith, more, both, one)

quiet_line : (sessions : ℕ) (line : BookLine) → IsOther line → round_count (steps_in sessions line) ≡ 0
quiet_line sessions (Pull None count) other = quiet_pulls sessions count
quiet_line sessions (Pull (Some session) count) other = refl
quiet_line sessions Publish other = refl
quiet_line sessions Round other = absurd other
quiet_line sessions (Check iface addr) other = refl
quiet_line sessions (Change edit) other = refl
quiet_line sessions Summary other = refl

-- lines that end no round are steps that end none
quiet_lines : (sessions : ℕ) (rows : List (ℕ × BookLine)) → AreOthers rows
    → round_count (steps_of sessions (lines_in rows)) ≡ 0
quiet_lines sessions [] others = refl
quiet_lines sessions (row ∷ rows) others =
    let both = rounds-append (steps_in sessions row.1) (steps_of sessions (lines_in rows)) in
    let one = quiet_line sessions row.1 others.0 in
    let more = quiet_lines sessions rows others.1 in
    omega (arith, both, one, more)

-- the steps of a round and of the lines behind it
round_steps : (sessions : ℕ) (before later : List (ℕ × BookLine)) (line : ℕ × BookLine) → line.1 ≡ Round
    → steps_of sessions (lines_in ((before ++ line ∷ []) ++ later))
    ≡ steps_of sessions (lines_in before) ++ round ∷ steps_of sessions (lines_in later)
round_steps sessions before later line ends =
    ap (λ (rows : List (ℕ × BookLine)). steps_of sessions (lines_in rows)) (append_assoc before (line ∷ []) later)
    ∙ ap (λ (ls : List BookLine). steps_of sessions ls) (map-append (λ (row : ℕ × BookLine). row.1) before (line ∷ later))
    ∙ steps_of-append sessions (lines_in before) (lines_in (line ∷ later))
    ∙ ap (λ (l : BookLine). steps_of sessions (lines_in before) ++ (steps_in sessions l ++ steps_of sessions (lines_in later)))
    ends

module _ (run : Run) where
  -- what the line of a round leads to
  round_leads : (place : Place) (old : Standing) (held told : Option (List ℕ)) (new : Standing) (slots : List Slot)
      (line : ℕ × BookLine) → line.1 ≡ Round
      → Leads run place (steps_in_lines old (line ∷ [])) old held new slots told
      → Leads run place (round ∷ []) old held new slots told
  round_leads place old held told new slots line ends leads =
      subst (λ (l : BookLine). Leads run place (steps_in (length old.control.peers) l ++ []) old held new slots told) ends
      leads

  -- a run from a round on
  pub continues : (rounds : List (List (ℕ × BookLine))) (rest : List (ℕ × BookLine)) (from mid to : Stage)
      (place : Place) (number : ℕ) → IsAt run place from.state.control from.state.rounds from.slots
      → Shows run place from.state.control from.state.shown
      → AreRounds Ran run.config.interfaces rounds from mid → IsLastOf Ran run.config.interfaces rest mid to
      → Continues run place number
      (steps_of (length from.state.control.peers) (lines_in (flat_map (λ round. round) rounds ++ rest))) from to
  continues [] rest from mid to place number at shows are last =
      let last_from : IsLastOf Ran run.config.interfaces rest from to =
      subst (λ (m : Stage). IsLastOf Ran run.config.interfaces rest m to) are last in
      continues_last run place number (steps_of (length from.state.control.peers) (lines_in rest)) from to last_from.told
      (last_from.ran.leads run place at shows) (quiet_lines (length from.state.control.peers) rest last_from.others)
      last_from.worked last_from.wrote
  continues (lines ∷ rounds) rest from mid to place number at shows are last =
      let (after, is, more) = are in
      let peers = length from.state.control.peers in
      let first = steps_of peers (lines_in is.before) in
      let leads = is.ran.leads run place at shows in
      let line_leads = is.ended.leads run (place_after run.inputs first place) leads.at leads.shows in
      let ended = round_leads (place_after run.inputs first place) is.state is.held is.told after.state after.slots
      is.line is.ends line_leads in
      let many : length after.state.control.peers ≡ peers = is.ended.sessions ∙ is.ran.sessions in
      let later = continues rounds rest after mid to (next_place run.inputs round (place_after run.inputs first place))
      (number + 1) ended.at ended.shows more last in
      subst (λ (ss : List Step). Continues run place number ss from to)
      (sym (ap (λ (rows : List (ℕ × BookLine)). steps_of peers (lines_in ((rows ++ flat_map (λ round. round) rounds) ++ rest)))
      is.parts
      ∙ ap (λ (rows : List (ℕ × BookLine)). steps_of peers (lines_in rows))
      (append_assoc (is.before ++ is.line ∷ []) (flat_map (λ round. round) rounds) rest)
      ∙ round_steps peers is.before (flat_map (λ round. round) rounds ++ rest) is.line is.ends))
      (continues_round run place number first
      (steps_of peers (lines_in (flat_map (λ round. round) rounds ++ rest))) from after to is.state is.slots is.held
      is.told (quiet_lines peers is.before is.others) leads ended is.worked is.wrote
      (subst (λ (n : ℕ). Continues run (next_place run.inputs round (place_after run.inputs first place)) (number + 1)
      (steps_of n (lines_in (flat_map (λ round. round) rounds ++ rest))) after to) many later))

-- ---- workers that read nothing yet

-- each worker has the number of its place, and has read nothing of this stream
abbrev pub AreAtFirst : ℕ → List Station → List (List ℕ) → Type 0
AreAtFirst number [] [] = Unit {0}
AreAtFirst number [] (stream ∷ streams) = ⊥
AreAtFirst number (s ∷ stations) [] = ⊥
AreAtFirst number (s ∷ stations) (stream ∷ streams) =
    (s.desk.worker ≡ number) × (s.desk.place ≡ 0) × (s.desk.ended ≡ false) × (s.left ≡ Some stream)
    × AreAtFirst (number + 1) stations streams

tables_first : (run : Run) (steps : List Step) (number : ℕ) (stations : List Station) (streams : List (List ℕ))
    (tables : List Table) → AreAtFirst number stations streams → AreRests run steps 1 0 stations tables
    → AreTablesOf run steps number streams tables
tables_first run steps number [] [] [] first rests = tt
tables_first run steps number [] [] (table ∷ tables) first rests = absurd rests
tables_first run steps number [] (stream ∷ streams) tables first rests = absurd first
tables_first run steps number (s ∷ stations) [] tables first rests = absurd first
tables_first run steps number (s ∷ stations) (stream ∷ streams) [] first rests = absurd rests
tables_first run steps number (s ∷ stations) (stream ∷ streams) (table ∷ tables) first rests = (
  whole_table run steps number stream table
      (subst (λ (n : ℕ). IsRestOf run steps (round_count steps + 1) n 0 1 0 stream table) first.0
      (subst (λ (n : ℕ). IsRestOf run steps (round_count steps + 1) s.desk.worker n 1 0 stream table) first.1
      (rests.0 stream first.3 (λ ended. (let unseen = first.2 in absurd cc))))),
  tables_first run steps (number + 1) stations streams tables first.4 rests.1,
)

count_first : (number : ℕ) (stations : List Station) (streams : List (List ℕ)) → AreAtFirst number stations streams
    → packet_count stations ≡ 0
count_first number [] streams first = refl
count_first number (s ∷ stations) [] first = absurd first
count_first number (s ∷ stations) (stream ∷ streams) first =
    let more = count_first (number + 1) stations streams first.4 in
    let place = first.1 in
    let both = sum_more s.desk.place (map (λ (s : Station). s.desk.place) stations) in
    omega (arith, more, place, both)

-- a live run from the opening of a run, behind its head, writes the text of the run with legal rows
pub live_text : (run : Run) (rows : List (ℕ × BookLine)) (streams : List (List ℕ)) (from to : Stage) (head : List ℕ)
    (old : Option (List ℕ))
    → IsAt run (opening run.config.sessions) from.state.control from.state.rounds from.slots
    → Shows run (opening run.config.sessions) from.state.control from.state.shown → from.state.batches ≡ []
    → length from.state.control.peers ≡ length run.config.sessions → AreAtFirst 0 from.stations streams
    → IsHead run head → Appends old from.held head → IsLiveRun Ran run.config.interfaces rows from to
    → TookAll (IsLiveText run (lines_in rows) streams) old to.held
live_text run rows streams from to head old at shows none peers first is_head appended live =
    let steps : List Step = steps_for run (lines_in rows) in
    let same : steps_of (length from.state.control.peers) (lines_in (flat_map (λ round. round) live.rounds ++ live.rest))
    ≡ steps =
    ap (λ (n : ℕ). steps_of n (lines_in (flat_map (λ round. round) live.rounds ++ live.rest))) peers
    ∙ ap (λ (rs : List (ℕ × BookLine)). steps_of (length run.config.sessions) (lines_in rs)) (sym live.parts) in
    let whole : Continues run (opening run.config.sessions) 1 steps from to =
    subst (λ (ss : List Step). Continues run (opening run.config.sessions) 1 ss from to) same
    (continues run live.rounds live.rest from live.mid to (opening run.config.sessions) 1 at shows live.are live.last) in
    let published : to.state.batches ≡ whole.batches =
    whole.published ∙ ap (λ (bs : List Batch). bs ++ whole.batches) none in
    let are : AreBatches run (opening run.config.sessions) steps to.state.batches =
    subst (λ (bs : List Batch). AreBatches run (opening run.config.sessions) steps bs) (sym published) whole.are in
    let started : length from.state.batches ≡ 0 = ap length none in
    let rests : AreRests run steps 1 0 from.stations whole.tables =
    subst (λ (n : ℕ). AreRests run steps 1 n from.stations whole.tables) started
    (whole.rows steps [] refl refl started are) in
    let last : length to.state.batches ≡ (last_place run (lines_in rows)).mark.number =
    let many = batch_count run steps (opening run.config.sessions) to.state.batches are in
    let number = number_after run.inputs steps (opening run.config.sessions) in
    let at_first : (opening run.config.sessions).mark.number ≡ 0 = refl in omega (arith, many, number, at_first) in
    let packets : packet_count to.stations ≡ row_count whole.tables =
    let counted = whole.counted in let zero_first = count_first 0 from.stations streams first in
    omega (arith, counted, zero_first) in
    record {
      text = head ++ (with_rows whole.tables 1 steps whole.texts
          ++ done_line (length to.state.batches) (packet_count to.stations));
      is = record {
        tables = whole.tables;
        legal = tables_first run steps 0 from.stations streams whole.tables first rests;
        head = head;
        is_head = is_head;
        texts = whole.texts;
        given = whole.given;
        parts = ap (λ (n : ℕ). head ++ (with_rows whole.tables 1 steps whole.texts
            ++ done_line n (packet_count to.stations))) last
            ∙ ap (λ (n : ℕ). head ++ (with_rows whole.tables 1 steps whole.texts
            ++ done_line (last_place run (lines_in rows)).mark.number n)) packets;
      };
      appended = Appends-append old from.held to.held head _ appended whole.wrote;
    }
