-- A live run from any of its rounds on: what it writes and publishes, and the rows of its workers.
use Rattle.std.proofs.Common.{◌≡◌, ◌∙◌, ℕ, suc, ◌+◌, ◌-◌, ◌<◌, ◌≤◌, List, [], ◌∷◌, ◌++◌, length, Option}
use Rattle.std.proofs.Common.{refl, ap, sym, subst, arith, append_assoc, append-nil}
use Rattle.std.proofs.lemmas.List.{length-append}
use Rattle.std.specs.List.{AllZip, concat}
use Rattle.std.specs.Io.KnownBytes.{Appends}
use mathlib.Core.List.{IsPrefix}
use Rattle.urpf_base.proofs.Growth.{Appends-append}
use Rattle.cover_table.specs.declared.batch.Batch.{Batch}
use Rattle.forward_worker.specs.declared.desk.Stop.TheVariants as stop
use Rattle.report_text.specs.Lines.{done_line}
use Rattle.run_lines.specs.Inputs.{Run}
use Rattle.run_lines.specs.Places.{Place, next_place, opening, place_after}
use Rattle.run_lines.specs.Publications.{AreBatches}
use Rattle.run_lines.specs.RunText.{GiveAll, Gives}
use Rattle.run_lines.specs.Runs.{IsAt}
use Rattle.run_lines.specs.Steps.{Step, round}
use Rattle.run_lines.proofs.Composing.{place_after-append}
use Rattle.live_rounds.specs.Parts.{Slots, Standing}
use Rattle.live_rounds.specs.Rounds.{Stage, packet_count, tables_text}
use Rattle.live_rounds.specs.Stations.{WorkedRound}
use Rattle.live_control.specs.Standings.{Leads}
use Rattle.live_text.specs.Numbers.{last_of, round_count}
use Rattle.live_text.specs.Tables.{Table}
use Rattle.live_text.specs.Texts.{round_text, row_count, with_rows}
use Rattle.live_text.proofs.Blocks.{batches_then, given_then, quiet_block}
use Rattle.live_text.proofs.Counting.{as_many_worked, round_count_of}
use Rattle.live_text.proofs.Numbers.{batch_count, last-behind, last-first, last_ends, last_most, mark_count, marks-append, rounds-append}
use Rattle.live_text.proofs.Rests.{AreRests, rests_first, rests_last}
use Rattle.live_text.proofs.RoundTexts.{AreLater, put_count, put_later, put_many, put_rows, rows_here, text_later}

-- what comes behind the rows of a run
abbrev pub closing : Stage → List ℕ
closing to = done_line (length to.state.batches) (packet_count to.stations)

-- the rows of the workers are those of what their streams have left, where these steps are the last of a run
abbrev pub RowsFollow : Run → ℕ → List Step → Stage → Stage → List Table → Type 0
RowsFollow run number steps from to tables = (all_steps done : List Step) → all_steps ≡ done ++ steps
    → number ≡ round_count done + 1 → length from.state.batches ≡ mark_count done
    → AreBatches run (opening run.config.sessions) all_steps to.state.batches
    → AreRests run all_steps number (length from.state.batches) from.stations tables

-- a run from a place and a round on: these steps lead from one stage to another, with these texts and batches and the
-- rows of these tables
pub record Continues (run : Run) (place : Place) (number : ℕ) (steps : List Step) (from to : Stage) : Type 0 where
  pub texts : List (List ℕ)
  pub given : GiveAll run place steps texts
  pub batches : List Batch
  pub are : AreBatches run place steps batches
  pub published : to.state.batches ≡ from.state.batches ++ batches
  pub at : IsAt run (place_after run.inputs steps place) to.state.control to.state.rounds to.slots
  pub tables : List Table
  pub later : (low : ℕ) → low < number → AreLater low tables
  pub many : length tables ≡ length from.stations
  pub wrote : Appends from.held to.held (with_rows tables number steps texts ++ closing to)
  pub counted : packet_count to.stations ≡ packet_count from.stations + row_count tables
  pub rows : RowsFollow run number steps from to tables

assoc_four : (a b c d e : List ℕ) → (a ++ (b ++ (c ++ d))) ++ e ≡ a ++ (b ++ (c ++ (d ++ e)))
assoc_four a b c d e =
    append_assoc a (b ++ (c ++ d)) e
    ∙ ap (λ (t : List ℕ). a ++ t) (append_assoc b (c ++ d) e ∙ ap (λ (t : List ℕ). b ++ t) (append_assoc c d e))

-- ---- behind the last round

module _ (run : Run) (place : Place) (number : ℕ) (steps : List Step) (from to : Stage) (told : Option (List ℕ))
    (leads : Leads run place steps from.state from.held to.state to.slots told) (none : round_count steps ≡ 0)
    (worked : AllZip (WorkedRound stop.End run.config.interfaces to.state.batches (length to.state.batches))
    from.stations to.stations)
    (wrote : Appends told to.held (tables_text run.config.interfaces to.state.batches to.stations ++ closing to)) where
  last_tables : List Table
  last_tables = put_rows number run.config.interfaces to.state.batches to.stations []

  last_text : with_rows last_tables number steps leads.wrote.is.0
      ≡ leads.wrote.text ++ tables_text run.config.interfaces to.state.batches to.stations
  unfolding last_tables
  last_text =
      sym (ap (λ (ss : List Step). with_rows last_tables number ss (leads.wrote.is.0 ++ [])) (append-nil steps)
      ∙ ap (λ (ts : List (List ℕ)). with_rows last_tables number steps ts) (append-nil leads.wrote.is.0))
      ∙ quiet_block run place last_tables number steps [] leads.wrote.is.0 [] leads.wrote.is.1 none
      ∙ ap (λ (t : List ℕ). t ++ round_text number last_tables) (sym leads.wrote.is.2)
      ∙ ap (λ (t : List ℕ). leads.wrote.text ++ t)
      (rows_here number run.config.interfaces to.state.batches to.stations [] tt (omega arith))

  last_rows : RowsFollow run number steps from to last_tables
  unfolding last_tables
  last_rows all_steps done parts number_is low are =
      let rounds : round_count all_steps ≡ round_count done =
      ap round_count parts ∙ rounds-append done steps ∙ omega (arith, none) in
      let marks : length to.state.batches ≡ mark_count all_steps =
      batch_count run all_steps (opening run.config.sessions) to.state.batches are in
      let one_more : round_count all_steps + 1 ≡ suc (round_count all_steps) = omega arith in
      let last : last_of all_steps (round_count all_steps + 1) ≡ mark_count all_steps =
      ap (λ (n : ℕ). last_of all_steps n) one_more ∙ last-behind all_steps (round_count all_steps) (omega arith) in
      let high : length to.state.batches ≤ last_of all_steps (round_count all_steps + 1) = omega (arith, last, marks) in
      let grown : length to.state.batches ≡ length from.state.batches + length leads.batches =
      ap length leads.published ∙ length-append from.state.batches leads.batches in
      subst (λ (n : ℕ). AreRests run all_steps n (length from.state.batches) from.stations
      (put_rows n run.config.interfaces to.state.batches to.stations [])) (omega (arith, number_is, rounds))
      (rests_last run all_steps to.state.batches to.state.batches are ([], append-nil to.state.batches) high
      (length to.state.batches) (
        λ within. absurd (omega (arith, within)),
        λ behind. omega (arith, last, marks),
      )
      (length from.state.batches) (omega (arith, grown)) from.stations to.stations worked)

  pub continues_last : Continues run place number steps from to
  unfolding last_tables
  continues_last =
      let kinds = run.config.interfaces in record {
        texts = leads.wrote.is.0;
        given = leads.wrote.is.1;
        batches = leads.batches;
        are = leads.are;
        published = leads.published;
        at = leads.at;
        tables = put_rows number kinds to.state.batches to.stations [];
        later = λ low up. put_later number kinds to.state.batches low to.stations [] up tt;
        many = put_many number kinds to.state.batches to.stations []
            ∙ as_many_worked stop.End kinds to.state.batches (length to.state.batches) from.stations to.stations worked;
        wrote = subst (λ (t : List ℕ). Appends from.held to.held t)
            (sym (append_assoc leads.wrote.text (tables_text kinds to.state.batches to.stations) (closing to))
            ∙ ap (λ (t : List ℕ). t ++ closing to) (sym last_text))
            (Appends-append from.held told to.held leads.wrote.text _ leads.wrote.appended wrote);
        counted =
            let more = round_count_of stop.End kinds to.state.batches (length to.state.batches) from.stations to.stations
            worked in
            let rows = put_count number kinds to.state.batches to.stations [] (omega arith) in
            let none : row_count [] ≡ 0 = refl in
            omega (arith, more, rows, none);
        rows = last_rows;
      }

-- ---- a round, and what comes behind it

-- the round line hands no batch on
round_hands : (run : Run) (place : Place) (batches : List Batch) → AreBatches run place (round ∷ []) batches
    → batches ≡ []
round_hands run place batches are = are.2 ∙ ap (λ (bs : List Batch). bs ++ are.1) are.3 ∙ are.4

-- and writes one text
round_texts : (run : Run) (place : Place) (texts : List (List ℕ)) → GiveAll run place (round ∷ []) texts
    → (text : List ℕ) × (texts ≡ text ∷ []) × Gives run place round text
round_texts run place [] given = absurd given
round_texts run place (text ∷ []) given = (text, refl, given.0)
round_texts run place (text ∷ (other ∷ texts)) given = absurd given.1

module _ (run : Run) (place : Place) (number : ℕ) (first later : List Step) (from mid to : Stage)
    (state : Standing) (slots : Slots) (held told : Option (List ℕ)) (none : round_count first ≡ 0)
    (leads : Leads run place first from.state from.held state slots held)
    (ended : Leads run (place_after run.inputs first place) (round ∷ []) state held mid.state mid.slots told)
    (worked : AllZip (WorkedRound stop.Marker run.config.interfaces mid.state.batches (length from.state.batches))
    from.stations mid.stations)
    (wrote : Appends told mid.held (tables_text run.config.interfaces mid.state.batches mid.stations))
    (rest : Continues run (next_place run.inputs round (place_after run.inputs first place)) (number + 1) later mid to)
  where
    all_tables : List Table
    all_tables = put_rows number run.config.interfaces mid.state.batches mid.stations rest.tables

    one_text : (text : List ℕ) × (ended.wrote.is.0 ≡ text ∷ [])
        × Gives run (place_after run.inputs first place) round text
    one_text = round_texts run (place_after run.inputs first place) ended.wrote.is.0 ended.wrote.is.1

    few : length rest.tables ≤ length mid.stations
    few = let many = rest.many in omega (arith, many)

    -- the batches at the end of the round
    mid_batches : mid.state.batches ≡ from.state.batches ++ leads.batches
    mid_batches =
        ended.published
        ∙ ap (λ (bs : List Batch). state.batches ++ bs)
        (round_hands run (place_after run.inputs first place) ended.batches ended.are)
        ∙ append-nil state.batches ∙ leads.published

    all_text : with_rows all_tables number (first ++ round ∷ later) (leads.wrote.is.0 ++ one_text.0 ∷ rest.texts)
        ≡ leads.wrote.text ++ (one_text.0
        ++ (tables_text run.config.interfaces mid.state.batches mid.stations
        ++ with_rows rest.tables (number + 1) later rest.texts))
    unfolding all_tables
    all_text =
        quiet_block run place all_tables number first (round ∷ later) leads.wrote.is.0 (one_text.0 ∷ rest.texts)
        leads.wrote.is.1 none
        ∙ ap (λ (t : List ℕ). t ++ (one_text.0
        ++ (round_text number all_tables ++ with_rows all_tables (number + 1) later rest.texts)))
        (sym leads.wrote.is.2)
        ∙ ap (λ (t : List ℕ). leads.wrote.text ++ (one_text.0
        ++ (t ++ with_rows all_tables (number + 1) later rest.texts)))
        (rows_here number run.config.interfaces mid.state.batches mid.stations rest.tables
        (rest.later number (omega arith)) few)
        ∙ ap (λ (t : List ℕ). leads.wrote.text ++ (one_text.0
        ++ (tables_text run.config.interfaces mid.state.batches mid.stations ++ t)))
        (text_later number run.config.interfaces mid.state.batches (number + 1) mid.stations rest.tables later rest.texts
        (omega arith) few)

    ended_text : ended.wrote.text ≡ one_text.0
    ended_text = ended.wrote.is.2 ∙ ap concat one_text.1 ∙ append-nil one_text.0

    all_wrote : Appends from.held to.held
        (with_rows all_tables number (first ++ round ∷ later) (leads.wrote.is.0 ++ one_text.0 ∷ rest.texts) ++ closing to)
    all_wrote =
        subst (λ (t : List ℕ). Appends from.held to.held t)
        (sym (assoc_four leads.wrote.text one_text.0 (tables_text run.config.interfaces mid.state.batches mid.stations)
        (with_rows rest.tables (number + 1) later rest.texts) (closing to))
        ∙ ap (λ (t : List ℕ). t ++ closing to) (sym all_text))
        (Appends-append from.held held to.held leads.wrote.text _ leads.wrote.appended
        (Appends-append held told to.held one_text.0 _
        (subst (λ (t : List ℕ). Appends held told t) ended_text ended.wrote.appended)
        (Appends-append told mid.held to.held _ _ wrote rest.wrote)))

    all_rows : RowsFollow run number (first ++ round ∷ later) from to all_tables
    unfolding all_tables
    all_rows all_steps done parts number_is low are =
        let before : List Step = done ++ first in
        let cut : all_steps ≡ (before ++ round ∷ []) ++ later =
        parts ∙ sym (append_assoc done first (round ∷ later))
        ∙ sym (append_assoc before (round ∷ []) later) in
        let rounds : round_count before ≡ round_count done =
        let r = rounds-append done first in omega (arith, r, none) in
        let rounds_end : round_count (before ++ round ∷ []) ≡ round_count done + 1 =
        let r = rounds-append before (round ∷ []) in
        let one : round_count (round ∷ []) ≡ 1 = refl in omega (arith, r, rounds, one) in
        let rounds_all : number ≤ round_count all_steps =
        let r = ap round_count cut in let s = rounds-append (before ++ round ∷ []) later in
        omega (arith, r, s, rounds_end, number_is) in
        let first_marks : length leads.batches ≡ mark_count first =
        batch_count run first place leads.batches leads.are in
        let marks : mark_count before ≡ mark_count done + mark_count first = marks-append done first in
        let marks_end : mark_count (before ++ round ∷ []) ≡ mark_count before =
        let m = marks-append before (round ∷ []) in
        let zero_more : mark_count (round ∷ []) ≡ 0 = refl in omega (arith, m, zero_more) in
        let mid_length : length mid.state.batches ≡ length from.state.batches + length leads.batches =
        ap length mid_batches ∙ length-append from.state.batches leads.batches in
        let mid_marks : length mid.state.batches ≡ mark_count before =
        omega (arith, mid_length, low, first_marks, marks) in
        let begins : IsPrefix mid.state.batches to.state.batches = (rest.batches, sym rest.published) in
        let before_number : number ≡ suc (round_count before) = omega (arith, number_is, rounds) in
        let top : last_of all_steps number ≡ mark_count before =
        ap (λ (ss : List Step). last_of ss number) cut
        ∙ last-first (before ++ round ∷ []) later number (omega (arith, rounds_end, number_is))
        ∙ ap (λ (n : ℕ). last_of (before ++ round ∷ []) n) before_number
        ∙ last_ends before (round_count before) refl in
        let high : length mid.state.batches ≤ last_of all_steps number = omega (arith, top, mid_marks) in
        let bottom : last_of all_steps (number - 1) ≤ length from.state.batches =
        let done_number : number - 1 ≡ round_count done = omega (arith, number_is) in
        let same : last_of all_steps (number - 1) ≡ last_of done (round_count done) =
        ap (λ (n : ℕ). last_of all_steps n) done_number
        ∙ ap (λ (ss : List Step). last_of ss (round_count done)) parts
        ∙ last-first done (first ++ round ∷ later) (round_count done) (omega arith) in
        let most = last_most done (round_count done) in
        omega (arith, same, most, low) in
        rests_first run all_steps to.state.batches mid.state.batches are begins number high (length from.state.batches)
        (λ within. bottom, λ behind. absurd (omega (arith, behind, rounds_all)))
        from.stations mid.stations rest.tables (omega (arith, mid_length)) rounds_all worked
        (rest.rows all_steps (before ++ round ∷ []) cut (omega (arith, number_is, rounds_end))
        (omega (arith, mid_marks, marks_end)) are)

    pub continues_round : Continues run place number (first ++ round ∷ later) from to
    unfolding all_tables
    continues_round =
        let kinds = run.config.interfaces in record {
          texts = leads.wrote.is.0 ++ one_text.0 ∷ rest.texts;
          given = given_then run place first (round ∷ later) leads.wrote.is.0 (one_text.0 ∷ rest.texts) leads.wrote.is.1
              (one_text.2, rest.given);
          batches = leads.batches ++ rest.batches;
          are = batches_then run place first (round ∷ later) leads.batches rest.batches leads.are
              ([], rest.batches, refl, refl, rest.are);
          published = rest.published ∙ ap (λ (bs : List Batch). bs ++ rest.batches) mid_batches
              ∙ append_assoc from.state.batches leads.batches rest.batches;
          at = subst (λ (p : Place). IsAt run p to.state.control to.state.rounds to.slots)
              (sym (place_after-append run.inputs first (round ∷ later) place)) rest.at;
          tables = put_rows number kinds mid.state.batches mid.stations rest.tables;
          later = λ low up. put_later number kinds mid.state.batches low mid.stations rest.tables up
              (rest.later low (omega (arith, up)));
          many = put_many number kinds mid.state.batches mid.stations rest.tables
              ∙ as_many_worked stop.Marker kinds mid.state.batches (length from.state.batches) from.stations mid.stations
              worked;
          wrote = all_wrote;
          counted =
              let more = round_count_of stop.Marker kinds mid.state.batches (length from.state.batches) from.stations
              mid.stations worked in
              let rows = put_count number kinds mid.state.batches mid.stations rest.tables few in
              let rest_count = rest.counted in
              omega (arith, more, rows, rest_count);
          rows = all_rows;
        }
