-- The text of a run, out of its head, its steps and its closing line.
use Rattle.std.proofs.Common.{◌≡◌, ℕ, ◌≤◌, List, ◌∷◌, ◌++◌, length, map, take, drop, Option, Result, Ok, Err}
use Rattle.std.proofs.Common.{ap, refl, sym, subst, ◌∙◌, append_assoc}
use Rattle.std.specs.Prelude.{OnErr, OnOk, IfErr}
use Rattle.std.specs.List.{concat}
use Rattle.std.specs.Io.KnownBytes.{Appends}
use Rattle.std.proofs.lemmas.List.{take-append-drop}
use Rattle.urpf_base.proofs.Growth.{Appends-append}
use Rattle.report_text.specs.Lines.{done_line, publish_line, run_line}
use Rattle.urpf_base.specs.declared.sessions.SessionConfig.{SessionConfig}
use Rattle.runbook.specs.declared.lines.BookLine.{BookLine}
use Rattle.control_core.specs.States.{ControlState}
use Rattle.control_core.specs.Worlds.{last_number}
use Rattle.control_core.specs.declared.limits.RunFault.{RunFault}
use Rattle.control_core.specs.declared.limits.RunFault.TheVariants.{ItemLimit, OctetLimit, OutOfMemory, ReadFault}
use Rattle.control_core.specs.declared.limits.RunFault.TheVariants.{WriteFault}
use Rattle.run_lines.specs.Inputs.{Run}
use Rattle.run_lines.specs.Places.{opening, place_after}
use Rattle.run_lines.specs.RunText.{AreTotals, IsHead, IsRunText, head_text, last_place, steps_for}
use Rattle.run_lines.specs.Runs.{AreTexts, PullStops, RanBook, RanSteps, RunKnows, StepsStop, StopsAtLimit, TookAll}
use Rattle.run_lines.specs.Runs.{TookFront, WroteKnown}
use Rattle.run_lines.specs.Slots.{Slot}
use Rattle.run_lines.specs.Steps.{Step}
use Rattle.run_lines.proofs.Emptied.{emptied_at, empties_all, empties_some}
use Rattle.run_lines.proofs.Limiting.{none_filled, steps_limited}
use Rattle.run_lines.specs.declared.run.Totals.{Totals}
use Rattle.run_lines.proofs.SomeText.{some_text, text_with}
use Rattle.run_lines.proofs.WorldsOf.{number_at}
use Rattle.run_lines.proofs.Written.{front_none}

-- the head of a run, cut short
pub head_front : (run : Run) (lines : List BookLine) (head : List ℕ) (old new : Option (List ℕ)) → IsHead run head
    → TookFront (λ text. text ≡ head) old new → TookFront (IsRunText run lines) old new
head_front run lines head old new is took =
    let (rest, whole) = text_with run lines head is in
    record {
      front = took.front;
      more = took.more ++ rest;
      is = subst (IsRunText run lines)
          (ap (λ t. t ++ rest) (sym took.is) ∙ append_assoc took.front took.more rest) whole;
      appended = took.appended;
    }

-- nothing of a run
pub run_none : (run : Run) (lines : List BookLine) (held : Option (List ℕ)) → TookFront (IsRunText run lines) held held
run_none run lines held =
    let all = some_text run lines in front_none (IsRunText run lines) all.0 held all.1

-- the head, and steps that were cut short
pub steps_front : (run : Run) (lines : List BookLine) (head : List ℕ) (old mid new : Option (List ℕ))
    → IsHead run head → Appends old mid head
    → TookFront (AreTexts run (opening run.config.sessions) (steps_for run lines)) mid new
    → TookFront (IsRunText run lines) old new
steps_front run lines head old mid new is_head opened took =
    let closing : List ℕ = done_line (last_place run lines).mark.number 0 in
    record {
      front = head ++ took.front;
      more = took.more ++ closing;
      is = record {
        head = head;
        is_head = is_head;
        texts = took.is.0;
        given = took.is.1;
        parts = append_assoc head took.front (took.more ++ closing)
            ∙ ap (λ t. head ++ t)
            (sym (append_assoc took.front took.more closing) ∙ ap (λ t. t ++ closing) took.is.2);
      };
      appended = Appends-append old mid new head took.front opened took.appended;
    }

-- the head and all steps, and a closing line that was offered
closing_wrote : (run : Run) (lines : List BookLine) (number : ℕ) (text : List ℕ)
    (head : List ℕ) (old first mid new : Option (List ℕ)) → IsHead run head → Appends old first head
    → TookAll (AreTexts run (opening run.config.sessions) (steps_for run lines)) first mid
    → text ≡ done_line number 0 → number ≡ (last_place run lines).mark.number → Appends mid new text
    → TookAll (IsRunText run lines) old new
closing_wrote run lines number text head old first mid new is_head opened took same is wrote = record {
  text = head ++ (took.text ++ text);
  is = record {
    head = head;
    is_head = is_head;
    texts = took.is.0;
    given = took.is.1;
    parts = ap (λ t. head ++ t)
        (ap (λ t. t ++ text) took.is.2 ∙ ap (λ t. concat took.is.0 ++ t) (same ∙ ap (λ n. done_line n 0) is));
  };
  appended =
      Appends-append old first new head (took.text ++ text) opened
      (Appends-append first mid new took.text text took.appended wrote);
}

closing_front : (run : Run) (lines : List BookLine) (number : ℕ) (text : List ℕ) (n : ℕ)
    (head : List ℕ) (old first mid new : Option (List ℕ)) → IsHead run head → Appends old first head
    → TookAll (AreTexts run (opening run.config.sessions) (steps_for run lines)) first mid
    → text ≡ done_line number 0 → number ≡ (last_place run lines).mark.number → Appends mid new (take n text)
    → TookFront (IsRunText run lines) old new
closing_front run lines number text n head old first mid new is_head opened took same is wrote =
    let closing : List ℕ = done_line (last_place run lines).mark.number 0 in
    let whole : text ≡ closing = same ∙ ap (λ n. done_line n 0) is in
    let front : List ℕ = took.text ++ take n text in
    record {
      front = head ++ front;
      more = drop n text;
      is = record {
        head = head;
        is_head = is_head;
        texts = took.is.0;
        given = took.is.1;
        parts = append_assoc head front (drop n text)
            ∙ ap (λ t. head ++ t)
            (append_assoc took.text (take n text) (drop n text)
            ∙ ap (λ t. took.text ++ t) (take-append-drop n text ∙ whole) ∙ ap (λ t. t ++ closing) took.is.2);
      };
      appended =
          Appends-append old first new head front opened
          (Appends-append first mid new took.text (take n text) took.appended wrote);
    }

-- a head in two parts, which two writes took
pub head_written : {E : Type 0} (r : Result (Unit {0}) E) (head first second : List ℕ) (old mid new : Option (List ℕ))
    → head ≡ first ++ second → Appends old mid first → OnOk r (Appends mid new second) → OnOk r (Appends old new head)
head_written (Err e) head first second old mid new parts one two = tt
head_written (Ok u) head first second old mid new parts one two =
    rw parts (Appends-append old mid new first second one two)

-- the same, where the first write failed
pub head_cut_first : (head first second : List ℕ) (old new : Option (List ℕ)) → head ≡ first ++ second
    → (n : ℕ) × (n ≤ length first) × Appends old new (take n first) → TookFront (λ text. text ≡ head) old new
head_cut_first head first second old new parts cut = record {
  front = take cut.0 first;
  more = drop cut.0 first ++ second;
  is = sym
      (parts ∙ ap (λ t. t ++ second) (sym (take-append-drop cut.0 first))
      ∙ append_assoc (take cut.0 first) (drop cut.0 first) second);
  appended = cut.2;
}

-- the same, where the second write failed
pub head_cut_second : {E : Type 0} (r : Result (Unit {0}) E) (head first second : List ℕ)
    (old mid new : Option (List ℕ)) → head ≡ first ++ second → Appends old mid first
    → OnErr r ((n : ℕ) × (n ≤ length second) × Appends mid new (take n second))
    → OnErr r (TookFront (λ text. text ≡ head) old new)
head_cut_second (Ok u) head first second old mid new parts one cut = tt
head_cut_second (Err e) head first second old mid new parts one cut = record {
  front = first ++ take cut.0 second;
  more = drop cut.0 second;
  is = sym
      (parts ∙ ap (λ t. first ++ t) (sym (take-append-drop cut.0 second))
      ∙ sym (append_assoc first (take cut.0 second) (drop cut.0 second)));
  appended = Appends-append old mid new first (take cut.0 second) one cut.2;
}

-- the two lines of a head
pub head_parts : (totals : Totals) (sessions : List SessionConfig) (first second : List ℕ)
    → first ≡ run_line totals.interfaces totals.sessions totals.pairs totals.skipped
    → second ≡ publish_line 0 0 0 (map (λ s. 0) sessions) → head_text totals sessions ≡ first ++ second
head_parts totals sessions first second is_first is_second =
    sym (ap (λ t. t ++ second) is_first
    ∙ ap (λ t. run_line totals.interfaces totals.sessions totals.pairs totals.skipped ++ t) is_second)

-- how much a run begins with makes its head
pub head_of : (run : Run) (totals : Totals) → AreTotals run.config run.table totals
    → IsHead run (head_text totals run.config.sessions)
head_of run totals are = record { totals = totals; are = are; same = refl }

-- a failed write tells nothing of what is known
pub write_knows : (run : Run) (steps : List Step) (slots : List Slot) (fault : RunFault) (old new : Option (List ℕ))
    → fault ≡ WriteFault → RunKnows run steps slots fault old new
write_knows run steps slots fault old new is = subst (λ (f : RunFault). RunKnows run steps slots f old new) (sym is) tt

-- the head, the texts of the steps before a pull, and what the pull knows
wrote_known : (run : Run) (steps : List Step) (slots : List Slot) (session : ℕ) (head : List ℕ) (before : List Step)
    (step : Step) (later : List Step) (old first mid new : Option (List ℕ)) → IsHead run head → Appends old first head
    → steps ≡ before ++ step ∷ later → TookAll (AreTexts run (opening run.config.sessions) before) first mid
    → PullStops run (place_after run.inputs before (opening run.config.sessions)) step slots session mid new
    → WroteKnown run steps slots session old new
wrote_known run steps slots session head before step later old first mid new is_head opened parts took stops = record {
  before = before;
  count = stops.0;
  later = later;
  parts = parts ∙ ap (λ (s : Step). before ++ s ∷ later) stops.1;
  head = head;
  is_head = is_head;
  texts = took.text;
  are = took.is;
  known = stops.2.text;
  is_known = stops.2.is;
  appended = Appends-append old first new head (took.text ++ stops.2.text) opened
      (Appends-append first mid new took.text stops.2.text took.appended stops.2.appended);
}

-- what is written where steps stop behind the head
run_knows : (run : Run) (steps : List Step) (slots : List Slot) (fault : RunFault) (head : List ℕ)
    (old first new : Option (List ℕ)) → IsHead run head → Appends old first head
    → StepsStop run (opening run.config.sessions) steps slots fault first new → RunKnows run steps slots fault old new
run_knows run steps slots (ReadFault session) head old first new is_head opened stop =
    wrote_known run steps slots session head stop.before stop.step stop.later old first stop.mid new is_head opened
    stop.parts stop.took stop.stops.knows
run_knows run steps slots WriteFault head old first new is_head opened stop = tt
run_knows run steps slots (ItemLimit session) head old first new is_head opened stop =
    wrote_known run steps slots session head stop.before stop.step stop.later old first stop.mid new is_head opened
    stop.parts stop.took stop.stops.knows
run_knows run steps slots (OctetLimit session) head old first new is_head opened stop =
    wrote_known run steps slots session head stop.before stop.step stop.later old first stop.mid new is_head opened
    stop.parts stop.took stop.stops.knows
run_knows run steps slots OutOfMemory head old first new is_head opened stop = tt

-- the head, and steps that stopped
pub book_stopped : (run : Run) (lines : List BookLine) (fault : RunFault) (control : ControlState) (rounds : ℕ)
    (slots : List Slot) (head : List ℕ) (old first new : Option (List ℕ)) → IsHead run head
    → length run.config.sessions ≡ length run.inputs → Appends old first head
    → RanSteps run (opening run.config.sessions) (steps_for run lines) (Err fault) control rounds slots first new
    → RanBook run lines (Err fault) slots old new
book_stopped run lines fault control rounds slots head old first new is_head many opened ran = (
  steps_front run lines head old first new is_head opened ran.0,
  steps_limited run run.config.sessions (steps_for run lines) slots fault first new many ran.1,
  empties_some run (steps_for run lines) slots fault first new ran.1,
  run_knows run (steps_for run lines) slots fault head old first new is_head opened ran.1,
)

-- a failed write is no limit
pub write_stops : (run : Run) (lines : List BookLine) (slots : List Slot) (fault : RunFault)
    → fault ≡ WriteFault → StopsAtLimit run (steps_for run lines) slots fault
write_stops run lines slots fault is =
    subst (StopsAtLimit run (steps_for run lines) slots) (sym is) tt

-- the head, all steps, and a closing line that was offered
pub book_ran : (run : Run) (lines : List BookLine) (number : ℕ) (text : List ℕ) (result : Result (Unit {0}) RunFault)
    (control : ControlState) (rounds : ℕ) (slots : List Slot) (head : List ℕ)
    (old first mid new : Option (List ℕ)) → IsHead run head → Appends old first head
    → RanSteps run (opening run.config.sessions) (steps_for run lines) (Ok tt) control rounds slots first mid
    → text ≡ done_line number 0 → number ≡ last_number control.marks → OnOk result (Appends mid new text)
    → OnErr result ((n : ℕ) × (n ≤ length text) × Appends mid new (take n text))
    → IfErr result (λ fault. fault ≡ WriteFault) → RanBook run lines result slots old new
book_ran run lines number text (Ok done) control rounds slots head old first mid new is_head opened ran same is
    ok cut err = (
      closing_wrote run lines number text head old first mid new is_head opened ran.0 same
          (is ∙ number_at run (last_place run lines) control rounds slots ran.1) ok,
      none_filled run (steps_for run lines) control rounds slots ran.1,
      emptied_at run (last_place run lines) control rounds slots ran.1,
    )
book_ran run lines number text (Err fault) control rounds slots head old first mid new is_head opened ran same is
    ok cut err = (
      closing_front run lines number text cut.0 head old first mid new is_head opened ran.0 same
          (is ∙ number_at run (last_place run lines) control rounds slots ran.1) cut.2,
      write_stops run lines slots fault err,
      empties_all run (steps_for run lines) slots (emptied_at run (last_place run lines) control rounds slots ran.1),
      write_knows run (steps_for run lines) slots fault old new err,
    )
