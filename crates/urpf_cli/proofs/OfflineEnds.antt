-- What `offline` comes to, out of its opening and its run.
use Rattle.std.proofs.Common.{◌≡◌, ◌⊎◌, ℕ, List, [], ◌∷◌, length, map, Option, Some, None, Result, Ok, Err, refl, sym, ap}
use Rattle.std.proofs.Common.{subst, ◌∙◌, inl, inr, arith}
use Rattle.std.specs.Prelude.{IfErr, slice_get}
use Rattle.std.specs.Option.{option_map}
use Rattle.std.proofs.lemmas.List.{length-map}
use Rattle.feed_io.specs.Events.{Event}
use Rattle.roa_irr.specs.Tables.{Table}
use Rattle.router_config.specs.Settings.{Settings}
use Rattle.runbook.specs.declared.lines.BookLine.{BookLine}
use Rattle.control_core.specs.Slots.{CountsSlot}
use Rattle.control_core.specs.declared.limits.RunFault.{RunFault}
use Rattle.control_core.specs.declared.limits.RunFault.TheVariants as fault
use Rattle.control_core.proofs.Places.{some_at}
use Rattle.run_lines.specs.Inputs.{Input, Run, events_of}
use Rattle.run_lines.specs.Limits.{StaysBelow}
use Rattle.urpf_cli.specs.Outputs.{Reads}
use Rattle.run_lines.specs.RunText.{steps_for}
use Rattle.run_lines.specs.Runs.{CountEach, NamesSession, NoneRose, RanBook}
use Rattle.run_lines.specs.Slots.{Slot, filled, slots_of, told_by}
use Rattle.urpf_cli.specs.Statuses.{IsRunStatus, status_of_run}
use Rattle.run_lines.proofs.Limiting.{below_done}
use Rattle.urpf_cli.proofs.Outputs.{some_inputs}

-- what a run came to is told by its status
pub one_run_end : (a b : Result (Unit {0}) RunFault) → status_of_run a ≡ status_of_run b → a ≡ b
one_run_end (Ok u) (Ok v) is = refl
one_run_end (Ok u) (Err (fault.ReadFault n)) is = absurd cc
one_run_end (Ok u) (Err fault.WriteFault) is = absurd cc
one_run_end (Ok u) (Err (fault.ItemLimit n)) is = absurd cc
one_run_end (Ok u) (Err (fault.OctetLimit n)) is = absurd cc
one_run_end (Ok u) (Err fault.OutOfMemory) is = absurd cc
one_run_end (Err (fault.ReadFault n)) (Ok u) is = absurd cc
one_run_end (Err (fault.ReadFault n)) (Err (fault.ReadFault m)) is =
    let same : n ≡ m = cc in ap (λ (k : ℕ). Err (fault.ReadFault k)) same
one_run_end (Err (fault.ReadFault n)) (Err fault.WriteFault) is = absurd cc
one_run_end (Err (fault.ReadFault n)) (Err (fault.ItemLimit m)) is = absurd cc
one_run_end (Err (fault.ReadFault n)) (Err (fault.OctetLimit m)) is = absurd cc
one_run_end (Err (fault.ReadFault n)) (Err fault.OutOfMemory) is = absurd cc
one_run_end (Err fault.WriteFault) (Ok u) is = absurd cc
one_run_end (Err fault.WriteFault) (Err (fault.ReadFault m)) is = absurd cc
one_run_end (Err fault.WriteFault) (Err fault.WriteFault) is = refl
one_run_end (Err fault.WriteFault) (Err (fault.ItemLimit m)) is = absurd cc
one_run_end (Err fault.WriteFault) (Err (fault.OctetLimit m)) is = absurd cc
one_run_end (Err fault.WriteFault) (Err fault.OutOfMemory) is = absurd cc
one_run_end (Err (fault.ItemLimit n)) (Ok u) is = absurd cc
one_run_end (Err (fault.ItemLimit n)) (Err (fault.ReadFault m)) is = absurd cc
one_run_end (Err (fault.ItemLimit n)) (Err fault.WriteFault) is = absurd cc
one_run_end (Err (fault.ItemLimit n)) (Err (fault.ItemLimit m)) is =
    let same : n ≡ m = cc in ap (λ (k : ℕ). Err (fault.ItemLimit k)) same
one_run_end (Err (fault.ItemLimit n)) (Err (fault.OctetLimit m)) is = absurd cc
one_run_end (Err (fault.ItemLimit n)) (Err fault.OutOfMemory) is = absurd cc
one_run_end (Err (fault.OctetLimit n)) (Ok u) is = absurd cc
one_run_end (Err (fault.OctetLimit n)) (Err (fault.ReadFault m)) is = absurd cc
one_run_end (Err (fault.OctetLimit n)) (Err fault.WriteFault) is = absurd cc
one_run_end (Err (fault.OctetLimit n)) (Err (fault.ItemLimit m)) is = absurd cc
one_run_end (Err (fault.OctetLimit n)) (Err (fault.OctetLimit m)) is =
    let same : n ≡ m = cc in ap (λ (k : ℕ). Err (fault.OctetLimit k)) same
one_run_end (Err (fault.OctetLimit n)) (Err fault.OutOfMemory) is = absurd cc
one_run_end (Err fault.OutOfMemory) (Ok u) is = absurd cc
one_run_end (Err fault.OutOfMemory) (Err (fault.ReadFault m)) is = absurd cc
one_run_end (Err fault.OutOfMemory) (Err fault.WriteFault) is = absurd cc
one_run_end (Err fault.OutOfMemory) (Err (fault.ItemLimit m)) is = absurd cc
one_run_end (Err fault.OutOfMemory) (Err (fault.OctetLimit m)) is = absurd cc
one_run_end (Err fault.OutOfMemory) (Err fault.OutOfMemory) is = refl

-- a status that tells a run of so many sessions
pub run_known : (sessions : ℕ) (end : Result (Unit {0}) RunFault) → IfErr end (NamesSession sessions)
    → IsRunStatus sessions (status_of_run end)
run_known sessions (Ok done) names = inr (inl refl)
run_known sessions (Err fault) names = inr (inr (fault, names, refl))

-- a run that asks past no limit, and where nothing fails, is done, or memory ran out
pub done_below : (run : Run) (lines : List BookLine) (end : Result (Unit {0}) RunFault)
    (slots : List Slot) (old new : Option (List ℕ))
    → RanBook run lines end slots old new → StaysBelow (events_of run) (steps_for run lines)
    → ((n : ℕ) → end ≡ Err (fault.ReadFault n) → ⊥) → (end ≡ Err fault.WriteFault → ⊥)
    → (end ≡ Ok tt) ⊎ (end ≡ Err fault.OutOfMemory)
done_below run lines (Ok u) slots old new ran below read write = inl refl
done_below run lines (Err (fault.ReadFault n)) slots old new ran below read write = absurd (read n refl)
done_below run lines (Err fault.WriteFault) slots old new ran below read write = absurd (write refl)
done_below run lines (Err (fault.ItemLimit n)) slots old new ran below read write =
    absurd ((below_done run (steps_for run lines) slots (fault.ItemLimit n) below ran.1).0 n refl)
done_below run lines (Err (fault.OctetLimit n)) slots old new ran below read write =
    absurd ((below_done run (steps_for run lines) slots (fault.OctetLimit n) below ran.1).1 n refl)
done_below run lines (Err fault.OutOfMemory) slots old new ran below read write = inr refl

-- a feed that failed stands in its slot, and its count rose
rose_at : {F : Type 0} (faults : F → ℕ) (failed : Type 0) (old new : List (Option F)) (n : ℕ) (slot next : Option F)
    → slice_get old n ≡ Some slot → slice_get new n ≡ Some next → CountsSlot faults failed slot next
    → NoneRose faults old new → failed → ⊥
rose_at faults failed old new n None None there now counts none is = counts is
rose_at faults failed old new n None (Some feed) there now counts none is = counts
rose_at faults failed old new n (Some feed) None there now counts none is = counts is
rose_at faults failed old new n (Some feed) (Some next) there now counts none is =
    none n feed next there now (counts.rose is)

-- where no count of the feeds rose, none of them failed
pub none_failed : {F : Type 0} (faults : F → ℕ) (end : Result (Unit {0}) RunFault) (sessions : ℕ)
    (old new : List (Option F)) → sessions ≡ length old → IfErr end (NamesSession sessions)
    → CountEach faults (λ s. end ≡ Err (fault.ReadFault s)) old new → NoneRose faults old new
    → (n : ℕ) → end ≡ Err (fault.ReadFault n) → ⊥
none_failed faults end sessions old new many names counts none n is =
    let named : NamesSession sessions (fault.ReadFault n) =
    subst (λ (e : Result (Unit {0}) RunFault). IfErr e (NamesSession sessions)) is names in
    let first = some_at old n (omega (arith, named, many)) in
    let last = some_at new n (omega (arith, named, many, counts.as_many)) in
    rose_at faults (end ≡ Err (fault.ReadFault n)) old new n first.0 last.0 first.1 last.1
    (counts.each n first.0 last.0 first.1 last.1) none is

told_map : (inputs : List Input)
    → map (λ (i : Input). filled i.course.events) inputs ≡ map filled (map (λ (i : Input). i.course.events) inputs)
told_map [] = refl
told_map (i ∷ inputs) = ap (λ (ls : List Slot). filled i.course.events ∷ ls) (told_map inputs)

-- feeds that tell their events are as many as these
pub as_many_told : {F : Type 0} (left : F → Option (List Event)) (feeds : List (Option F)) (events : List (List Event))
    → slots_of left feeds ≡ map filled events → length events ≡ length feeds
as_many_told left feeds events told =
    sym (length-map events filled) ∙ ap length (sym told) ∙ length-map feeds (option_map left)

-- a run that reads what the feeds tell
pub record Begun (settings : Settings) (table : Option Table) (events : List (List Event)) (slots : List Slot) : Type 0 where
  pub run : Run
  pub reads : Reads run settings table events
  pub told : slots ≡ told_by run

pub begun : (settings : Settings) (table : Option Table) (events : List (List Event))
    (slots : List Slot)
    → length events ≡ length settings.sessions → slots ≡ map filled events
    → Begun settings table events slots
begun settings table events slots many told =
    let inputs = some_inputs settings.sessions events many in
    record {
      run = record { config = settings; table = table; inputs = inputs.0 };
      reads = record { configured = refl; tabled = refl; told = inputs.2; is = inputs.1 };
      told = told
          ∙ ap (map filled) (sym inputs.2) ∙ sym (told_map inputs.0);
    }
