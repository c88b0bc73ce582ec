-- The batches that steps hand on, out of those of each step.
use Rattle.std.proofs.Common.{ℕ, zero, suc, List, [], ◌∷◌, ◌++◌, Option, Some, None, Result, Ok, Err}
use Rattle.std.proofs.Common.{refl, sym, ap, subst, ◌∙◌, append_assoc}
use Rattle.std.proofs.lemmas.List.{append-nil}
use Rattle.cover_table.specs.declared.batch.Batch.{Batch}
use Rattle.runbook.specs.declared.lines.BookLine.TheVariants.{Pull}
use Rattle.control_core.specs.declared.limits.RunFault.{RunFault}
use Rattle.run_lines.specs.Inputs.{Run}
use Rattle.run_lines.specs.Places.{Place, next_place, place_after}
use Rattle.run_lines.specs.Publications.{Adds, AreBatches, Grows, HandedOn, HandsOn, IsBatchAt}
use Rattle.run_lines.specs.Steps.{Step, publish, pull, pulls_of, steps_in}

-- nothing is added
adds_none : (list : Option (List Batch)) → Adds list list []
adds_none None = refl
adds_none (Some list) = ap Some (sym (append-nil list))

-- what is added to what was added
adds_then : (old mid new : Option (List Batch)) (a b : List Batch) → Adds old mid a → Adds mid new b
    → Adds old new (a ++ b)
adds_then None mid new a b first next = subst (λ (m : Option (List Batch)). Adds m new b) first next
adds_then (Some list) mid new a b first next =
    let both : Adds (Some (list ++ a)) new b = subst (λ (m : Option (List Batch)). Adds m new b) first next in
    both ∙ ap Some (append_assoc list a b)

pub grows_none : (list : Option (List Batch)) → Grows list list
grows_none list = ([], adds_none list)

pub grows_then : (old mid new : Option (List Batch)) → Grows old mid → Grows mid new → Grows old new
grows_then old mid new a b = (a.0 ++ b.0, adds_then old mid new a.0 b.0 a.1 b.1)

-- the batches of steps, and of those behind them
batches_append : (run : Run) (place : Place) (first later : List Step) (a b : List Batch)
    → AreBatches run place first a → AreBatches run (place_after run.inputs first place) later b
    → AreBatches run place (first ++ later) (a ++ b)
batches_append run place [] later a b are next =
    subst (λ (bs : List Batch). AreBatches run place later (bs ++ b)) (sym are) next
batches_append run place (step ∷ first) later a b are next = (
  are.0,
  are.1 ++ b,
  ap (λ (bs : List Batch). bs ++ b) are.2 ∙ append_assoc are.0 are.1 b,
  are.3,
  batches_append run (next_place run.inputs step place) first later are.1 b are.4 next,
)

-- steps that ended well, and those behind them
pub handed_then : (run : Run) (place : Place) (first later : List Step) (result : Result (Unit {0}) RunFault)
    (old mid new : Option (List Batch)) → HandedOn run place first (Ok tt) old mid
    → HandedOn run (place_after run.inputs first place) later result mid new
    → HandedOn run place (first ++ later) result old new
handed_then run place first later (Ok done) old mid new a b = (
  a.0 ++ b.0,
  batches_append run place first later a.0 b.0 a.1 b.1,
  adds_then old mid new a.0 b.0 a.2 b.2,
)
handed_then run place first later (Err fault) old mid new a b = (
  first ++ b.0,
  b.1,
  ap (λ (ss : List Step). first ++ ss) b.2 ∙ sym (append_assoc first b.0 b.1),
  a.0 ++ b.3,
  batches_append run place first b.0 a.0 b.3 a.1 b.4,
  adds_then old mid new a.0 b.3 a.2 b.5,
)

-- steps that stopped are so also where others stand behind them
pub handed_stop : (run : Run) (place : Place) (first later : List Step) (fault : RunFault)
    (old new : Option (List Batch)) → HandedOn run place first (Err fault) old new
    → HandedOn run place (first ++ later) (Err fault) old new
handed_stop run place first later fault old new a = (
  a.0,
  a.1 ++ later,
  ap (λ (ss : List Step). ss ++ later) a.2 ∙ append_assoc a.0 a.1 later,
  a.3,
  a.4,
  a.5,
)

-- steps that have no batch hand on nothing, also where they stop
pub handed_nothing : (run : Run) (place : Place) (steps : List Step) (result : Result (Unit {0}) RunFault)
    (list : Option (List Batch)) → AreBatches run place steps [] → HandedOn run place steps result list list
handed_nothing run place steps (Ok done) list are = ([], are, adds_none list)
handed_nothing run place steps (Err fault) list are = ([], steps, refl, [], refl, adds_none list)

-- where steps stop before the first of them, nothing is handed on
pub handed_before : (run : Run) (place : Place) (steps : List Step) (fault : RunFault) (list : Option (List Batch))
    → HandedOn run place steps (Err fault) list list
handed_before run place steps fault list = ([], steps, refl, [], refl, adds_none list)

-- a step that has no batch
pub one_quiet : (run : Run) (place : Place) (step : Step) → HandsOn run place step []
    → AreBatches run place (step ∷ []) []
one_quiet run place step is = ([], [], refl, is, refl)

pulls_quiet : (run : Run) (place : Place) (n : ℕ) (count : Option ℕ) → AreBatches run place (pulls_of n count) []
pulls_quiet run place zero count = refl
pulls_quiet run place (suc n) count =
    batches_append run place (pulls_of n count) (pull n count ∷ []) [] [] (pulls_quiet run place n count)
    (one_quiet run (place_after run.inputs (pulls_of n count) place) (pull n count) refl)

-- pulls have no batch
pub pull_quiet : (run : Run) (place : Place) (sessions : ℕ) (session count : Option ℕ)
    → AreBatches run place (steps_in sessions (Pull session count)) []
pull_quiet run place sessions None count = pulls_quiet run place sessions count
pull_quiet run place sessions (Some session) count = one_quiet run place (pull session count) refl

-- a publication whose batch was handed on
pub handed_published : (run : Run) (place : Place) (batch : Batch) (result : Result (Unit {0}) RunFault)
    (old new : Option (List Batch)) → IsBatchAt run place batch → Adds old new (batch ∷ [])
    → HandedOn run place (publish ∷ []) result old new
handed_published run place batch (Ok done) old new is adds =
    (batch ∷ [], (batch ∷ [], [], refl, (batch, refl, is), refl), adds)
handed_published run place batch (Err fault) old new is adds =
    (publish ∷ [], [], refl, batch ∷ [], (batch ∷ [], [], refl, (batch, refl, is), refl), adds)
