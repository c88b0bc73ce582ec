-- What the lines of a runbook come to, out of what each line comes to.
use Rattle.std.proofs.Common.{◌≡◌, ℕ, zero, suc, ◌+◌, ◌-◌, ◌<◌, ◌≤◌, arith, refl, List, [], ◌∷◌, ◌++◌, length, take, drop, Option, Some}
use Rattle.std.proofs.Common.{Result, Ok, Err, get_or, sym, ap, subst, ◌∙◌, unwrap_or}
use Rattle.std.specs.Prelude.{slice_get, slice_range}
use Rattle.std.specs.List.{AllByRecursion}
use Rattle.std.proofs.lemmas.List.{append-nil, length-map, length-take, map-append, take-append-drop, take-map, take_all, take_more}
use Rattle.std.proofs.lemmas.Option.{slice_get_within, unwrap_or-slice_get}
use Rattle.cover_table.specs.Snapshots.{Publication}
use Rattle.cover_table.specs.declared.batch.Batch.{Batch}
use Rattle.runbook.specs.declared.lines.BookLine.{BookLine}
use Rattle.control_core.specs.States.{ControlState}
use Rattle.control_core.specs.declared.limits.RunFault.{RunFault}
use Rattle.control_core.proofs.Places.{some_one}
use Rattle.run_lines.specs.Inputs.{Run}
use Rattle.run_lines.specs.Places.{Place, place_after}
use Rattle.run_lines.specs.Publications.{HandedOn}
use Rattle.run_lines.specs.Runs.{RanSteps, Shows}
use Rattle.run_lines.specs.Slots.{Slot}
use Rattle.run_lines.specs.Steps.{Step, lines_in, steps_in, steps_of}
use Rattle.run_lines.proofs.Composing.{steps_of-append, steps_stop, then_steps}
use Rattle.run_lines.proofs.HandingOn.{handed_stop, handed_then}

-- what holds of each element holds of this one
pub all_at : {X : Type 0} (P : X → Type 0) (xs : List X) (k : ℕ) (x : X) → AllByRecursion P xs
    → slice_get xs k ≡ Some x → P x
all_at P [] k x all there = cc
all_at P (y ∷ xs) zero x all there = subst P (some_one y x there) all.0
all_at P (y ∷ xs) (suc k) x all there = all_at P xs k x all.1 there

-- one line more of a book
line_more : (rows : List (ℕ × BookLine)) (k : ℕ) (row : ℕ × BookLine) → slice_get rows k ≡ Some row
    → take (k + 1) (lines_in rows) ≡ take k (lines_in rows) ++ row.1 ∷ []
line_more rows k row is =
    let here : get_or rows k row ≡ row = sym (unwrap_or-slice_get rows k row) ∙ ap (λ o. unwrap_or o row) is in
    let more : take (k + 1) rows ≡ take k rows ++ row ∷ [] = take_more rows k row (slice_get_within rows k row is)
    ∙ ap (λ r. take k rows ++ r ∷ []) here in
    take-map (λ r. r.1) (k + 1) rows ∙ ap lines_in more ∙ map-append (λ r. r.1) (take k rows) (row ∷ [])
    ∙ ap (λ t. t ++ row.1 ∷ []) (sym (take-map (λ r. r.1) k rows))

-- the steps of one line more
pub steps_more : (sessions : ℕ) (rows : List (ℕ × BookLine)) (k : ℕ) (row : ℕ × BookLine) → slice_get rows k ≡ Some row
    → steps_of sessions (take (k + 1) (lines_in rows))
    ≡ steps_of sessions (take k (lines_in rows)) ++ steps_in sessions row.1
steps_more sessions rows k row is =
    ap (steps_of sessions) (line_more rows k row is)
    ∙ steps_of-append sessions (take k (lines_in rows)) (row.1 ∷ [])
    ∙ ap (λ (ss : List Step). steps_of sessions (take k (lines_in rows)) ++ ss) (append-nil (steps_in sessions row.1))

-- the steps of a book, parted behind a line
steps_parted : (sessions : ℕ) (rows : List (ℕ × BookLine)) (k : ℕ) (row : ℕ × BookLine)
    → slice_get rows k ≡ Some row
    → steps_of sessions (lines_in rows)
    ≡ (steps_of sessions (take k (lines_in rows)) ++ steps_in sessions row.1)
    ++ steps_of sessions (drop (k + 1) (lines_in rows))
steps_parted sessions rows k row is =
    ap (steps_of sessions) (sym (take-append-drop (k + 1) (lines_in rows)))
    ∙ steps_of-append sessions (take (k + 1) (lines_in rows)) (drop (k + 1) (lines_in rows))
    ∙ ap (λ (ss : List Step). ss ++ steps_of sessions (drop (k + 1) (lines_in rows)))
    (steps_more sessions rows k row is)

-- one line more was taken
pub lines_next : (run : Run) (place : Place) (sessions : ℕ) (rows : List (ℕ × BookLine)) (k : ℕ) (row : ℕ × BookLine)
    (mid_control control : ControlState) (mid_rounds rounds : ℕ) (mid_slots slots : List Slot)
    (old mid new : Option (List ℕ)) → slice_get rows k ≡ Some row
    → RanSteps run place (steps_of sessions (take k (lines_in rows))) (Ok tt) mid_control mid_rounds mid_slots old mid
    → RanSteps run (place_after run.inputs (steps_of sessions (take k (lines_in rows))) place)
    (steps_in sessions row.1) (Ok tt) control rounds slots mid new
    → RanSteps run place (steps_of sessions (take (k + 1) (lines_in rows))) (Ok tt) control rounds slots old new
lines_next run place sessions rows k row mid_control control mid_rounds rounds mid_slots slots old mid new is first
    next =
    subst (λ (ss : List Step). RanSteps run place ss (Ok tt) control rounds slots old new)
    (sym (steps_more sessions rows k row is))
    (then_steps run place (steps_of sessions (take k (lines_in rows))) (steps_in sessions row.1) (Ok tt) mid_control
    control mid_rounds rounds mid_slots slots old mid new first next)

-- a line that stopped, and those behind it
pub lines_stop : (run : Run) (place : Place) (sessions : ℕ) (rows : List (ℕ × BookLine)) (k : ℕ) (row : ℕ × BookLine)
    (fault : RunFault) (mid_control control : ControlState) (mid_rounds rounds : ℕ)
    (mid_slots slots : List Slot) (old mid new : Option (List ℕ)) → slice_get rows k ≡ Some row
    → RanSteps run place (steps_of sessions (take k (lines_in rows))) (Ok tt) mid_control mid_rounds mid_slots old mid
    → RanSteps run (place_after run.inputs (steps_of sessions (take k (lines_in rows))) place)
    (steps_in sessions row.1) (Err fault) control rounds slots mid new
    → RanSteps run place (steps_of sessions (lines_in rows)) (Err fault) control rounds slots old new
lines_stop run place sessions rows k row fault mid_control control mid_rounds rounds mid_slots slots old mid new is
    first next =
    let before : List Step = steps_of sessions (take k (lines_in rows)) in
    subst (λ (ss : List Step). RanSteps run place ss (Err fault) control rounds slots old new)
    (sym (steps_parted sessions rows k row is))
    (steps_stop run place (before ++ steps_in sessions row.1) (steps_of sessions (drop (k + 1) (lines_in rows))) fault
    control rounds slots old new
    (then_steps run place before (steps_in sessions row.1) (Err fault) mid_control control mid_rounds rounds mid_slots
    slots old mid new first next))

whole_lines : (rows : List (ℕ × BookLine)) (k : ℕ) → length rows ≤ k → take k (lines_in rows) ≡ lines_in rows
whole_lines rows k long =
    take_all k (lines_in rows) (omega (arith, long, length-map rows (λ (r : ℕ × BookLine). r.1)))

-- all lines were taken
pub lines_all : (run : Run) (place : Place) (sessions : ℕ) (rows : List (ℕ × BookLine)) (k : ℕ)
    (control : ControlState) (rounds : ℕ) (slots : List Slot) (old new : Option (List ℕ))
    → length rows ≤ k
    → RanSteps run place (steps_of sessions (take k (lines_in rows))) (Ok tt) control rounds slots old new
    → RanSteps run place (steps_of sessions (lines_in rows)) (Ok tt) control rounds slots old new
lines_all run place sessions rows k control rounds slots old new long ran =
    subst (λ (ls : List BookLine). RanSteps run place (steps_of sessions ls) (Ok tt) control rounds slots old new)
    (whole_lines rows k long) ran

-- what was handed on by one line more
pub handed_next : (run : Run) (place : Place) (sessions : ℕ) (rows : List (ℕ × BookLine)) (k : ℕ) (row : ℕ × BookLine)
    (old mid new : Option (List Batch)) → slice_get rows k ≡ Some row
    → HandedOn run place (steps_of sessions (take k (lines_in rows))) (Ok tt) old mid
    → HandedOn run (place_after run.inputs (steps_of sessions (take k (lines_in rows))) place)
    (steps_in sessions row.1) (Ok tt) mid new
    → HandedOn run place (steps_of sessions (take (k + 1) (lines_in rows))) (Ok tt) old new
handed_next run place sessions rows k row old mid new is first next =
    subst (λ (ss : List Step). HandedOn run place ss (Ok tt) old new) (sym (steps_more sessions rows k row is))
    (handed_then run place (steps_of sessions (take k (lines_in rows))) (steps_in sessions row.1) (Ok tt) old mid new
    first next)

-- and by a line that stopped
pub handed_stop_at : (run : Run) (place : Place) (sessions : ℕ) (rows : List (ℕ × BookLine)) (k : ℕ)
    (row : ℕ × BookLine) (fault : RunFault) (old mid new : Option (List Batch)) → slice_get rows k ≡ Some row
    → HandedOn run place (steps_of sessions (take k (lines_in rows))) (Ok tt) old mid
    → HandedOn run (place_after run.inputs (steps_of sessions (take k (lines_in rows))) place)
    (steps_in sessions row.1) (Err fault) mid new
    → HandedOn run place (steps_of sessions (lines_in rows)) (Err fault) old new
handed_stop_at run place sessions rows k row fault old mid new is first next =
    let before : List Step = steps_of sessions (take k (lines_in rows)) in
    subst (λ (ss : List Step). HandedOn run place ss (Err fault) old new) (sym (steps_parted sessions rows k row is))
    (handed_stop run place (before ++ steps_in sessions row.1) (steps_of sessions (drop (k + 1) (lines_in rows))) fault
    old new (handed_then run place before (steps_in sessions row.1) (Err fault) old mid new first next))

-- and by all lines
pub handed_all : (run : Run) (place : Place) (sessions : ℕ) (rows : List (ℕ × BookLine)) (k : ℕ)
    (old new : Option (List Batch)) → length rows ≤ k
    → HandedOn run place (steps_of sessions (take k (lines_in rows))) (Ok tt) old new
    → HandedOn run place (steps_of sessions (lines_in rows)) (Ok tt) old new
handed_all run place sessions rows k old new long handed =
    subst (λ (ls : List BookLine). HandedOn run place (steps_of sessions ls) (Ok tt) old new)
    (whole_lines rows k long) handed

-- what is shown behind all lines
pub shown_all : (run : Run) (place : Place) (sessions : ℕ) (rows : List (ℕ × BookLine)) (k : ℕ)
    (control : ControlState) (shown : Publication) → length rows ≤ k
    → Shows run (place_after run.inputs (steps_of sessions (take k (lines_in rows))) place) control shown
    → Shows run (place_after run.inputs (steps_of sessions (lines_in rows)) place) control shown
shown_all run place sessions rows k control shown long shows =
    subst (λ (ls : List BookLine). Shows run (place_after run.inputs (steps_of sessions ls) place) control shown)
    (whole_lines rows k long) shows

get_take : {X : Type 0} (n k : ℕ) (xs : List X) → k < n → slice_get (take n xs) k ≡ slice_get xs k
get_take zero k xs less = absurd (omega (arith, less))
get_take (suc n) k [] less = refl
get_take (suc n) zero (x ∷ xs) less = refl
get_take (suc n) (suc k) (x ∷ xs) less = get_take n k xs (omega (arith, less))

get_drop : {X : Type 0} (n k : ℕ) (xs : List X) → slice_get (drop n xs) k ≡ slice_get xs (n + k)
get_drop zero k xs = let at : k ≡ 0 + k = omega arith in ap (slice_get xs) at
get_drop (suc n) k [] = refl
get_drop (suc n) k (x ∷ xs) =
    let at : suc (n + k) ≡ suc n + k = omega arith in get_drop n k xs ∙ ap (slice_get (x ∷ xs)) at

-- an element of a part of a list, and how many there are
pub range_get : {X : Type 0} (xs : List X) (from upto k : ℕ) (x : X) → k < upto - from
    → slice_get xs (from + k) ≡ Some x → slice_get (slice_range xs from upto) k ≡ Some x
range_get xs from upto k x less is = get_take (upto - from) k (drop from xs) less ∙ get_drop from k xs ∙ is

pub range_length : {X : Type 0} (xs : List X) (from upto : ℕ) → length (slice_range xs from upto) ≤ upto - from
range_length xs from upto = omega (arith, length-take (upto - from) (drop from xs))

-- all lines of a book, of as many sessions
pub book_lines : (run : Run) (place : Place) (peers sessions : ℕ) (rows : List (ℕ × BookLine)) (upto : ℕ)
    (result : Result (Unit {0}) RunFault) (control : ControlState) (rounds : ℕ) (slots : List Slot)
    (old new : Option (List ℕ)) → peers ≡ sessions → upto ≡ length rows
    → RanSteps run place (steps_of peers (lines_in (slice_range rows 0 upto))) result control rounds slots old new
    → RanSteps run place (steps_of sessions (lines_in rows)) result control rounds slots old new
book_lines run place peers sessions rows upto result control rounds slots old new as_many whole ran =
    let all : slice_range rows 0 upto ≡ rows = take_all (upto - 0) rows (omega (arith, whole)) in
    subst (λ (n : ℕ). RanSteps run place (steps_of n (lines_in rows)) result control rounds slots old new) as_many
    (subst (λ (rs : List (ℕ × BookLine)). RanSteps run place (steps_of peers (lines_in rs)) result control rounds slots
    old new) all ran)
