-- How many marks and rounds steps make, and the numbers of marks by rounds.
use Rattle.std.proofs.Common.{◌≡◌, ℕ, zero, suc, ◌+◌, ◌≤◌, List, [], ◌∷◌, ◌++◌, length}
use Rattle.std.proofs.Common.{refl, ap, ◌∙◌, arith}
use Rattle.std.proofs.lemmas.List.{length-append}
use Rattle.cover_table.specs.declared.batch.Batch.{Batch}
use Rattle.run_lines.specs.Inputs.{Input, Run}
use Rattle.run_lines.specs.Places.{Place, next_place, place_after}
use Rattle.run_lines.specs.Publications.{AreBatches, HandsOn}
use Rattle.run_lines.specs.Steps.{Step, pull, publish, round, check, change, summary}
use Rattle.live_text.specs.Numbers.{last_of, round_count}

-- how many marks a step makes
abbrev pub marks_by : Step → ℕ
marks_by (pull session count) = 0
marks_by publish = 1
marks_by round = 0
marks_by (check iface addr) = 0
marks_by (change edit) = 0
marks_by summary = 0

-- how many marks steps make
abbrev pub mark_count : List Step → ℕ
mark_count [] = 0
mark_count (step ∷ steps) = marks_by step + mark_count steps

pub marks-append : (first later : List Step) → mark_count (first ++ later) ≡ mark_count first + mark_count later
marks-append [] later = omega arith
marks-append (step ∷ first) later = let more = marks-append first later in omega (arith, more)

pub rounds-append : (first later : List Step) → round_count (first ++ later) ≡ round_count first + round_count later
rounds-append [] later = omega arith
rounds-append (step ∷ first) later = let more = rounds-append first later in omega (arith, more)

-- a step hands on one batch for each mark
own_batches : (run : Run) (place : Place) (step : Step) (batches : List Batch) → HandsOn run place step batches
    → length batches ≡ marks_by step
own_batches run place (pull session count) batches is = ap length is
own_batches run place publish batches is = ap length is.1
own_batches run place round batches is = ap length is
own_batches run place (check iface addr) batches is = ap length is
own_batches run place (change edit) batches is = ap length is
own_batches run place summary batches is = ap length is

pub batch_count : (run : Run) (steps : List Step) (place : Place) (batches : List Batch)
    → AreBatches run place steps batches → length batches ≡ mark_count steps
batch_count run [] place batches are = ap length are
batch_count run (step ∷ steps) place batches are =
    let (own, later, parts, is, rest) = are in
    let one = own_batches run place step own is in
    let more = batch_count run steps (next_place run.inputs step place) later rest in
    let both : length batches ≡ length own + length later = ap length parts ∙ length-append own later in
    omega (arith, one, more, both)

-- a mark has the next number
own_number : (inputs : List Input) (step : Step) (place : Place)
    → (next_place inputs step place).mark.number ≡ place.mark.number + marks_by step
own_number inputs (pull session count) place = omega arith
own_number inputs publish place = refl
own_number inputs round place = omega arith
own_number inputs (check iface addr) place = omega arith
own_number inputs (change edit) place = omega arith
own_number inputs summary place = omega arith

pub number_after : (inputs : List Input) (steps : List Step) (place : Place)
    → (place_after inputs steps place).mark.number ≡ place.mark.number + mark_count steps
number_after inputs [] place = omega arith
number_after inputs (step ∷ steps) place =
    let more = number_after inputs steps (next_place inputs step place) in
    let one = own_number inputs step place in
    omega (arith, more, one)

-- where some first steps end no round, their marks come before the next round's end
pub last-quiet : (first later : List Step) (r : ℕ) → round_count first ≡ 0
    → last_of (first ++ later) (suc r) ≡ mark_count first + last_of later (suc r)
last-quiet [] later r none = omega arith
last-quiet (pull session count ∷ first) later r none =
    let more = last-quiet first later r (omega (arith, none)) in omega (arith, more)
last-quiet (publish ∷ first) later r none =
    let more = last-quiet first later r (omega (arith, none)) in omega (arith, more)
last-quiet (round ∷ first) later r none = absurd (omega (arith, none))
last-quiet (check iface addr ∷ first) later r none =
    let more = last-quiet first later r (omega (arith, none)) in omega (arith, more)
last-quiet (change edit ∷ first) later r none =
    let more = last-quiet first later r (omega (arith, none)) in omega (arith, more)
last-quiet (summary ∷ first) later r none =
    let more = last-quiet first later r (omega (arith, none)) in omega (arith, more)

-- the last numbers of the rounds behind some first steps that end one round
pub last-round : (first later : List Step) (r : ℕ) → round_count first ≡ 0
    → last_of (first ++ round ∷ later) (suc r) ≡ mark_count first + last_of later r
last-round first later r none = last-quiet first (round ∷ later) r none

-- the last number of the rounds of some first steps is that of those alone
pub last-first : (first later : List Step) (r : ℕ) → r ≤ round_count first → last_of (first ++ later) r ≡ last_of first r
last-first first later zero most = refl
last-first [] later (suc r) most = absurd (omega (arith, most))
last-first (pull session count ∷ first) later (suc r) most = last-first first later (suc r) (omega (arith, most))
last-first (publish ∷ first) later (suc r) most =
    ap (λ (n : ℕ). suc n) (last-first first later (suc r) (omega (arith, most)))
last-first (round ∷ first) later (suc r) most = last-first first later r (omega (arith, most))
last-first (check iface addr ∷ first) later (suc r) most = last-first first later (suc r) (omega (arith, most))
last-first (change edit ∷ first) later (suc r) most = last-first first later (suc r) (omega (arith, most))
last-first (summary ∷ first) later (suc r) most = last-first first later (suc r) (omega (arith, most))

-- behind the rounds of steps the last number is that of all their marks
pub last-behind : (steps : List Step) (r : ℕ) → round_count steps ≤ r → last_of steps (suc r) ≡ mark_count steps
last-behind [] r less = refl
last-behind (pull session count ∷ steps) r less =
    let more = last-behind steps r (omega (arith, less)) in omega (arith, more)
last-behind (publish ∷ steps) r less = let more = last-behind steps r (omega (arith, less)) in omega (arith, more)
last-behind (round ∷ steps) zero less = absurd (omega (arith, less))
last-behind (round ∷ steps) (suc r) less =
    let more = last-behind steps r (omega (arith, less)) in omega (arith, more)
last-behind (check iface addr ∷ steps) r less =
    let more = last-behind steps r (omega (arith, less)) in omega (arith, more)
last-behind (change edit ∷ steps) r less =
    let more = last-behind steps r (omega (arith, less)) in omega (arith, more)
last-behind (summary ∷ steps) r less = let more = last-behind steps r (omega (arith, less)) in omega (arith, more)

-- no last number is above that of all marks
pub last_most : (steps : List Step) (r : ℕ) → last_of steps r ≤ mark_count steps
last_most steps zero = omega arith
last_most [] (suc r) = omega arith
last_most (pull session count ∷ steps) (suc r) = let more = last_most steps (suc r) in omega (arith, more)
last_most (publish ∷ steps) (suc r) = let more = last_most steps (suc r) in omega (arith, more)
last_most (round ∷ steps) (suc r) = let more = last_most steps r in omega (arith, more)
last_most (check iface addr ∷ steps) (suc r) = let more = last_most steps (suc r) in omega (arith, more)
last_most (change edit ∷ steps) (suc r) = let more = last_most steps (suc r) in omega (arith, more)
last_most (summary ∷ steps) (suc r) = let more = last_most steps (suc r) in omega (arith, more)

-- steps and the end of their next round: its last number is that of their marks
pub last_ends : (first : List Step) (r : ℕ) → r ≡ round_count first
    → last_of (first ++ round ∷ []) (suc r) ≡ mark_count first
last_ends [] r is = ap (λ (n : ℕ). last_of [] n) is
last_ends (pull session count ∷ first) r is =
    let more = last_ends first r (omega (arith, is)) in omega (arith, more)
last_ends (publish ∷ first) r is = let more = last_ends first r (omega (arith, is)) in omega (arith, more)
last_ends (round ∷ first) zero is = absurd (omega (arith, is))
last_ends (round ∷ first) (suc r) is = let more = last_ends first r (omega (arith, is)) in omega (arith, more)
last_ends (check iface addr ∷ first) r is =
    let more = last_ends first r (omega (arith, is)) in omega (arith, more)
last_ends (change edit ∷ first) r is = let more = last_ends first r (omega (arith, is)) in omega (arith, more)
last_ends (summary ∷ first) r is = let more = last_ends first r (omega (arith, is)) in omega (arith, more)
