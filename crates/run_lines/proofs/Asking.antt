-- How far its pulls bring one session, and what they ask for.
use Rattle.std.proofs.Common.{◌≡◌, ◌≢◌, ℕ, ◌+◌, ◌-◌, ◌<◌, ◌≤◌, Bool, true, false, List, [], ◌∷◌, ◌++◌, length, map}
use Rattle.std.proofs.Common.{Option}
use Rattle.std.proofs.Common.{Some, None, refl, sym, ap, subst, ◌∙◌, arith, inl, inr, zero, suc}
use Rattle.std.specs.Prelude.{get_or, if◌then◌else◌, nat_lt, slice_get, ◌==◌, ◌||◌}
use Rattle.std.proofs.lemmas.Bool.Decides.{nat_tests}
use Rattle.std.proofs.lemmas.Grind.{get_or-set_at}
use Rattle.std.proofs.lemmas.List.{get_or-set_other, length-map, length-set}
use Rattle.urpf_base.specs.declared.sessions.SessionConfig.{SessionConfig}
use Rattle.control_core.specs.Pulls.{asks_more}
use Rattle.run_lines.specs.Inputs.{Input, total}
use Rattle.run_lines.specs.Limits.{AsksPast, asked_of}
use Rattle.run_lines.specs.Places.{Place, Reached, next_place, not_begun, opening, place_after, pulled, pulled_of}
use Rattle.run_lines.specs.Places.{reached_at}
use Rattle.run_lines.specs.Steps.{Step, pull, publish, round, check, change, summary}
use Rattle.run_lines.proofs.Leading.{below_is, below_not, or_true}

-- how far a session of so many items is after pulls that ask for so many each
abbrev pub reached_after : ℕ → List (Option ℕ) → Reached → Reached
reached_after total [] at = at
reached_after total (count ∷ counts) at = reached_after total counts (pulled total count at)

-- once the end was met, it stays so
ended_stays : (total : ℕ) (counts : List (Option ℕ)) (at : Reached) → at.ended ≡ true
    → (reached_after total counts at).ended ≡ true
ended_stays total [] at is = is
ended_stays total (None ∷ counts) at is = ended_stays total counts (pulled total None at) refl
ended_stays total (Some count ∷ counts) at is =
    ended_stays total counts (pulled total (Some count) at)
    (ap (λ (b : Bool). b || nat_lt total (at.taken + count)) is)

-- a pull that did not meet the end took all that it asked for
took_all : (total count : ℕ) (counts : List (Option ℕ)) (at : Reached)
    → (reached_after total counts (pulled total (Some count) at)).ended ≡ false
    → (pulled total (Some count) at).taken ≡ at.taken + count
took_all total count counts at unmet = by_test (nat_lt total (at.taken + count)) refl
  where
    by_test : (b : Bool) → nat_lt total (at.taken + count) ≡ b → (pulled total (Some count) at).taken ≡ at.taken + count
    by_test true is =
        let met : (pulled total (Some count) at).ended ≡ true = ap (λ (b : Bool). at.ended || b) is ∙ or_true at.ended
        in
        let clash : true ≡ false = sym (ended_stays total counts (pulled total (Some count) at) met) ∙ unmet in cc
    by_test false is = omega (arith, below_not total (at.taken + count) is)

-- a pull of all meets the end
met_none : (total : ℕ) (counts : List (Option ℕ)) (at : Reached)
    → (reached_after total counts (pulled total None at)).ended ≡ false → ⊥
met_none total counts at unmet =
    let clash : true ≡ false = sym (ended_stays total counts (pulled total None at) refl) ∙ unmet in cc

-- where no pull met the end, none took items back
taken_grows : (total : ℕ) (counts : List (Option ℕ)) (at : Reached) → (reached_after total counts at).ended ≡ false
    → at.taken ≤ (reached_after total counts at).taken
taken_grows total [] at unmet = omega arith
taken_grows total (None ∷ counts) at unmet = absurd (met_none total counts at unmet)
taken_grows total (Some count ∷ counts) at unmet =
    omega (arith, took_all total count counts at unmet, taken_grows total counts (pulled total (Some count) at) unmet)

-- what later pulls ask for past some items, all pulls ask for
asks_on : (total : ℕ) (counts more : List (Option ℕ)) (at : Reached) (items : ℕ)
    → (reached_after total counts at).ended ≡ false → AsksPast more (items - (reached_after total counts at).taken)
    → AsksPast (counts ++ more) (items - at.taken)
asks_on total [] more at items unmet asks = asks
asks_on total (None ∷ counts) more at items unmet asks = tt
asks_on total (Some count ∷ counts) more at items unmet asks =
    let took = took_all total count counts at unmet in
    let same : items - (pulled total (Some count) at).taken ≡ (items - at.taken) - count = omega (arith, took) in
    inr (subst (λ (n : ℕ). AsksPast (counts ++ more) n) same
    (asks_on total counts more (pulled total (Some count) at) items unmet asks))

-- pulls that took all that they ask for ask for no more
pub asks_none : (total : ℕ) (counts : List (Option ℕ)) (at : Reached) (items : ℕ)
    → (reached_after total counts at).ended ≡ false → (reached_after total counts at).taken ≤ items
    → AsksPast counts (items - at.taken) → ⊥
asks_none total [] at items unmet upto asks = asks
asks_none total (None ∷ counts) at items unmet upto asks = met_none total counts at unmet
asks_none total (Some count ∷ counts) at items unmet upto (inl less) =
    let took = took_all total count counts at unmet in
    let grows = taken_grows total counts (pulled total (Some count) at) unmet in
    omega (arith, took, grows, less, upto)
asks_none total (Some count ∷ counts) at items unmet upto (inr asks) =
    let took = took_all total count counts at unmet in
    let same : (items - at.taken) - count ≡ items - (pulled total (Some count) at).taken = omega (arith, took) in
    asks_none total counts (pulled total (Some count) at) items unmet upto
    (subst (λ (n : ℕ). AsksPast counts n) same asks)

-- a pull that asks for more than some items asks past them, whatever pulls follow
asks_first : (count : Option ℕ) (counts : List (Option ℕ)) (items : ℕ) → asks_more count items ≡ true
    → AsksPast (count ∷ counts) items
asks_first None counts items asks = tt
asks_first (Some count) counts items asks = inl (below_is items count asks)

-- what the pull at a place asks for past some items, all pulls ask for
pub asks_here : (total : ℕ) (counts later : List (Option ℕ)) (count : Option ℕ) (items : ℕ)
    → (reached_after total counts not_begun).ended ≡ false
    → asks_more count (items - (reached_after total counts not_begun).taken) ≡ true
    → AsksPast (counts ++ count ∷ later) items
asks_here total counts later count items unmet asks =
    subst (λ (n : ℕ). AsksPast (counts ++ count ∷ later) n) (omega arith)
    (asks_on total counts (count ∷ later) not_begun items unmet
    (asks_first count later (items - (reached_after total counts not_begun).taken) asks))

-- counts in front stay in front, with one more of them or without it
same_if : (b : Bool) (count : Option ℕ) (counts more : List (Option ℕ))
    → (if b then count ∷ (counts ++ more) else counts ++ more) ≡ (if b then count ∷ counts else counts) ++ more
same_if true count counts more = refl
same_if false count counts more = refl

-- the pulls of a session in some steps, and then those in later ones
pub asked_of-append : (s : ℕ) (steps later : List Step)
    → asked_of s (steps ++ later) ≡ asked_of s steps ++ asked_of s later
asked_of-append s [] later = refl
asked_of-append s (pull other count ∷ steps) later =
    ap (λ (counts : List (Option ℕ)). if other == s then count ∷ counts else counts) (asked_of-append s steps later)
    ∙ same_if (other == s) count (asked_of s steps) (asked_of s later)
asked_of-append s (publish ∷ steps) later = asked_of-append s steps later
asked_of-append s (round ∷ steps) later = asked_of-append s steps later
asked_of-append s (check iface addr ∷ steps) later = asked_of-append s steps later
asked_of-append s (change edit ∷ steps) later = asked_of-append s steps later
asked_of-append s (summary ∷ steps) later = asked_of-append s steps later

-- a pull of a session is one of its pulls
pub asked_of-pull : (s : ℕ) (count : Option ℕ) (later : List Step)
    → asked_of s (pull s count ∷ later) ≡ count ∷ asked_of s later
asked_of-pull s count later = ap (λ (b : Bool). if b then count ∷ asked_of s later else asked_of s later) (itself s)
  where
    itself : (n : ℕ) → (n == n) ≡ true
    itself n = grind (arith, nat_tests)

-- a pull brings on the session that it names, and no other
pull_reached : (inputs : List Input) (other : ℕ) (count : Option ℕ) (place : Place) (s : ℕ) (input : Input)
    (counts : List (Option ℕ)) (b : Bool) → (other == s) ≡ b → slice_get inputs s ≡ Some input
    → s < length place.sessions
    → reached_after (total input) counts (reached_at (next_place inputs (pull other count) place) s)
    ≡ reached_after (total input) (if b then count ∷ counts else counts) (reached_at place s)
pull_reached inputs other count place s input counts true is there within =
    let same : s ≡ other = grind (arith, nat_tests) in
    ap (reached_after (total input) counts)
    (get_or-set_at place.sessions other s
    (pulled_of (slice_get inputs other) count (reached_at place other)) not_begun same (omega (arith, same, within))
    ∙ ap (λ (k : ℕ). pulled_of (slice_get inputs k) count (reached_at place k)) (sym same)
    ∙ ap (λ (i : Option Input). pulled_of i count (reached_at place s)) there)
pull_reached inputs other count place s input counts false is there within =
    let differ : s ≢ other = grind (arith, nat_tests) in
    ap (reached_after (total input) counts)
    (get_or-set_other place.sessions other s
    (pulled_of (slice_get inputs other) count (reached_at place other)) not_begun differ)

-- at a place a session is where its pulls bring it
place_reached : (inputs : List Input) (steps : List Step) (place : Place) (s : ℕ) (input : Input)
    → slice_get inputs s ≡ Some input → s < length place.sessions
    → reached_at (place_after inputs steps place) s
    ≡ reached_after (total input) (asked_of s steps) (reached_at place s)
place_reached inputs [] place s input there within = refl
place_reached inputs (pull other count ∷ steps) place s input there within =
    let long =
    length-set place.sessions other (pulled_of (slice_get inputs other) count (reached_at place other)) in
    place_reached inputs steps (next_place inputs (pull other count) place) s input there (omega (arith, within, long))
    ∙ pull_reached inputs other count place s input (asked_of s steps) (other == s) refl there within
place_reached inputs (publish ∷ steps) place s input there within =
    place_reached inputs steps (next_place inputs publish place) s input there within
place_reached inputs (round ∷ steps) place s input there within =
    place_reached inputs steps (next_place inputs round place) s input there within
place_reached inputs (check iface addr ∷ steps) place s input there within =
    place_reached inputs steps place s input there within
place_reached inputs (change edit ∷ steps) place s input there within =
    place_reached inputs steps (next_place inputs (change edit) place) s input there within
place_reached inputs (summary ∷ steps) place s input there within =
    place_reached inputs steps place s input there within

-- no session has begun at the opening
none_begun : (sessions : List SessionConfig) (s : ℕ)
    → get_or (map (λ (c : SessionConfig). not_begun) sessions) s not_begun ≡ not_begun
none_begun [] s = refl
none_begun (c ∷ sessions) zero = refl
none_begun (c ∷ sessions) (suc s) = none_begun sessions s

-- after steps from the opening a session is where its pulls bring it
pub session_reached : (inputs : List Input) (sessions : List SessionConfig) (steps : List Step) (s : ℕ)
    (input : Input) → slice_get inputs s ≡ Some input → s < length sessions
    → reached_at (place_after inputs steps (opening sessions)) s
    ≡ reached_after (total input) (asked_of s steps) not_begun
session_reached inputs sessions steps s input there within =
    place_reached inputs steps (opening sessions) s input there
    (omega (arith, within, length-map sessions (λ (c : SessionConfig). not_begun)))
    ∙ ap (reached_after (total input) (asked_of s steps)) (none_begun sessions s)
