-- Runs whose sessions have the same effects and leave as many octets write the same, whatever events they came of.
use Rattle.std.proofs.Common.{◌≡◌, ◌↔◌, inl, inr, ℕ, zero, suc, List, [], ◌∷◌, ◌++◌, length, map, take, drop}
use Rattle.std.proofs.Common.{slice_get, Option, Some, None, refl, sym, ap, subst, ◌∙◌}
use Rattle.std.specs.Prelude.{not, ◌&&◌, if◌then◌else◌, slice_set}
use Rattle.std.specs.List.{AllZip}
use Rattle.urpf_base.specs.Address.{Block}
use Rattle.urpf_base.specs.Lists.{Has}
use Rattle.urpf_base.specs.declared.cells.Cell.{Cell}
use Rattle.urpf_base.specs.declared.kinds.Kind.{Kind}
use Rattle.origin_pairs.specs.Pairs.{AreSamePairs}
use Rattle.roa_irr.specs.Tables.{Table}
use Rattle.router_config.specs.Settings.{Settings}
use Rattle.rpf_plain.specs.Cells.{IsCell}
use Rattle.rpf_plain.specs.World.{World, roles_of}
use Rattle.rpf_plain.specs.declared.rows.Row.{Row}
use Rattle.rpf_plain.proofs.Alike.{same_members}
use Rattle.report_text.specs.Lines.{end_line}
use Rattle.session_fsm.specs.declared.items.Effect.{Effect}
use Rattle.control_core.specs.Effects.{Holds}
use Rattle.control_core.specs.Pulls.{reset_lines}
use Rattle.control_core.specs.Worlds.{IsRowOfAny, Position, kinds_after, pairs_after}
use Rattle.run_lines.specs.Inputs.{Input, Run, pairs_in}
use Rattle.run_lines.specs.Places.{Place, Reached, next_place, place_after, pulled, pulled_of, reached_at}
use Rattle.run_lines.specs.RunText.{IsWorldOf, pull_text_of}
use Rattle.run_lines.specs.Steps.{Step, pull, publish, round, check, change, summary}

-- two sessions are configured alike, have the same effects, and leave as many octets
pub record AreAlike (one other : Input) : Type 0 where
  pub config : one.course.config ≡ other.course.config
  pub effects : one.course.effects ≡ other.course.effects
  pub rest : one.rest ≡ other.rest

-- two runs are configured alike, begin with the same pairs, and their sessions are alike
pub record RunsAlike (run other : Run) : Type 0 where
  pub config : run.config ≡ other.config
  pub table : run.table ≡ other.table
  pub inputs : AllZip AreAlike run.inputs other.inputs

-- a run is like itself
all_alike : (inputs : List Input) → AllZip AreAlike inputs inputs
all_alike [] = tt
all_alike (input ∷ inputs) = (record { config = refl; effects = refl; rest = refl }, all_alike inputs)

pub itself : (run : Run) → RunsAlike run run
itself run = record { config = refl; table = refl; inputs = all_alike run.inputs }

alike_back : (xs ys : List Input) → AllZip AreAlike xs ys → AllZip AreAlike ys xs
alike_back [] [] alike = tt
alike_back [] (y ∷ ys) alike = absurd alike
alike_back (x ∷ xs) [] alike = absurd alike
alike_back (x ∷ xs) (y ∷ ys) alike = (
  record { config = sym alike.0.config; effects = sym alike.0.effects; rest = sym alike.0.rest },
  alike_back xs ys alike.1,
)

-- they have the same rows
rows_alike : (xs ys : List Input) → AllZip AreAlike xs ys → (counts : List ℕ) (r : Row)
    → IsRowOfAny (map (λ (i : Input). i.course) xs) counts r → IsRowOfAny (map (λ (i : Input). i.course) ys) counts r
rows_alike [] [] alike counts r is = is
rows_alike [] (y ∷ ys) alike counts r is = absurd alike
rows_alike (x ∷ xs) [] alike counts r is = absurd alike
rows_alike (x ∷ xs) (y ∷ ys) alike [] r is = is
rows_alike (x ∷ xs) (y ∷ ys) alike (count ∷ counts) r (inl own) =
    inl (
      own.0 ∙ ap (λ c. c.iface) alike.0.config,
      subst (λ (es : List Effect). Holds (take count es) r.prefix r.origin) alike.0.effects own.1,
    )
rows_alike (x ∷ xs) (y ∷ ys) alike (count ∷ counts) r (inr others) =
    inr (rows_alike xs ys alike.1 counts r others)

module _ (run other : Run) (alike : RunsAlike run other) (place : Place) (mark : Position)
    (kinds others : List (ℕ × Kind)) (v w : World) (was : IsWorldOf run place mark kinds v)
    (is : IsWorldOf other place mark others w) where
  -- the kinds of one mark
  pub same_kinds : kinds ≡ others
  same_kinds =
      was.edited ∙ ap (λ (c : Settings). kinds_after (take mark.edits place.edits) c.interfaces) alike.config
      ∙ sym is.edited

  -- the rows of one mark
  pub same_rows : (r : Row) → Has v.rows r ↔ Has w.rows r
  same_rows r = (
    λ h. (is.rows r).1 (rows_alike run.inputs other.inputs alike.inputs mark.items r ((was.rows r).0 h)),
    λ h. (was.rows r).1 (rows_alike other.inputs run.inputs (alike_back run.inputs other.inputs alike.inputs) mark.items
        r ((is.rows r).0 h)),
  )

  -- the pairs of one mark
  pub same_pairs : AreSamePairs v.pairs w.pairs
  same_pairs p =
      let told = subst (λ (t : Option Table). Has v.pairs p ↔ Has (pairs_after (take mark.edits place.edits)
      (pairs_in t)) p)
      alike.table (was.pairs.members p) in
      let back = is.pairs.members p in (λ h. back.1 (told.0 h), λ h. told.1 (back.0 h))

  -- the cells of one mark
  pub same_cells : (p : Block) (c : Cell) → IsCell v p c ↔ IsCell w p c
  same_cells p c =
      let roles : v.roles ≡ w.roles = was.roles ∙ ap roles_of same_kinds ∙ sym is.roles in (
        same_members v w same_rows roles same_pairs p c,
        same_members w v (λ r. ((same_rows r).1, (same_rows r).0)) (sym roles)
            (λ q. ((same_pairs q).1, (same_pairs q).0)) p c,
      )

-- sessions that may not be there are alike
abbrev MayBeAlike : Option Input → Option Input → Type 0
MayBeAlike None None = Unit {0}
MayBeAlike None (Some y) = ⊥
MayBeAlike (Some x) None = ⊥
MayBeAlike (Some x) (Some y) = AreAlike x y

get_alike : (xs ys : List Input) (n : ℕ) → AllZip AreAlike xs ys → MayBeAlike (slice_get xs n) (slice_get ys n)
get_alike [] [] n alike = tt
get_alike [] (y ∷ ys) n alike = absurd alike
get_alike (x ∷ xs) [] n alike = absurd alike
get_alike (x ∷ xs) (y ∷ ys) zero alike = alike.0
get_alike (x ∷ xs) (y ∷ ys) (suc n) alike = get_alike xs ys n alike.1

-- what a pull writes, by the effects of a session and the octets that it leaves
abbrev text_by : ℕ → Option ℕ → Reached → List Effect → ℕ → List ℕ
text_by session count at effects rest =
    reset_lines session at.taken (drop at.taken (take (pulled (length effects) count at).taken effects))
    ++ (if not at.ended && (pulled (length effects) count at).ended then end_line session (length effects) rest else [])

pull_of_alike : (session : ℕ) (x y : Option Input) (count : Option ℕ) (at : Reached) → MayBeAlike x y
    → pull_text_of session x count at ≡ pull_text_of session y count at
pull_of_alike session None None count at alike = refl
pull_of_alike session None (Some y) count at alike = absurd alike
pull_of_alike session (Some x) None count at alike = absurd alike
pull_of_alike session (Some x) (Some y) count at alike =
    ap (λ (es : List Effect). text_by session count at es x.rest) alike.effects
    ∙ ap (text_by session count at y.course.effects) alike.rest

reached_of_alike : (x y : Option Input) (count : Option ℕ) (at : Reached) → MayBeAlike x y
    → pulled_of x count at ≡ pulled_of y count at
reached_of_alike None None count at alike = refl
reached_of_alike None (Some y) count at alike = absurd alike
reached_of_alike (Some x) None count at alike = absurd alike
reached_of_alike (Some x) (Some y) count at alike =
    ap (λ (es : List Effect). pulled (length es) count at) alike.effects

-- a pull writes the same
pub pull_alike : (run other : Run) → RunsAlike run other → (session : ℕ) (count : Option ℕ) (at : Reached)
    → pull_text_of session (slice_get run.inputs session) count at
    ≡ pull_text_of session (slice_get other.inputs session) count at
pull_alike run other alike session count at =
    pull_of_alike session (slice_get run.inputs session) (slice_get other.inputs session) count at
    (get_alike run.inputs other.inputs session alike.inputs)

-- a place where one session has come so far
abbrev with_session : Place → ℕ → Reached → Place
with_session place session at = record {
  sessions = slice_set place.sessions session at;
  edits = place.edits;
  rounds = place.rounds;
  mark = place.mark;
}

-- a step leads to the same place
pub next_alike : (run other : Run) → RunsAlike run other → (step : Step) (place : Place)
    → next_place run.inputs step place ≡ next_place other.inputs step place
next_alike run other alike (pull session count) place =
    ap (with_session place session)
    (reached_of_alike (slice_get run.inputs session) (slice_get other.inputs session) count (reached_at place session)
    (get_alike run.inputs other.inputs session alike.inputs))
next_alike run other alike publish place = refl
next_alike run other alike round place = refl
next_alike run other alike (check iface addr) place = refl
next_alike run other alike (change edit) place = refl
next_alike run other alike summary place = refl

-- and so do several
pub after_alike : (run other : Run) → RunsAlike run other → (steps : List Step) (place : Place)
    → place_after run.inputs steps place ≡ place_after other.inputs steps place
after_alike run other alike [] place = refl
after_alike run other alike (step ∷ steps) place =
    after_alike run other alike steps (next_place run.inputs step place)
    ∙ ap (place_after other.inputs steps) (next_alike run other alike step place)
