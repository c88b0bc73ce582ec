-- What the batches of steps leave judges as the world of the last mark does, at each place of a run.
use Rattle.std.proofs.Common.{◌≡◌, ℕ, zero, suc, ◌+◌, ◌≤◌, List, [], ◌∷◌, ◌++◌, length, map, take, Option}
use Rattle.std.proofs.Common.{refl, sym, ap, subst, ◌∙◌, arith, inl, inr}
use Rattle.std.proofs.lemmas.List.{length-append, take-append-le}
use Rattle.urpf_base.specs.Address.{Block}
use Rattle.urpf_base.specs.declared.address.Addr.{Addr}
use Rattle.urpf_base.specs.declared.kinds.Kind.{Kind}
use Rattle.urpf_base.specs.declared.sessions.SessionConfig.{SessionConfig}
use Rattle.origin_pairs.specs.Pairs.{IsPairSet}
use Rattle.origin_pairs.proofs.Sets.{some_set}
use Rattle.rpf_plain.specs.Cells.{IsCell, cell_at}
use Rattle.rpf_plain.specs.Modes.{IsVerdict}
use Rattle.rpf_plain.specs.World.{World, roles_of, world_for}
use Rattle.rpf_plain.specs.declared.rows.Row.{Row}
use Rattle.rpf_plain.proofs.Alike.{same_members}
use Rattle.rpf_plain.proofs.Drained.{no_rows}
use Rattle.cover_table.specs.Judging.{judge}
use Rattle.cover_table.specs.Snapshots as snapshots
use Rattle.cover_table.specs.Snapshots.{Publication, after, step}
use Rattle.cover_table.specs.declared.batch.Batch.{Batch}
use Rattle.router_config.specs.declared.edits.Edit.{Edit}
use Rattle.control_core.specs.Batches.{Mark}
use Rattle.control_core.specs.Worlds.{Course, IsRowOfAny, Position, kinds_after, pairs_after}
use Rattle.control_core.proofs.BatchWorlds.{cell_then, verdict_of}
use Rattle.run_lines.specs.Inputs.{Run, courses_of, pairs_in}
use Rattle.run_lines.specs.Places.{Place, next_place, opening, place_after}
use Rattle.run_lines.specs.Publications.{AreBatches, IsBatchAt}
use Rattle.run_lines.specs.RunText.{IsWorldOf}
use Rattle.run_lines.specs.Steps as steps
use Rattle.run_lines.specs.Steps.{Step}

-- a publication shows the last mark of a run at a place: it has the number, the kinds and the cells of its world
pub record StandsAt (run : Run) (place : Place) (shown : Publication) : Type 0 where
  pub world : World
  pub is : IsWorldOf run place place.mark shown.kinds world
  pub cells : (p : Block) → IsCell world p (cell_at shown.cells p)
  pub number : shown.number ≡ place.mark.number
  pub within : place.mark.edits ≤ length place.edits

-- ---- at the opening

no_items : (courses : List Course) (sessions : List SessionConfig) (row : Row)
    → IsRowOfAny courses (map (λ s. 0) sessions) row → ⊥
no_items [] sessions row is = is
no_items (course ∷ courses) [] row is = is
no_items (course ∷ courses) (s ∷ sessions) row (inl is) = is.1
no_items (course ∷ courses) (s ∷ sessions) row (inr is) = no_items courses sessions row is

pub stands_opening : (run : Run)
    → StandsAt run (opening run.config.sessions) (snapshots.opening run.config.interfaces)
stands_opening run =
    let (pairs, set) = some_set (pairs_in run.table) in
    record {
      world = world_for run.config.interfaces [] pairs;
      is = record {
        edited = refl;
        roles = refl;
        pairs = set;
        rows = λ row. (λ h. absurd h, λ is. absurd (no_items (courses_of run) run.config.sessions row is));
      };
      cells = (no_rows (roles_of run.config.interfaces) pairs).cells;
      number = refl;
      within = omega arith;
    }

-- ---- behind a publication

module _ (run : Run) (place : Place) (mark : Position) (kinds others : List (ℕ × Kind)) (v w : World)
    (was : IsWorldOf run place mark kinds v) (is : IsWorldOf run place mark others w) where
  -- the worlds of one mark have the same cells
  same_cell : (p : Block) → (c : _) → IsCell v p c → IsCell w p c
  same_cell =
      same_members v w (λ r. (λ h. (is.rows r).1 ((was.rows r).0 h), λ h. (was.rows r).1 ((is.rows r).0 h)))
      (was.roles ∙ ap roles_of (was.edited ∙ sym is.edited) ∙ sym is.roles)
      (λ p. (
        λ h. (is.pairs.members p).1 ((was.pairs.members p).0 h),
        λ h. (was.pairs.members p).1 ((is.pairs.members p).0 h),
      ))

pub stands_published : (run : Run) (place : Place) (shown : Publication) (batch : Batch) → StandsAt run place shown
    → IsBatchAt run place batch → StandsAt run (next_place run.inputs steps.publish place) (step shown batch)
stands_published run place shown batch stands is = record {
  world = is.new;
  is = is.is;
  cells = λ p. cell_then is.old is.new shown.cells batch.changes p
      (same_cell run place place.mark shown.kinds is.old_kinds stands.world is.old stands.is is.was p
      (cell_at shown.cells p) (stands.cells p))
      is.difference;
  number = is.number;
  within = omega arith;
}

-- ---- behind other steps

pub stands_changed : (run : Run) (place : Place) (shown : Publication) (edit : Edit) → StandsAt run place shown
    → StandsAt run (next_place run.inputs (steps.change edit) place) shown
stands_changed run place shown edit stands =
    let same : take place.mark.edits (place.edits ++ edit ∷ []) ≡ take place.mark.edits place.edits =
    take-append-le place.mark.edits place.edits (edit ∷ []) stands.within in
    let longer : length (place.edits ++ edit ∷ []) ≡ length place.edits + 1 =
    length-append place.edits (edit ∷ []) in
    record {
      world = stands.world;
      is = record {
        edited = stands.is.edited ∙ sym (ap (λ es. kinds_after es run.config.interfaces) same);
        roles = stands.is.roles;
        pairs = subst (λ (es : List Edit). IsPairSet (pairs_after es (pairs_in run.table)) stands.world.pairs) (sym same)
            stands.is.pairs;
        rows = stands.is.rows;
      };
      cells = stands.cells;
      number = stands.number;
      within = omega (arith, stands.within, longer);
    }

-- ---- what it judges

-- the verdicts of what shows a mark are those of its world
pub verdict_at : (run : Run) (place : Place) (shown : Publication) (stands : StandsAt run place shown) (iface : ℕ)
    (source : Option Addr)
    → IsVerdict shown.kinds stands.world.rows stands.world.pairs iface source (judge shown iface source)
verdict_at run place shown stands iface source =
    let mark : Mark = record { kinds = shown.kinds; rows = stands.world.rows; pairs = stands.world.pairs } in
    let w : World = world_for shown.kinds stands.world.rows stands.world.pairs in
    let same : stands.world ≡ w = λ i. record {
      rows = stands.world.rows;
      roles = stands.is.roles i;
      pairs = stands.world.pairs;
    } in
    verdict_of mark shown
    (record {
      kinds = refl;
      cells = λ p. subst (λ (v : World). IsCell v p (cell_at shown.cells p)) same (stands.cells p);
    })
    iface source

-- ---- all batches of steps

-- some first steps, behind which so many of the batches are published
pub record FirstSteps (run : Run) (steps : List Step) (place : Place) (shown : Publication) (batches : List Batch)
    (count : ℕ) : Type 0 where
  pub before : List Step
  pub later : List Step
  pub parts : steps ≡ before ++ later
  pub numbered : (place_after run.inputs before place).mark.number ≡ place.mark.number + count
  pub stands : StandsAt run (place_after run.inputs before place) (after shown (take count batches))

one_more : (run : Run) (step : Step) (steps : List Step) (place : Place) (shown : Publication) (batches : List Batch)
    (count : ℕ) → (next_place run.inputs step place).mark.number ≡ place.mark.number
    → FirstSteps run steps (next_place run.inputs step place) shown batches count
    → FirstSteps run (step ∷ steps) place shown batches count
one_more run step steps place shown batches count same first = record {
  before = step ∷ first.before;
  later = first.later;
  parts = ap (λ (ss : List Step). step ∷ ss) first.parts;
  numbered = first.numbered ∙ ap (λ (n : ℕ). n + count) same;
  stands = first.stands;
}

none_yet : (run : Run) (steps : List Step) (place : Place) (shown : Publication) (batches : List Batch)
    → StandsAt run place shown → FirstSteps run steps place shown batches 0
none_yet run steps place shown batches stands = record {
  before = [];
  later = steps;
  parts = refl;
  numbered = omega arith;
  stands = stands;
}

-- each number of batches is published behind some first steps
pub first_steps : (run : Run) (steps : List Step) (place : Place) (shown : Publication) (batches : List Batch)
    (count : ℕ) → StandsAt run place shown → AreBatches run place steps batches → count ≤ length batches
    → FirstSteps run steps place shown batches count
first_steps run ss place shown batches zero stands are most = none_yet run ss place shown batches stands
first_steps run [] place shown batches (suc count) stands are most =
    let none : length batches ≡ 0 = ap length are in absurd (omega (arith, most, none))
first_steps run (steps.publish ∷ ss) place shown batches (suc count) stands are most =
    let (own, later, parts, (batch, one, is), rest) = are in
    let same : batches ≡ batch ∷ later = parts ∙ ap (λ (bs : List Batch). bs ++ later) one in
    let longer : length batches ≡ suc (length later) = ap length same in
    let first = first_steps run ss (next_place run.inputs steps.publish place) (step shown batch) later count
    (stands_published run place shown batch stands is) rest (omega (arith, most, longer)) in
    subst (λ (bs : List Batch). FirstSteps run (steps.publish ∷ ss) place shown bs (suc count)) (sym same)
    (record {
      before = steps.publish ∷ first.before;
      later = first.later;
      parts = ap (λ (xs : List Step). steps.publish ∷ xs) first.parts;
      numbered = let n = first.numbered in omega (arith, n);
      stands = first.stands;
    })
first_steps run (steps.pull session n ∷ ss) place shown batches (suc count) stands are most =
    let (own, later, parts, none, rest) = are in
    let same : batches ≡ later = parts ∙ ap (λ (bs : List Batch). bs ++ later) none in
    one_more run (steps.pull session n) ss place shown batches (suc count) refl
    (first_steps run ss (next_place run.inputs (steps.pull session n) place) shown batches (suc count)
    (record {
      world = stands.world;
      is = stands.is;
      cells = stands.cells;
      number = stands.number;
      within = stands.within;
    })
    (subst (AreBatches run (next_place run.inputs (steps.pull session n) place) ss) (sym same) rest) most)
first_steps run (steps.round ∷ ss) place shown batches (suc count) stands are most =
    let (own, later, parts, none, rest) = are in
    let same : batches ≡ later = parts ∙ ap (λ (bs : List Batch). bs ++ later) none in
    one_more run steps.round ss place shown batches (suc count) refl
    (first_steps run ss (next_place run.inputs steps.round place) shown batches (suc count)
    (record {
      world = stands.world;
      is = stands.is;
      cells = stands.cells;
      number = stands.number;
      within = stands.within;
    })
    (subst (AreBatches run (next_place run.inputs steps.round place) ss) (sym same) rest) most)
first_steps run (steps.check iface addr ∷ ss) place shown batches (suc count) stands are most =
    let (own, later, parts, none, rest) = are in
    let same : batches ≡ later = parts ∙ ap (λ (bs : List Batch). bs ++ later) none in
    one_more run (steps.check iface addr) ss place shown batches (suc count) refl
    (first_steps run ss place shown batches (suc count) stands
    (subst (AreBatches run place ss) (sym same) rest) most)
first_steps run (steps.change edit ∷ ss) place shown batches (suc count) stands are most =
    let (own, later, parts, none, rest) = are in
    let same : batches ≡ later = parts ∙ ap (λ (bs : List Batch). bs ++ later) none in
    one_more run (steps.change edit) ss place shown batches (suc count) refl
    (first_steps run ss (next_place run.inputs (steps.change edit) place) shown batches (suc count)
    (stands_changed run place shown edit stands)
    (subst (AreBatches run (next_place run.inputs (steps.change edit) place) ss) (sym same) rest) most)
first_steps run (steps.summary ∷ ss) place shown batches (suc count) stands are most =
    let (own, later, parts, none, rest) = are in
    let same : batches ≡ later = parts ∙ ap (λ (bs : List Batch). bs ++ later) none in
    one_more run steps.summary ss place shown batches (suc count) refl
    (first_steps run ss place shown batches (suc count) stands
    (subst (AreBatches run place ss) (sym same) rest) most)
