-- What a control stands for goes on with its calls.
use Rattle.std.proofs.Common.{◌≡◌, ℕ, ◌+◌, ◌≤◌, List, [], ◌∷◌, ◌++◌, length, take, Some, ◌↔◌}
use Rattle.std.proofs.Common.{refl, sym, ap, subst, ◌∙◌, arith, length-append}
use Rattle.std.proofs.lemmas.List.{take-append-le, take_all}
use Rattle.std.specs.Prelude.{slice_get, slice_set}
use Rattle.urpf_base.specs.Lists.{Has}
use Rattle.urpf_base.specs.declared.kinds.Kind.{Kind}
use Rattle.feed_io.specs.Events.{Event}
use Rattle.origin_pairs.specs.Pairs.{IsPairSet, Pair}
use Rattle.router_config.specs.Edits.{edited}
use Rattle.router_config.specs.declared.edits.Edit.{Edit}
use Rattle.rpf_plain.specs.Cells.{IsTable}
use Rattle.session_fsm.specs.declared.items.Effect.{Effect}
use Rattle.control_core.specs.Controls.{AllStand, AreAtMost, ControlStandsFor, goes_on, items_of, position_of}
use Rattle.control_core.specs.History.{StandsFor}
use Rattle.control_core.specs.Kept.{IsKept}
use Rattle.control_core.specs.States.{ControlState, PeerState}
use Rattle.control_core.specs.Worlds.{Course, IsWorldAt, Opening, kinds_after, pairs_after, pairs_edited}
use Rattle.control_core.proofs.Many.{at_most_set, configs_set, past_set, stand_at, stand_set}
use Rattle.control_core.proofs.NowWorld.{rows_now}

-- all but one session of a control is as it was
pub record GoesOn (session : ℕ) (peer later : PeerState) (old new : ControlState) : Type 0 where
  pub was : slice_get old.peers session ≡ Some peer
  pub peers : new.peers ≡ slice_set old.peers session later
  pub config : later.session.config ≡ peer.session.config
  pub more_items : peer.session.items ≤ later.session.items
  pub kinds : new.kinds ≡ old.kinds
  pub edits : new.edits ≡ old.edits
  pub marks : new.marks ≡ old.marks
  pub pairs : new.engine.world.pairs ≡ old.engine.world.pairs
  pub base : new.engine.base ≡ old.engine.base

-- the position of a control, by its parts
pub now_world : (opening : Opening) (edits : List Edit) (courses : List Course) (number : ℕ) (control : ControlState)
    → AllStand courses control.peers → IsKept control.peers control.kinds control.engine control.limits
    → control.kinds ≡ kinds_after (take control.edits edits) opening.settings.interfaces
    → IsPairSet (pairs_after (take control.edits edits) opening.pairs) control.engine.world.pairs
    → IsWorldAt opening edits courses (position_of control number) control.kinds control.engine.world
now_world opening edits courses number control stand kept kinds pairs = record {
  edited = kinds;
  roles = kept.roles;
  pairs = pairs;
  rows = λ row. rows_now courses control.peers control.kinds control.engine control.limits row stand kept;
}

-- one session took more items
pub stands_pulled : (opening : Opening) (edits : List Edit) (courses : List Course) (session : ℕ) (course : Course)
    (gave : List Event) (more : List Effect) (peer later : PeerState) (old new : ControlState)
    → ControlStandsFor opening edits courses old → GoesOn session peer later old new
    → IsKept new.peers new.kinds new.engine new.limits → slice_get courses session ≡ Some course
    → StandsFor (course.events ++ gave) (course.effects ++ more) later
    → ControlStandsFor opening edits (slice_set courses session (goes_on course gave more)) new
stands_pulled opening edits courses session course gave more peer later old new stands on kept got later_stands =
    let next : List Course = slice_set courses session (goes_on course gave more) in
    let own = stand_at courses old.peers session course peer stands.stand got on.was in
    let stand : AllStand next new.peers = subst (AllStand next) (sym on.peers)
    (stand_set courses old.peers session course later gave more stands.stand got (on.config ∙ own.0) later_stands) in
    let kinds : new.kinds ≡ kinds_after (take new.edits edits) opening.settings.interfaces =
    on.kinds ∙ stands.now.edited
    ∙ ap (λ (n : ℕ). kinds_after (take n edits) opening.settings.interfaces) (sym on.edits) in
    let pairs : IsPairSet (pairs_after (take new.edits edits) opening.pairs) new.engine.world.pairs =
    subst (IsPairSet (pairs_after (take new.edits edits) opening.pairs)) (sym on.pairs)
    (subst (λ (n : ℕ). IsPairSet (pairs_after (take n edits) opening.pairs) old.engine.world.pairs) (sym on.edits)
    stands.now.pairs) in
    record {
      sessions = configs_set courses session course gave more got ∙ stands.sessions;
      stand = stand;
      counted = on.edits ∙ stands.counted;
      earlier = stands.earlier;
      last = stands.last;
      marks = on.marks ∙ stands.marks;
      reached = record {
        edits = subst (λ (n : ℕ). stands.last.edits ≤ n) (sym on.edits) stands.reached.edits;
        items = subst (λ (ps : List PeerState). AreAtMost stands.last.items (items_of ps)) (sym on.peers)
            (at_most_set stands.last.items old.peers session peer later stands.reached.items on.was on.more_items);
      };
      now = now_world opening edits next stands.last.number new stand kept kinds pairs;
      marked_kinds = stands.marked_kinds;
      marked = stands.marked;
      is_marked = record {
        edited = stands.is_marked.edited;
        roles = stands.is_marked.roles;
        pairs = stands.is_marked.pairs;
        rows = λ row.
            subst (λ (T : Type 0). Has stands.marked.rows row ↔ T)
            (sym (past_set courses old.peers stands.last.items session course gave more row stands.stand
            stands.reached.items got)) (stands.is_marked.rows row);
      };
      base = subst (IsTable stands.marked) (sym on.base) stands.base;
    }

-- an edit behind others
pub kinds_after-push : (edits : List Edit) (edit : Edit) (kinds : List (ℕ × Kind))
    → kinds_after (edits ++ edit ∷ []) kinds ≡ edited edit (kinds_after edits kinds)
kinds_after-push [] edit kinds = refl
kinds_after-push (e ∷ edits) edit kinds = kinds_after-push edits edit (edited e kinds)

pub pairs_after-push : (edits : List Edit) (edit : Edit) (pairs : List Pair)
    → pairs_after (edits ++ edit ∷ []) pairs ≡ pairs_edited edit (pairs_after edits pairs)
pairs_after-push [] edit pairs = refl
pairs_after-push (e ∷ edits) edit pairs = pairs_after-push edits edit (pairs_edited e pairs)

-- the edits, the interfaces and the pairs of a control are one more edit on
pub record IsEdited (edit : Edit) (old new : ControlState) : Type 0 where
  pub kinds : new.kinds ≡ edited edit old.kinds
  pub edits : new.edits ≡ old.edits + 1
  pub peers : new.peers ≡ old.peers
  pub marks : new.marks ≡ old.marks
  pub pairs : (pairs : List Pair) → IsPairSet pairs old.engine.world.pairs
      → IsPairSet (pairs_edited edit pairs) new.engine.world.pairs
  pub base : new.engine.base ≡ old.engine.base

-- an edit was taken
pub stands_edited : (opening : Opening) (edits : List Edit) (courses : List Course) (edit : Edit)
    (old new : ControlState) → ControlStandsFor opening edits courses old → IsEdited edit old new
    → IsKept new.peers new.kinds new.engine new.limits
    → ControlStandsFor opening (edits ++ edit ∷ []) courses new
stands_edited opening edits courses edit old new stands is kept =
    let stand : AllStand courses new.peers = subst (AllStand courses) (sym is.peers) stands.stand in
    let count : new.edits ≡ length (edits ++ edit ∷ []) = omega (
      arith,
      is.edits,
      stands.counted,
      length-append edits (edit ∷ []),
    ) in
    let all_old : take old.edits edits ≡ edits = take_all old.edits edits (omega (arith, stands.counted)) in
    let all_new : take new.edits (edits ++ edit ∷ []) ≡ edits ++ edit ∷ [] =
    take_all new.edits (edits ++ edit ∷ []) (omega (arith, count)) in
    let kinds : new.kinds ≡ kinds_after (take new.edits (edits ++ edit ∷ [])) opening.settings.interfaces =
    is.kinds ∙ ap (edited edit) (stands.now.edited ∙ ap (λ es. kinds_after es opening.settings.interfaces) all_old)
    ∙ sym (kinds_after-push edits edit opening.settings.interfaces)
    ∙ sym (ap (λ es. kinds_after es opening.settings.interfaces) all_new) in
    let told : pairs_after (take new.edits (edits ++ edit ∷ [])) opening.pairs
    ≡ pairs_edited edit (pairs_after (take old.edits edits) opening.pairs) =
    ap (λ es. pairs_after es opening.pairs) all_new ∙ pairs_after-push edits edit opening.pairs
    ∙ sym (ap (λ es. pairs_edited edit (pairs_after es opening.pairs)) all_old) in
    let pairs : IsPairSet (pairs_after (take new.edits (edits ++ edit ∷ [])) opening.pairs) new.engine.world.pairs =
    subst (λ (ps : List Pair). IsPairSet ps new.engine.world.pairs) (sym told)
    (is.pairs (pairs_after (take old.edits edits) opening.pairs) stands.now.pairs) in
    let marked_edits : take stands.last.edits (edits ++ edit ∷ []) ≡ take stands.last.edits edits =
    take-append-le stands.last.edits edits (edit ∷ []) (omega (arith, stands.reached.edits, stands.counted)) in
    record {
      sessions = stands.sessions;
      stand = stand;
      counted = count;
      earlier = stands.earlier;
      last = stands.last;
      marks = is.marks ∙ stands.marks;
      reached = record {
        edits = omega (arith, stands.reached.edits, is.edits);
        items = subst (λ (ps : List PeerState). AreAtMost stands.last.items (items_of ps)) (sym is.peers)
            stands.reached.items;
      };
      now = now_world opening (edits ++ edit ∷ []) courses stands.last.number new stand kept kinds pairs;
      marked_kinds = stands.marked_kinds;
      marked = stands.marked;
      is_marked = record {
        edited = stands.is_marked.edited
            ∙ sym (ap (λ es. kinds_after es opening.settings.interfaces) marked_edits);
        roles = stands.is_marked.roles;
        pairs = subst (λ es. IsPairSet (pairs_after es opening.pairs) stands.marked.pairs) (sym marked_edits)
            stands.is_marked.pairs;
        rows = stands.is_marked.rows;
      };
      base = subst (IsTable stands.marked) (sym is.base) stands.base;
    }
