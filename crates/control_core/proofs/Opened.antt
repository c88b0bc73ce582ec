-- A control at its opening.
use Rattle.std.proofs.Common.{◌≡◌, ℕ, zero, suc, ◌+◌, ◌≤◌, false, List, [], ◌∷◌, ◌++◌, length, map, take, Option}
use Rattle.std.proofs.Common.{refl, sym, ap, subst, ◌∙◌, arith, inl, inr, add-one}
use Rattle.std.specs.FinMap.{empty}
use Rattle.std.specs.List.{AllByRecursion}
use Rattle.urpf_base.specs.Address.{Block}
use Rattle.urpf_base.specs.Lists.{Has}
use Rattle.urpf_base.specs.declared.cells.Cell.{Cell}
use Rattle.urpf_base.specs.declared.kinds.Kind.{Kind}
use Rattle.urpf_base.specs.declared.sessions.SessionConfig.{SessionConfig}
use Rattle.adj_rib.proofs.Routes.{has_pair}
use Rattle.adj_rib.specs.Routes.{Routes, pairs_of}
use Rattle.origin_pairs.specs.Pairs.{IsPairSet, Pair}
use Rattle.prefix_map.specs.Mapped.{Mapped}
use Rattle.router_config.specs.Configured.{IsConfigured}
use Rattle.router_config.specs.Settings.{Settings}
use Rattle.rpf_plain.proofs.Listed.{configured}
use Rattle.rpf_plain.proofs.Drained.{no_rows, one_table}
use Rattle.rpf_plain.specs.Cells.{IsTable}
use Rattle.rpf_plain.specs.Engine.{EngineState, new_engine}
use Rattle.rpf_plain.specs.Rows.{repeats}
use Rattle.rpf_plain.specs.World as sets
use Rattle.rpf_plain.specs.World.{World, roles_of}
use Rattle.rpf_plain.specs.declared.rows.Row.{Row}
use Rattle.control_core.specs.Controls.{AllStand, AreAtMost, IsOpened, IsUnused, first_mark, items_of, not_begun}
use Rattle.control_core.specs.Controls.{without_pairs}
use Rattle.control_core.specs.Effects.{Holds, HoldsAll}
use Rattle.control_core.specs.EngineRows.{rows_of, session_rows}
use Rattle.control_core.specs.History.{StandsFor}
use Rattle.control_core.specs.Kept.{AreNumbered, IsKept, all_rows}
use Rattle.control_core.specs.Openings.{AreNew, zeros}
use Rattle.control_core.specs.States.{ControlState, PeerState}
use Rattle.control_core.specs.Worlds.{Course, IsRowOfAny, Opening, kinds_after, pairs_after}
use Rattle.control_core.specs.declared.limits.Limits.{Limits}
use Rattle.control_core.specs.declared.limits.TheConstants.{ITEM_LIMIT}
use Rattle.control_core.proofs.PairEdits.{none_set}
use Rattle.control_core.proofs.Publications.{at_most_self}
use Rattle.control_core.proofs.Standing.{now_world}

stand_push : (sessions : List SessionConfig) (peers : List PeerState) (session : SessionConfig) (peer : PeerState)
    → AllStand (map not_begun sessions) peers → peer.session.config ≡ session → StandsFor [] [] peer
    → AllStand (map not_begun (sessions ++ session ∷ [])) (peers ++ peer ∷ [])
stand_push [] [] session peer stand config stands = (config, stands, tt)
stand_push [] (p ∷ peers) session peer stand config stands = absurd stand
stand_push (s ∷ sessions) [] session peer stand config stands = absurd stand
stand_push (s ∷ sessions) (p ∷ peers) session peer stand config stands =
    (stand.0, stand.1, stand_push sessions peers session peer stand.2 config stands)

all_none : (sessions : List SessionConfig) (peers : List PeerState) → AllStand (map not_begun sessions) peers
    → items_of peers ≡ map (λ s. 0) sessions
all_none [] [] stand = refl
all_none [] (p ∷ peers) stand = absurd stand
all_none (s ∷ sessions) [] stand = absurd stand
all_none (s ∷ sessions) (p ∷ peers) stand =
    ap (λ (n : ℕ). n ∷ items_of peers) stand.1.counted ∙ ap (λ (ns : List ℕ). 0 ∷ ns) (all_none sessions peers stand.2)

front_empty : (a b : List Row) → a ++ b ≡ [] → a ≡ []
front_empty [] b none = refl
front_empty (r ∷ a) b none = cc

back_empty : (a b : List Row) → a ++ b ≡ [] → b ≡ []
back_empty [] b none = none
back_empty (r ∷ a) b none = cc

-- no effects hold a route
holds_none : (count : ℕ) (row : Row) → Holds (take count []) row.prefix row.origin → ⊥
holds_none zero row holds = holds
holds_none (suc count) row holds = holds

-- no rows in front and none behind
no_rows_push : (peers : List PeerState) (peer : PeerState) → all_rows peers ≡ [] → pairs_of peer.routes ≡ []
    → all_rows (peers ++ peer ∷ []) ≡ []
no_rows_push [] peer none empty_routes =
    ap (λ (es : List (Block × Option ℕ)). rows_of peer.session.config.iface es ++ []) empty_routes
no_rows_push (p ∷ peers) peer none empty_routes =
    let front : session_rows p.session.config.iface p.routes ≡ [] =
    front_empty (session_rows p.session.config.iface p.routes) (all_rows peers) none in
    let back : all_rows peers ≡ [] = back_empty (session_rows p.session.config.iface p.routes) (all_rows peers) none in
    ap (λ (rs : List Row). rs ++ all_rows (peers ++ peer ∷ [])) front ∙ no_rows_push peers peer back empty_routes

numbered_push : (n : ℕ) (peers : List PeerState) (peer : PeerState) → AreNumbered n peers
    → peer.number ≡ n + length peers → AreNumbered n (peers ++ peer ∷ [])
numbered_push n [] peer numbered is = (omega (arith, is), tt)
numbered_push n (p ∷ peers) peer numbered is =
    (numbered.0, numbered_push (n + 1) peers peer numbered.1 (omega (arith, is)))

each_push : (P : PeerState → Type 0) (peers : List PeerState) (peer : PeerState) → AllByRecursion P peers → P peer
    → AllByRecursion P (peers ++ peer ∷ [])
each_push P [] peer each is = (is, tt)
each_push P (p ∷ peers) peer each is = (each.0, each_push P peers peer each.1 is)

-- one session more
pub new_push : (interfaces : List (ℕ × Kind)) (sessions : List SessionConfig) (peers : List PeerState)
    (session : SessionConfig) (peer : PeerState) → AreNew interfaces sessions peers
    → peer.session.config ≡ session → StandsFor [] [] peer → pairs_of peer.routes ≡ [] → peer.number ≡ length peers
    → IsConfigured interfaces session.iface → peer.ended ≡ false
    → AreNew interfaces (sessions ++ session ∷ []) (peers ++ peer ∷ [])
new_push interfaces sessions peers session peer new config stands empty_routes number configured unmet = record {
  stand = stand_push sessions peers session peer new.stand config stands;
  rows = no_rows_push peers peer new.rows empty_routes;
  numbered = numbered_push 0 peers peer new.numbered (omega (arith, number));
  configured = each_push (λ p. IsConfigured interfaces p.session.config.iface) peers peer new.configured
      (subst (λ (k : SessionConfig). IsConfigured interfaces k.iface) (sym config) configured);
  unmet = each_push (λ p. p.ended ≡ false) peers peer new.unmet unmet;
}

roles_configured : (interfaces : List (ℕ × Kind)) (peers : List PeerState)
    → AllByRecursion (λ p. IsConfigured interfaces p.session.config.iface) peers
    → AllByRecursion (λ p. sets.IsConfigured (roles_of interfaces) p.session.config.iface) peers
roles_configured interfaces [] each = tt
roles_configured interfaces (p ∷ peers) each =
    ((configured interfaces p.session.config.iface).1 each.0, roles_configured interfaces peers each.1)

-- what always holds, holds at the opening
pub kept_new : (interfaces : List (ℕ × Kind)) (sessions : List SessionConfig) (peers : List PeerState)
    (engine : EngineState) (limits : Limits) → AreNew interfaces sessions peers
    → engine ≡ new_engine (roles_of interfaces) → limits.items ≤ ITEM_LIMIT → IsKept peers interfaces engine limits
kept_new interfaces sessions peers engine limits new is few =
    subst (λ (e : EngineState). IsKept peers interfaces e limits) (sym is)
    (record {
      rows = λ row. ap (λ (rs : List Row). repeats rs row) (sym new.rows);
      roles = refl;
      pairs = tt;
      configured = roles_configured interfaces peers new.configured;
      numbered = new.numbered;
      few = few;
    })

configs_are : (sessions : List SessionConfig) → map (λ (c : Course). c.config) (map not_begun sessions) ≡ sessions
configs_are [] = refl
configs_are (s ∷ sessions) = ap (λ (ss : List SessionConfig). s ∷ ss) (configs_are sessions)

no_row_yet : (sessions : List SessionConfig) (counts : List ℕ) (row : Row)
    → IsRowOfAny (map not_begun sessions) counts row → ⊥
no_row_yet [] counts row never = never
no_row_yet (s ∷ sessions) [] row never = never
no_row_yet (s ∷ sessions) (count ∷ counts) row (inl is) = holds_none count row is.1
no_row_yet (s ∷ sessions) (count ∷ counts) row (inr is) = no_row_yet sessions counts row is

-- after no edits the interfaces and the pairs are those of the opening
no_kinds : (n : ℕ) (kinds : List (ℕ × Kind)) → kinds_after (take n []) kinds ≡ kinds
no_kinds zero kinds = refl
no_kinds (suc n) kinds = refl

no_pairs_edited : (n : ℕ) (pairs : List Pair) → pairs_after (take n []) pairs ≡ pairs
no_pairs_edited zero pairs = refl
no_pairs_edited (suc n) pairs = refl

-- a control stands for its opening, no edits and no events, where its table is empty and its pairs are those of the
-- opening
pub opened : (opening : Opening) (limits : Limits) (control : ControlState)
    → AllStand (map not_begun opening.settings.sessions) control.peers
    → AllByRecursion (λ p. p.ended ≡ false) control.peers
    → control.kinds ≡ opening.settings.interfaces → control.edits ≡ 0
    → control.engine.base ≡ empty → IsPairSet opening.pairs control.engine.world.pairs
    → control.marks ≡ first_mark opening.settings.sessions ∷ [] → control.limits ≡ limits
    → control.exhausted ≡ false → IsKept control.peers control.kinds control.engine control.limits
    → IsOpened opening limits control
opened opening limits control stand unmet kinds edits base pairs marks is_limits exhausted kept =
    let sessions : List SessionConfig = opening.settings.sessions in
    let roles = roles_of opening.settings.interfaces in
    record {
      stands = record {
        sessions = configs_are sessions;
        stand = stand;
        counted = edits;
        earlier = [];
        last = first_mark sessions;
        marks = marks;
        reached = record {
          edits = omega (arith, edits);
          items = subst (AreAtMost (map (λ s. 0) sessions)) (sym (all_none sessions control.peers stand))
              (at_most_self (map (λ s. 0) sessions));
        };
        now = now_world opening [] (map not_begun sessions) 0 control stand kept
            (kinds ∙ sym (no_kinds control.edits opening.settings.interfaces))
            (subst (λ (ps : List Pair). IsPairSet ps control.engine.world.pairs)
            (sym (no_pairs_edited control.edits opening.pairs)) pairs);
        marked_kinds = opening.settings.interfaces;
        marked = record { rows = []; roles = roles; pairs = control.engine.world.pairs };
        is_marked = record {
          edited = refl;
          roles = refl;
          pairs = pairs;
          rows = λ row. (
            λ never. absurd never,
            λ is. no_row_yet sessions (map (λ s. 0) sessions) row is,
          );
        };
        base = subst (IsTable (record { rows = []; roles = roles; pairs = control.engine.world.pairs })) (sym base)
            (no_rows roles control.engine.world.pairs);
      };
      unmet = unmet;
      marks = marks;
      limits_are = is_limits;
      exhausted = exhausted;
    }

none_has : (rows : List Row) → ((row : Row) → Has rows row → ⊥) → rows ≡ []
none_has [] never = refl
none_has (row ∷ rows) never = absurd (never row (inl refl))

-- where a world has no row its table is empty
empty_table : (world : World) (table : Mapped Cell) → ((row : Row) → Has world.rows row → ⊥) → IsTable world table
    → table ≡ empty
empty_table world table never is =
    let without_rows : List Row → World = λ rows. record { rows = rows; roles = world.roles; pairs = world.pairs } in
    let rows : world.rows ≡ [] = none_has world.rows never in
    one_table (without_rows []) table empty (subst (λ (rs : List Row). IsTable (without_rows rs) table) rows is)
    (no_rows world.roles world.pairs)

-- the table of a control at its opening is empty
pub empty_base : (opening : Opening) (limits : Limits) (control : ControlState) → IsOpened opening limits control
    → control.engine.base ≡ empty
empty_base opening limits control opened =
    let stands = opened.stands in
    empty_table stands.marked control.engine.base
    (λ row has.
    no_row_yet opening.settings.sessions stands.last.items row ((stands.is_marked.rows row).0 has))
    stands.base

-- an engine of a control at its opening has no pairs
pub no_pairs_yet : (control : ControlState) → IsUnused control → control.engine.world.pairs ≡ []
no_pairs_yet control unused =
    none_set control.engine.world.pairs
    (subst (λ (ps : List Pair). IsPairSet ps control.engine.world.pairs) (no_pairs_edited control.edits [])
    unused.opened.stands.now.pairs)

-- a control was given pairs
pub record IsLoaded (table : List Pair) (old new : ControlState) : Type 0 where
  pub peers : new.peers ≡ old.peers
  pub kinds : new.kinds ≡ old.kinds
  pub edits : new.edits ≡ old.edits
  pub marks : new.marks ≡ old.marks
  pub limits : new.limits ≡ old.limits
  pub exhausted : new.exhausted ≡ old.exhausted
  pub base : new.engine.base ≡ old.engine.base
  pub pairs : IsPairSet table new.engine.world.pairs

-- a control at its opening is at one with the pairs once they are loaded
pub opened_loaded : (settings : Settings) (limits : Limits) (pairs : List Pair) (old new : ControlState)
    → IsOpened (without_pairs settings) limits old → IsLoaded pairs old new
    → IsKept new.peers new.kinds new.engine new.limits
    → IsOpened (record { settings = settings; pairs = pairs }) limits new
opened_loaded settings limits pairs old new was is kept =
    let stands = was.stands in
    let base : old.engine.base ≡ empty = empty_base (without_pairs settings) limits old was in
    opened (record { settings = settings; pairs = pairs }) limits new
    (subst (AllStand (map not_begun settings.sessions)) (sym is.peers) stands.stand)
    (subst (AllByRecursion (λ (p : PeerState). p.ended ≡ false)) (sym is.peers) was.unmet)
    (is.kinds ∙ stands.now.edited ∙ no_kinds old.edits settings.interfaces)
    (is.edits ∙ stands.counted) (is.base ∙ base) is.pairs
    (is.marks ∙ was.marks)
    (is.limits ∙ was.limits_are) (is.exhausted ∙ was.exhausted) kept

none_listed : (pairs : List (Block × Option ℕ)) → ((pair : Block × Option ℕ) → Has pairs pair → ⊥) → pairs ≡ []
none_listed [] never = refl
none_listed (pair ∷ pairs) never = absurd (never pair (inl refl))

-- where no route is held there are no pairs
pub no_pairs : (routes : Routes) → HoldsAll [] routes → pairs_of routes ≡ []
no_pairs routes holds =
    none_listed (pairs_of routes)
    (λ pair has. (holds pair.0 pair.1).0 ((has_pair routes pair.0 pair.1).0 has))

-- one more nought
pub zeros-push : (n : ℕ) → zeros n ++ 0 ∷ [] ≡ zeros (n + 1)
zeros-push n =
    nought_last n ∙ ap zeros (sym (add-one n))
  where
    nought_last : (n : ℕ) → zeros n ++ 0 ∷ [] ≡ 0 ∷ zeros n
    nought_last zero = refl
    nought_last (suc n) = ap (λ (ns : List ℕ). 0 ∷ ns) (nought_last n)

-- a nought for each session
pub zeros_are : (sessions : List SessionConfig) → zeros (length sessions) ≡ map (λ s. 0) sessions
zeros_are [] = refl
zeros_are (s ∷ sessions) = ap (λ (ns : List ℕ). 0 ∷ ns) (zeros_are sessions)
