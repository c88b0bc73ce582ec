-- The engine of a control has the world of now.
use Rattle.std.proofs.Common.{◌≡◌, ◌⊎◌, ℕ, List, [], ◌∷◌, ◌++◌, take, Option}
use Rattle.std.proofs.Common.{sym, ap, subst, ◌∙◌, inl, inr, arith, ◌↔◌}
use Rattle.std.proofs.lemmas.List.{take_all}
use Rattle.urpf_base.specs.Address.{Block}
use Rattle.urpf_base.specs.Lists.{Has}
use Rattle.urpf_base.specs.declared.kinds.Kind.{Kind}
use Rattle.adj_rib.proofs.Routes.{has_pair}
use Rattle.adj_rib.specs.Routes.{pairs_of}
use Rattle.rpf_plain.proofs.Repeats.{repeats-some}
use Rattle.rpf_plain.specs.Engine.{EngineState}
use Rattle.rpf_plain.specs.Rows.{row_of}
use Rattle.rpf_plain.specs.declared.rows.Row.{Row}
use Rattle.session_fsm.specs.declared.items.Effect.{Effect}
use Rattle.control_core.specs.Controls.{AllStand, items_of}
use Rattle.control_core.specs.Effects.{Holds}
use Rattle.control_core.specs.EngineRows.{rows_of, session_rows}
use Rattle.control_core.specs.History.{StandsFor}
use Rattle.control_core.specs.Kept.{IsKept, all_rows}
use Rattle.control_core.specs.States.{PeerState}
use Rattle.control_core.specs.Worlds.{Course, IsRowOf, IsRowOfAny}
use Rattle.control_core.specs.declared.limits.Limits.{Limits}
use Rattle.control_core.proofs.RowCounts.{row_there}

pub has_either : {X : Type 0} (xs ys : List X) (x : X) → Has (xs ++ ys) x → Has xs x ⊎ Has ys x
has_either [] ys x has = inr has
has_either (z ∷ xs) ys x (inl same) = inl (inl same)
has_either (z ∷ xs) ys x (inr later) =
    elim (has_either xs ys x later) [ inl here ↦ inl (inr here) | inr there ↦ inr there ]

pub has_left : {X : Type 0} (xs ys : List X) (x : X) → Has xs x → Has (xs ++ ys) x
has_left [] ys x never = absurd never
has_left (z ∷ xs) ys x (inl same) = inl same
has_left (z ∷ xs) ys x (inr later) = inr (has_left xs ys x later)

pub has_right : {X : Type 0} (xs ys : List X) (x : X) → Has ys x → Has (xs ++ ys) x
has_right [] ys x has = has
has_right (z ∷ xs) ys x has = inr (has_right xs ys x has)

-- a row is of a list of routes where it is on the interface and its route is there
row_in : (iface : ℕ) (pairs : List (Block × Option ℕ)) (row : Row) → Has (rows_of iface pairs) row
    → (row.iface ≡ iface) × Has pairs (row.prefix, row.origin)
row_in iface [] row never = absurd never
row_in iface (pair ∷ pairs) row (inl same) = (
  ap (λ (r : Row). r.iface) same,
  inl (ap (λ (r : Row). (r.prefix, r.origin)) same),
)
row_in iface (pair ∷ pairs) row (inr later) = let is = row_in iface pairs row later in (is.0, inr is.1)

in_row : (iface : ℕ) (pairs : List (Block × Option ℕ)) (row : Row) → row.iface ≡ iface
    → Has pairs (row.prefix, row.origin) → Has (rows_of iface pairs) row
in_row iface [] row on never = absurd never
in_row iface (pair ∷ pairs) row on (inl same) =
    inl (ap (λ (i : ℕ). row_of i row.prefix row.origin) on
    ∙ ap (λ (p : Block × Option ℕ). row_of iface p.0 p.1) same)
in_row iface (pair ∷ pairs) row on (inr later) = inr (in_row iface pairs row on later)

-- the rows of a session are those that its effects leave
own_row : (course : Course) (peer : PeerState) (row : Row) → peer.session.config ≡ course.config
    → StandsFor course.events course.effects peer
    → Has (session_rows peer.session.config.iface peer.routes) row ↔ IsRowOf course peer.session.items row
own_row course peer row config stands =
    let all : take peer.session.items course.effects ≡ course.effects =
    take_all peer.session.items course.effects (omega (arith, stands.counted)) in
    let iface : peer.session.config.iface ≡ course.config.iface = ap (λ k. k.iface) config in (
      λ has.
          let is = row_in peer.session.config.iface (pairs_of peer.routes) row has in (
            is.0 ∙ iface,
            subst (λ (es : List Effect). Holds es row.prefix row.origin) (sym all)
                ((stands.routes row.prefix row.origin).0 ((has_pair peer.routes row.prefix row.origin).0 is.1)),
          ),
      λ is.
          in_row peer.session.config.iface (pairs_of peer.routes) row (is.0 ∙ sym iface)
          ((has_pair peer.routes row.prefix row.origin).1
          ((stands.routes row.prefix row.origin).1
          (subst (λ (es : List Effect). Holds es row.prefix row.origin) all is.1))),
    )

-- the rows of all sessions are those that the effects of each leave
all_row : (courses : List Course) (peers : List PeerState) (row : Row) → AllStand courses peers
    → Has (all_rows peers) row ↔ IsRowOfAny courses (items_of peers) row
all_row [] [] row stand = (λ never. never, λ never. never)
all_row [] (p ∷ peers) row stand = absurd stand
all_row (c ∷ courses) [] row stand = absurd stand
all_row (c ∷ courses) (p ∷ peers) row stand =
    let own = own_row c p row stand.0 stand.1 in
    let rest = all_row courses peers row stand.2 in
    let mine : List Row = session_rows p.session.config.iface p.routes in (
      λ has. elim (has_either mine (all_rows peers) row has) [
        | inl here ↦ inl (own.0 here)
        | inr there ↦ inr (rest.0 there)
      ],
      λ is. elim is [
        | inl here ↦ has_left mine (all_rows peers) row (own.1 here)
        | inr there ↦ has_right mine (all_rows peers) row (rest.1 there)
      ],
    )

-- the rows of the engine are those of the position
pub rows_now : (courses : List Course) (peers : List PeerState) (kinds : List (ℕ × Kind)) (engine : EngineState)
    (limits : Limits) (row : Row) → AllStand courses peers → IsKept peers kinds engine limits
    → Has engine.world.rows row ↔ IsRowOfAny courses (items_of peers) row
rows_now courses peers kinds engine limits row stand kept =
    let all = all_row courses peers row stand in (
      λ has. all.0 (row_there (all_rows peers) row
          (omega (arith, repeats-some engine.world.rows row has, kept.rows row))),
      λ is. row_there engine.world.rows row
          (omega (arith, repeats-some (all_rows peers) row (all.1 is), kept.rows row)),
    )
