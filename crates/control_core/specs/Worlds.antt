-- What the source sets (RFC 8704, section 3) are made of at a position of a run. Our own choice.
use Rattle.std.specs.Prelude.{◌≡◌, ◌⊎◌, ℕ, Bool, not, List, [], ◌∷◌, take, ◌↔◌}
use Rattle.std.specs.List.{filter}
use Rattle.std.specs.Ordering.{is_eq}
use Rattle.urpf_base.specs.Lists.{Has}
use Rattle.urpf_base.specs.declared.kinds.Kind.{Kind}
use Rattle.urpf_base.specs.declared.sessions.SessionConfig.{SessionConfig}
use Rattle.origin_pairs.specs.Pairs.{IsPairSet, Pair, pair_order}
use Rattle.router_config.specs.Edits.{edited}
use Rattle.router_config.specs.Settings.{Settings}
use Rattle.router_config.specs.declared.edits.Edit.{Edit}
use Rattle.router_config.specs.declared.edits.Edit.TheVariants as edit
use Rattle.rpf_plain.specs.World.{World, roles_of}
use Rattle.rpf_plain.specs.declared.rows.Row.{Row}
use Rattle.feed_io.specs.Events.{Event}
use Rattle.session_fsm.specs.declared.items.Effect.{Effect}
use Rattle.control_core.specs.Effects.{Holds}

-- what a run begins with: its configuration, and the pairs of its table, with repeats
pub record Opening : Type 0 where
  pub settings : Settings
  pub pairs : List Pair

-- how far a run came: its last publication, its edits, and the items that each session took
pub record Position : Type 0 where
  pub number : ℕ
  pub edits : ℕ
  pub items : List ℕ

-- the number of the last mark
abbrev pub last_number : List Position → ℕ
last_number [] = 0
last_number (mark ∷ []) = mark.number
last_number (mark ∷ later ∷ more) = last_number (later ∷ more)

-- what came of a session: its configuration, the events of its feed, and the effects of the items that it took of them
pub record Course : Type 0 where
  pub config : SessionConfig
  pub events : List Event
  pub effects : List Effect

-- the interfaces after edits, one after the other
abbrev pub kinds_after : List Edit → List (ℕ × Kind) → List (ℕ × Kind)
kinds_after [] kinds = kinds
kinds_after (edit ∷ edits) kinds = kinds_after edits (edited edit kinds)

-- whether both are the same pair
abbrev pub is_same_pair : Pair → Pair → Bool
is_same_pair a b = is_eq (pair_order a b)

-- the pairs after an edit, with repeats
abbrev pub pairs_edited : Edit → List Pair → List Pair
pairs_edited (edit.Role iface role) pairs = pairs
pairs_edited (edit.Mode iface mode) pairs = pairs
pairs_edited (edit.PairAdd prefix asn) pairs = (prefix, asn) ∷ pairs
pairs_edited (edit.PairDel prefix asn) pairs = filter (λ pair. not (is_same_pair pair (prefix, asn))) pairs

-- the pairs after edits, one after the other
abbrev pub pairs_after : List Edit → List Pair → List Pair
pairs_after [] pairs = pairs
pairs_after (edit ∷ edits) pairs = pairs_after edits (pairs_edited edit pairs)

-- the row is of a session: it is on its interface, and the effects of its first items, so many, leave the route
abbrev pub IsRowOf : Course → ℕ → Row → Type 0
IsRowOf course count row =
    (row.iface ≡ course.config.iface) × Holds (take count course.effects) row.prefix row.origin

-- the row is of some session, where each took so many items
abbrev pub IsRowOfAny : List Course → List ℕ → Row → Type 0
IsRowOfAny [] counts row = ⊥
IsRowOfAny (course ∷ courses) [] row = ⊥
IsRowOfAny (course ∷ courses) (count ∷ counts) row = IsRowOf course count row ⊎ IsRowOfAny courses counts row

-- these are the kinds of the interfaces and the world at a position: the opening after its edits, and the routes that
-- the items of each session leave
pub record IsWorldAt (opening : Opening) (edits : List Edit) (courses : List Course) (at : Position)
    (kinds : List (ℕ × Kind)) (world : World) : Type 0 where
  pub edited : kinds ≡ kinds_after (take at.edits edits) opening.settings.interfaces
  pub roles : world.roles ≡ roles_of kinds
  pub pairs : IsPairSet (pairs_after (take at.edits edits) opening.pairs) world.pairs
  pub rows : (row : Row) → Has world.rows row ↔ IsRowOfAny courses at.items row
