-- What walks over the rows and the pairs find: the sets, told by which rows and pairs there are.
use Rattle.std.specs.Prelude.{◌≡◌, ◌↔◌, ◌⊎◌, ℕ, false, IsTrue, List, [], ◌∷◌, Option, Some, None, unwrap_or}
use Rattle.std.specs.BTreeMap.{BTreeMap}
use Rattle.std.specs.BTreeMap as tree
use Rattle.std.specs.FinMap.{get}
use Rattle.std.specs.List.{All}
use Rattle.std.specs.Ordering.{nat_cmp}
use Rattle.urpf_base.specs.Address.{Block}
use Rattle.urpf_base.specs.Masks.{InMask}
use Rattle.urpf_base.specs.declared.cells.Cell.{Cell}
use Rattle.urpf_base.specs.declared.kinds.Kind.{Kind}
use Rattle.urpf_base.specs.declared.kinds.Role.TheVariants.{Customer}
use Rattle.origin_pairs.specs.Pairs.{Pair}
use Rattle.prefix_map.specs.Mapped.{Mapped}
use Rattle.rpf_plain.specs.Cells.{cell_at, empty_cell}
use Rattle.rpf_plain.specs.declared.origins.Reach.{Reach}
use Rattle.rpf_plain.specs.declared.rows.Row.{Row}

-- a listed interface has this number, and a customer is behind it
abbrev pub HasCustomer : List (ℕ × Kind) → ℕ → Type 0
HasCustomer [] i = ⊥
HasCustomer (k ∷ kinds) i = ((k.0 ≡ i) × (k.1.role ≡ Customer)) ⊎ HasCustomer kinds i

-- some row of the list is so
abbrev pub SomeRow : (Row → Type 0) → List Row → Type 0
SomeRow Is [] = ⊥
SomeRow Is (row ∷ rows) = Is row ⊎ SomeRow Is rows

-- the row is of the prefix and the interface
abbrev pub IsHeard : ℕ → Block → Row → Type 0
IsHeard i p row = (row.prefix ≡ p) × (row.iface ≡ i)

-- the interface has a row of the prefix
abbrev pub Hears : List Row → ℕ → Block → Type 0
Hears rows i p = SomeRow (IsHeard i p) rows

-- the row is of the origin and of a customer interface
abbrev pub IsCustomers : ℕ → ℕ → Row → Type 0
IsCustomers customers origin row = (row.origin ≡ Some origin) × InMask customers row.iface

-- some customer interface has a row of the origin
abbrev pub InSetA : List Row → ℕ → ℕ → Type 0
InSetA rows customers origin = SomeRow (IsCustomers customers origin) rows

-- the row is of the origin, and the interface has its prefix
abbrev pub IsReached : List Row → ℕ → ℕ → Row → Type 0
IsReached rows origin i row = (row.origin ≡ Some origin) × Hears rows i row.prefix

-- the interface has a prefix of the origin
abbrev pub Reaches : List Row → ℕ → ℕ → Type 0
Reaches rows origin i = SomeRow (IsReached rows origin i) rows

-- the interface is a customer's, and has a prefix of the row's origin, which is of Set A
abbrev pub IsOfReached : List Row → ℕ → ℕ → Row → Type 0
IsOfReached rows customers i row =
    InMask customers i
    × ((origin : ℕ) × (row.origin ≡ Some origin) × InSetA rows customers origin × Reaches rows origin i)

-- the row is of the prefix, and its origin is one that the customer interface reaches
abbrev pub IsListed : List Row → ℕ → ℕ → Block → Row → Type 0
IsListed rows customers i p row = (row.prefix ≡ p) × IsOfReached rows customers i row

-- the prefix is in the list by Algorithm A of the customer interface
abbrev pub InListA : List Row → ℕ → ℕ → Block → Type 0
InListA rows customers i p = SomeRow (IsListed rows customers i p) rows

-- the row is of a customer interface, or its origin is in Set A
abbrev pub IsAdmitted : List Row → ℕ → Row → Type 0
IsAdmitted rows customers row =
    InMask customers row.iface ⊎ ((origin : ℕ) × (row.origin ≡ Some origin) × InSetA rows customers origin)

-- the row is of the prefix, and of a customer interface or of an origin in Set A
abbrev pub IsForSetZ : List Row → ℕ → Block → Row → Type 0
IsForSetZ rows customers p row = (row.prefix ≡ p) × IsAdmitted rows customers row

-- the prefix is in Set Z
abbrev pub InSetZ : List Row → ℕ → Block → Type 0
InSetZ rows customers p = SomeRow (IsForSetZ rows customers p) rows

-- the row is of the origin and the interface
abbrev pub IsOwn : ℕ → ℕ → Row → Type 0
IsOwn origin i row = (row.origin ≡ Some origin) × (row.iface ≡ i)

-- the interface has a row of the origin
abbrev pub Owns : List Row → ℕ → ℕ → Type 0
Owns rows origin i = SomeRow (IsOwn origin i) rows

-- some pair of the list is so
abbrev pub SomePair : (Pair → Type 0) → List Pair → Type 0
SomePair Is [] = ⊥
SomePair Is (pair ∷ pairs) = Is pair ⊎ SomePair Is pairs

-- the pair is of the prefix, and the interface is a customer's that has a row of its AS
abbrev pub IsPairListed : List Row → ℕ → ℕ → Block → Pair → Type 0
IsPairListed rows customers i p pair = (pair.0 ≡ p) × (InMask customers i × Owns rows pair.1 i)

-- the pair is of the prefix, and its AS is in Set A
abbrev pub IsPairForSetZ : List Row → ℕ → Block → Pair → Type 0
IsPairForSetZ rows customers p pair = (pair.0 ≡ p) × InSetA rows customers pair.1

-- the prefix is in the list by Algorithm A of the customer interface, by a row or by a pair
abbrev pub InListWithPairs : List Row → List Pair → ℕ → ℕ → Block → Type 0
InListWithPairs rows pairs customers i p =
    InListA rows customers i p ⊎ SomePair (IsPairListed rows customers i p) pairs

-- the prefix is in Set Z, by a row or by a pair
abbrev pub InSetZWithPairs : List Row → List Pair → ℕ → Block → Type 0
InSetZWithPairs rows pairs customers p = InSetZ rows customers p ⊎ SomePair (IsPairForSetZ rows customers p) pairs

-- no prefix of the table has the empty cell
abbrev pub IsFilled : Mapped Cell → Type 0
IsFilled cells = (p : Block) → ¬ (get cells p ≡ Some empty_cell)

-- an origin that no row has
abbrev pub no_reach : Reach
no_reach = record { ifaces = 0; own = 0; in_set_a = false }

-- what is known of an origin
abbrev pub reach_at : BTreeMap ℕ Reach → ℕ → Reach
reach_at origins origin = unwrap_or (tree.get nat_cmp origins origin) no_reach

-- what is known of the origin of a row
abbrev pub reach_of : BTreeMap ℕ Reach → Option ℕ → Reach
reach_of origins None = no_reach
reach_of origins (Some origin) = reach_at origins origin

-- each of these origins stands beside what is known of it
abbrev pub ArePlaced : BTreeMap ℕ Reach → List (ℕ × Reach) → Type 0
ArePlaced origins places = All (λ place. place.1 ≡ reach_at origins place.0) places

-- a row of this reach admits its prefix to the customer interface
abbrev pub Admits : Reach → ℕ → ℕ → Type 0
Admits reach customers i = IsTrue reach.in_set_a × InMask customers i × InMask reach.ifaces i

-- of each origin, which interfaces have a prefix of it, which have a row of it, and whether it is in Set A
pub record AreReaches (rows : List Row) (customers : ℕ) (origins : BTreeMap ℕ Reach) : Type 0 where
  pub ifaces : (a i : ℕ) → InMask (reach_at origins a).ifaces i ↔ Reaches rows a i
  pub own : (a i : ℕ) → InMask (reach_at origins a).own i ↔ Owns rows a i
  pub in_set_a : (a : ℕ) → IsTrue (reach_at origins a).in_set_a ↔ InSetA rows customers a

-- the cells have what the rows say
pub record AreCells (rows : List Row) (customers : ℕ) (cells : Mapped Cell) : Type 0 where
  pub f : (p : Block) (i : ℕ) → InMask (cell_at cells p).f i ↔ Hears rows i p
  pub a : (p : Block) (i : ℕ) → InMask (cell_at cells p).a i ↔ InListA rows customers i p
  pub z : (p : Block) → IsTrue (cell_at cells p).z ↔ InSetZ rows customers p
  pub filled : IsFilled cells

-- the pair is of the prefix, and by what is known of its AS the customer interface has a row of that
abbrev pub GivesPrefix : BTreeMap ℕ Reach → ℕ → ℕ → Block → Pair → Type 0
GivesPrefix origins customers i p pair =
    (pair.0 ≡ p) × (InMask customers i × InMask (reach_at origins pair.1).own i)

-- the pair is of the prefix, and by what is known of its AS that is in Set A
abbrev pub GivesToSetZ : BTreeMap ℕ Reach → Block → Pair → Type 0
GivesToSetZ origins p pair = (pair.0 ≡ p) × IsTrue (reach_at origins pair.1).in_set_a

-- the new cells have besides what the pairs give by what is known of their ASes
pub record HavePairsToo (pairs : List Pair) (origins : BTreeMap ℕ Reach) (customers : ℕ) (old new : Mapped Cell)
    : Type 0 where
  pub f : (p : Block) → (cell_at new p).f ≡ (cell_at old p).f
  pub a : (p : Block) (i : ℕ) → InMask (cell_at new p).a i
      ↔ (InMask (cell_at old p).a i ⊎ SomePair (GivesPrefix origins customers i p) pairs)
  pub z : (p : Block) → IsTrue (cell_at new p).z
      ↔ (IsTrue (cell_at old p).z ⊎ SomePair (GivesToSetZ origins p) pairs)
  pub filled : IsFilled old → IsFilled new
