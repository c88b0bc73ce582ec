-- The routes of all Adj-RIBs-In (RFC 4271, section 3.2) as one list of rows, with repeats: two sessions of an interface
-- may have the same route.
use Rattle.std.specs.Prelude.{◌≡◌, ℕ, ◌+◌, cond, List, [], ◌∷◌, Option}
use Rattle.std.specs.Ordering.{is_eq, nat_cmp, ordering_then}
use Rattle.std.specs.Option.{option_cmp}
use Rattle.std.specs.declared.cmp.Ordering.{Ordering}
use Rattle.urpf_base.specs.Address.{Block}
use Rattle.urpf_base.specs.Order.{prefix_order}
use Rattle.rpf_plain.specs.declared.rows.Row.{Row}

-- the route to the prefix that came in on the interface and has this origin, or none
abbrev pub row_of : ℕ → Block → Option ℕ → Row
row_of iface prefix origin = record { prefix = prefix; iface = iface; origin = origin }

-- by the prefix first, then by the interface, then by the origin, where none comes first
abbrev pub row_order : Row → Row → Ordering
row_order a b =
    ordering_then (prefix_order a.prefix b.prefix)
    (ordering_then (nat_cmp a.iface b.iface) (option_cmp nat_cmp a.origin b.origin))

-- how often the row stands in the list
abbrev pub repeats : List Row → Row → ℕ
repeats [] row = 0
repeats (r ∷ rows) row = cond (is_eq (row_order r row)) 1 0 + repeats rows row

-- each row stands in both lists equally often, in whatever order
abbrev pub AreSameRows : List Row → List Row → Type 0
AreSameRows a b = (row : Row) → repeats a row ≡ repeats b row
