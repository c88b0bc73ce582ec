-- The source sets of a router: feasible paths and loose mode (RFC 3704, section 2), and Algorithms A and B (RFC 8704,
-- section 3). Each is a list of prefixes, in which one may stand more than once.
use Rattle.std.specs.Prelude.{ℕ, ◌==◌, ◌&&◌, not, Bool, false, List, [], ◌∷◌, ◌++◌, map, filter_map, Option, Some}
use Rattle.std.specs.Prelude.{None}
use Rattle.std.specs.List.{filter, list_any}
use Rattle.std.specs.Ordering.{is_eq}
use Rattle.urpf_base.specs.Address.{Block}
use Rattle.urpf_base.specs.Order.{prefix_order}
use Rattle.origin_pairs.specs.Pairs.{Pair}
use Rattle.rpf_plain.specs.World.{World, is_customer}
use Rattle.rpf_plain.specs.declared.rows.Row.{Row}

abbrev pub prefixes_of : List Row → List Block
prefixes_of rows = map (λ row. row.prefix) rows

-- the origins of the rows that have one
abbrev pub origins_of : List Row → List ℕ
origins_of rows = filter_map (λ row. row.origin) rows

-- whether the list has the prefix
abbrev pub has_prefix : List Block → Block → Bool
has_prefix prefixes prefix = list_any (λ p. is_eq (prefix_order p prefix)) prefixes

-- whether the list has the AS
abbrev pub has_as : List ℕ → ℕ → Bool
has_as numbers number = list_any (λ n. n == number) numbers

-- whether there is an origin, and the list has it
abbrev pub has_origin : List ℕ → Option ℕ → Bool
has_origin numbers None = false
has_origin numbers (Some number) = has_as numbers number

-- whether this is the origin
abbrev pub is_origin : ℕ → Option ℕ → Bool
is_origin number None = false
is_origin number (Some n) = n == number

-- the rows of one interface
abbrev pub rows_on : World → ℕ → List Row
rows_on w iface = filter (λ row. row.iface == iface) w.rows

-- the rows of customer interfaces
abbrev pub customer_rows : World → List Row
customer_rows w = filter (λ row. is_customer w.roles row.iface) w.rows

-- the members of all the lists
abbrev pub union : List (List Block) → List Block
union [] = []
union (prefixes ∷ more) = prefixes ++ union more

-- the prefixes of the routes that the interface has (RFC 3704, section 2.3)
abbrev pub feasible : World → ℕ → List Block
feasible w iface = prefixes_of (rows_on w iface)

-- the prefixes of all routes (RFC 3704, section 2.4)
abbrev pub any : World → List Block
any w = prefixes_of w.rows

-- Set A: the origin ASes of the routes of customer interfaces (RFC 8704, section 3.1.1, step 1)
abbrev pub set_a : World → List ℕ
set_a w = origins_of (customer_rows w)

-- Set X: the prefixes of the routes of all interfaces that have this origin AS (RFC 8704, section 3.1.1, step 2)
abbrev pub set_x : World → ℕ → List Block
set_x w origin = prefixes_of (filter (λ row. is_origin origin row.origin) w.rows)

-- whether the interface received one or more of the prefixes of Set X (RFC 8704, section 3.1.1, step 3)
abbrev pub received : World → ℕ → ℕ → Bool
received w iface origin = list_any (has_prefix (feasible w iface)) (set_x w origin)

-- the RPF list of a customer interface by Algorithm A: each Set X of which it received a prefix, for all ASes of Set A
-- (RFC 8704, section 3.1.1, steps 3 and 4)
abbrev pub list_a : World → ℕ → List Block
list_a w iface = union (map (set_x w) (filter (received w iface) (set_a w)))

-- Set P: the prefixes of the routes of customer interfaces (RFC 8704, section 3.4, steps 1 and 2)
abbrev pub set_p : World → List Block
set_p w = prefixes_of (customer_rows w)

-- Set Q: the prefixes of the routes of peer and provider interfaces whose origin AS is in Set A (RFC 8704, section 3.4,
-- steps 3 and 4)
abbrev pub set_q : World → List Block
set_q w = prefixes_of (filter (λ row. not (is_customer w.roles row.iface) && has_origin (set_a w) row.origin) w.rows)

-- Set Z: the RPF list of each customer interface by Algorithm B (RFC 8704, section 3.4, step 5)
abbrev pub set_z : World → List Block
set_z w = set_p w ++ set_q w

-- the prefixes of the pairs whose AS is in the list
abbrev pub paired : List Pair → List ℕ → List Block
paired pairs numbers = map (λ pair. pair.0) (filter (λ pair. has_as numbers pair.1) pairs)

-- the list by Algorithm A with the prefixes of the pairs whose AS is the origin of a route of the interface (RFC 8704,
-- section 3.5; which ASes count there is our own choice)
abbrev pub list_a_with_pairs : World → ℕ → List Block
list_a_with_pairs w iface = list_a w iface ++ paired w.pairs (origins_of (rows_on w iface))

-- Set Z with the prefixes of the pairs whose AS is in Set A (RFC 8704, section 3.5)
abbrev pub set_z_with_pairs : World → List Block
set_z_with_pairs w = set_z w ++ paired w.pairs (set_a w)
