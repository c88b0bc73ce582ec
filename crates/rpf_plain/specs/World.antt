-- What the source sets are made of (RFC 8704, section 3).
use Rattle.std.specs.Prelude.{ℕ, ◌==◌, Bool, true, false, IsSome, List, ◌∷◌, map, Option, Some, None, option_map, find}
use Rattle.std.specs.Prelude.{if◌then◌else◌}
use Rattle.urpf_base.specs.declared.kinds.Kind.{Kind}
use Rattle.urpf_base.specs.declared.kinds.Role.{Role}
use Rattle.urpf_base.specs.declared.kinds.Role.TheVariants.{Customer, Peer, Provider}
use Rattle.origin_pairs.specs.Pairs.{Pair}
use Rattle.rpf_plain.specs.declared.rows.Row.{Row}

-- who is behind each interface: the interfaces that are configured, by their numbers
abbrev pub Roles : Type 0
Roles = List (ℕ × Role)

-- the rows of all Adj-RIBs-In, the roles of the interfaces, and the pairs (RFC 8704, section 3.5)
pub record World : Type 0 where
  pub rows : List Row
  pub roles : Roles
  pub pairs : List Pair

-- the world with one more pair
abbrev pub with_pair : Pair → World → World
with_pair pair w = record { rows = w.rows; roles = w.roles; pairs = pair ∷ w.pairs }

-- the roles of the interfaces that are configured with these kinds
abbrev pub roles_of : List (ℕ × Kind) → Roles
roles_of kinds = map (λ k. (k.0, k.1.role)) kinds

-- what the sets are made of where the interfaces are configured with these kinds
abbrev pub world_for : List (ℕ × Kind) → List Row → List Pair → World
world_for kinds rows pairs = record { rows = rows; roles = roles_of kinds; pairs = pairs }

-- who is behind the interface with this number; none where it is not configured
abbrev pub role_in : Roles → ℕ → Option Role
role_in roles iface = option_map (λ r. r.1) (find (λ r. r.0 == iface) roles)

abbrev pub IsConfigured : Roles → ℕ → Type 0
IsConfigured roles iface = IsSome (role_in roles iface)

-- the roles, where this interface has another one
abbrev pub with_role : ℕ → Role → Roles → Roles
with_role iface role roles = map (λ r. if r.0 == iface then (r.0, role) else r) roles

-- whether the role is a customer's
abbrev pub is_customer_role : Option Role → Bool
is_customer_role None = false
is_customer_role (Some Customer) = true
is_customer_role (Some Peer) = false
is_customer_role (Some Provider) = false

-- whether a customer is behind the interface
abbrev pub is_customer : Roles → ℕ → Bool
is_customer roles iface = is_customer_role (role_in roles iface)
