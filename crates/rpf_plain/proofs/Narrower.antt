-- Worlds in which a set lacks a prefix that another one has, with addresses for documentation (RFC 5737) and AS numbers
-- for documentation (RFC 5398).
use Rattle.std.proofs.Common.{◌≡◌, inl, inr, ℕ, true, false, IsSome, IsTrue, List, [], ◌∷◌, Some, None, refl}
use Rattle.urpf_base.specs.Address.{Block}
use Rattle.urpf_base.specs.Lists.{Has}
use Rattle.urpf_base.specs.declared.address.Addr.TheVariants.{V4}
use Rattle.urpf_base.specs.declared.kinds.Role.TheVariants.{Customer, Peer}
use Rattle.rpf_plain.specs.declared.rows.Row.{Row}
use Rattle.rpf_plain.specs.Rows.{row_of}
use Rattle.rpf_plain.specs.Sets.{any, feasible, has_prefix, list_a, list_a_with_pairs, set_p, set_z}
use Rattle.rpf_plain.specs.Sets.{set_z_with_pairs}
use Rattle.rpf_plain.specs.World.{World, is_customer}
use Rattle.rpf_plain.proofs.Members.{has_prefix_by}

-- 198.51.100.0/24
abbrev test_net_2 : Block
test_net_2 = record { addr = V4 0xC633_6400; len = 24 }

-- 203.0.113.0/24
abbrev test_net_3 : Block
test_net_3 = record { addr = V4 0xCB00_7100; len = 24 }

found : (ps : List Block) (p : Block) → has_prefix ps p ≡ true → Has ps p
found ps p = (has_prefix_by ps p).0

lacks : (ps : List Block) (p : Block) → has_prefix ps p ≡ false → ¬ Has ps p
lacks ps p none h = let some : has_prefix ps p ≡ true = (has_prefix_by ps p).1 h in absurd cc

-- the only row has an origin
has_origin : (p : Block) (i n : ℕ) (row : Row) → Has (row_of i p (Some n) ∷ []) row → IsSome row.origin
has_origin p i n row (inl same) = rw same refl
has_origin p i n row (inr none) = absurd none

-- a customer's only path ends in a set of ASes
abbrev no_origin : World
no_origin = record { rows = row_of 0 test_net_2 None ∷ []; roles = (0, Customer) ∷ []; pairs = [] }

pub lacks_origin
    : (w : World) × (i : ℕ) × (p : Block) × IsTrue (is_customer w.roles i) × Has (feasible w i) p × ¬ Has (list_a w i) p
lacks_origin = (
  no_origin,
  0,
  test_net_2,
  refl,
  found (feasible no_origin 0) test_net_2 refl,
  lacks (list_a no_origin 0) test_net_2 refl,
)

-- a peer has the only route
abbrev peer_alone : World
peer_alone = record { rows = row_of 2 test_net_2 (Some 64503) ∷ []; roles = (2, Peer) ∷ []; pairs = [] }

pub lacks_customer
    : (w : World) × (i : ℕ) × (p : Block) × ((row : Row) → Has w.rows row → IsSome row.origin) × Has (feasible w i) p
    × (¬ Has (list_a w i) p) × ¬ Has (set_z w) p
lacks_customer = (
  peer_alone,
  2,
  test_net_2,
  has_origin test_net_2 2 64503,
  found (feasible peer_alone 2) test_net_2 refl,
  lacks (list_a peer_alone 2) test_net_2 refl,
  lacks (set_z peer_alone) test_net_2 refl,
)

-- a customer announces one prefix here, and its other one to a peer
abbrev parted : World
parted = record {
  rows = row_of 0 test_net_2 (Some 64501) ∷ row_of 2 test_net_3 (Some 64501) ∷ [];
  roles = (0, Customer) ∷ (2, Peer) ∷ [];
  pairs = [];
}

pub a_has_more
    : (w : World) × (i : ℕ) × (p : Block) × IsTrue (is_customer w.roles i) × Has (list_a w i) p × (¬ Has (set_p w) p)
    × ¬ Has (feasible w i) p
a_has_more = (
  parted,
  0,
  test_net_3,
  refl,
  found (list_a parted 0) test_net_3 refl,
  lacks (set_p parted) test_net_3 refl,
  lacks (feasible parted 0) test_net_3 refl,
)

-- a customer announces nothing over the first of two customers
abbrev silent : World
silent = record {
  rows = row_of 1 test_net_2 (Some 64501) ∷ [];
  roles = (0, Customer) ∷ (1, Customer) ∷ [];
  pairs = [];
}

pub z_has_more
    : (w : World) × (i : ℕ) × (p : Block) × IsTrue (is_customer w.roles i)
    × ((row : Row) → Has w.rows row → IsSome row.origin) × Has (set_z w) p × ¬ Has (list_a w i) p
z_has_more = (
  silent,
  0,
  test_net_2,
  refl,
  has_origin test_net_2 1 64501,
  found (set_z silent) test_net_2 refl,
  lacks (list_a silent 0) test_net_2 refl,
)

pub any_has_more : (w : World) × (p : Block) × Has (any w) p × ¬ Has (set_z w) p
any_has_more =
    (peer_alone, test_net_2, found (any peer_alone) test_net_2 refl, lacks (set_z peer_alone) test_net_2 refl)

-- a pair of an AS that a peer alone has
abbrev peer_with_pair : World
peer_with_pair = record { rows = peer_alone.rows; roles = peer_alone.roles; pairs = (test_net_3, 64503) ∷ [] }

pub lacks_customer_with_pairs
    : (w : World) × (i : ℕ) × (p : Block) × Has (list_a_with_pairs w i) p × ¬ Has (set_z_with_pairs w) p
lacks_customer_with_pairs = (
  peer_with_pair,
  2,
  test_net_3,
  found (list_a_with_pairs peer_with_pair 2) test_net_3 refl,
  lacks (set_z_with_pairs peer_with_pair) test_net_3 refl,
)

-- a pair of an AS that a customer has, and a prefix without a route
abbrev customer_with_pair : World
customer_with_pair = record {
  rows = row_of 0 test_net_2 (Some 64501) ∷ [];
  roles = (0, Customer) ∷ [];
  pairs = (test_net_3, 64501) ∷ [];
}

pub pairs_have_more : (w : World) × (p : Block) × Has (set_z_with_pairs w) p × ¬ Has (any w) p
pairs_have_more = (
  customer_with_pair,
  test_net_3,
  found (set_z_with_pairs customer_with_pair) test_net_3 refl,
  lacks (any customer_with_pair) test_net_3 refl,
)
