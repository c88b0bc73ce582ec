-- The hops of a path, the path that AS_PATH and AS4_PATH make together, and its origin (RFC 4271, section 9.1.2.2, a;
-- RFC 6793, section 4.2.3; RFC 6811, section 2).
use Rattle.std.specs.Prelude.{ℕ, ◌-◌, Bool, false, ◌||◌, ◌==◌, not, nat_lt, if◌then◌else◌, List, [], ◌∷◌, ◌++◌, length}
use Rattle.std.specs.Prelude.{map, take, Option, Some, None}
use Rattle.as_path.specs.declared.merge.Aggregators.{Aggregators}
use Rattle.as_path.specs.Path.{Segment, as_set, as_sequence}

-- a hop: an AS, or all of a set, which counts as one however many it has
pub data Hop : Type 0 where
  one_as : ℕ → Hop
  one_set : List ℕ → Hop

-- a sequence has a hop for each AS, and a set one for all of them (RFC 4271, section 9.1.2.2, a)
abbrev pub hops_of : Segment → List Hop
hops_of (as_set numbers) = one_set numbers ∷ []
hops_of (as_sequence numbers) = map one_as numbers

-- the hops of a path, in its order
abbrev pub hops : List Segment → List Hop
hops [] = []
hops (segment ∷ segments) = hops_of segment ++ hops segments

-- AGGREGATOR and AS4_AGGREGATOR are both there, and AGGREGATOR's AS is not AS_TRANS, 23456: AS4_PATH is ignored
abbrev pub is_aggregated_anew : Option ℕ → Option ℕ → Bool
is_aggregated_anew None four = false
is_aggregated_anew (Some own) None = false
is_aggregated_anew (Some own) (Some four) = not (own == 23456)

-- as many first hops of AS_PATH as it has more than AS4_PATH, and then those of AS4_PATH
abbrev pub joined : List Hop → List Hop → List Hop
joined path four = take (length path - length four) path ++ four

-- the path of the route: AS_PATH alone where no AS4_PATH counts, where it is ignored, or where it has more hops
-- than AS_PATH. Where both have equally many, it is AS4_PATH alone. An AS4_PATH of one set is one hop, which stands for
-- the last hop of AS_PATH. An AS4_PATH without segments, which is malformed (RFC 6793, section 6), changes nothing.
abbrev pub merged : List Segment → Option (List Segment) → Aggregators → List Hop
merged path None aggregators = hops path
merged path (Some four) aggregators =
    if is_aggregated_anew aggregators.own aggregators.four || nat_lt (length (hops path)) (length (hops four))
    then hops path else joined (hops path) (hops four)

-- AS 0 is the origin of nothing (RFC 7607, section 2)
abbrev pub unless_zero : ℕ → Option ℕ
unless_zero number = if number == 0 then None else Some number

-- a set has no origin (RFC 6811, section 2)
abbrev pub origin_of_hop : Hop → Option ℕ
origin_of_hop (one_as number) = unless_zero number
origin_of_hop (one_set numbers) = None

-- the origin is the last hop; a path of none, one that ends in a set and one that ends in AS 0 have none
abbrev pub origin : List Hop → Option ℕ
origin [] = None
origin (hop ∷ []) = origin_of_hop hop
origin (hop ∷ next ∷ more) = origin (next ∷ more)
