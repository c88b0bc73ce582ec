-- An UPDATE without a fault, and what it says (RFC 4271, sections 4.3 and 5; RFC 4760; RFC 6793).
use Rattle.std.specs.Prelude.{◌≡◌, ◌⊎◌, ◌<◌, ℕ, Bool, List, ◌++◌, length, IsSome, Option, Some, None}
use Rattle.urpf_base.specs.Address.{Block}
use Rattle.urpf_base.specs.RouteUpdates.{RouteUpdate}
use Rattle.bgp_nlri.specs.Nlri.{SpellsPrefixes}
use Rattle.bgp_nlri.specs.declared.family.Family.TheVariants.{V4, V6}
use Rattle.as_path.specs.declared.merge.Aggregators.{Aggregators}
use Rattle.as_path.specs.declared.widths.Width.{Width}
use Rattle.as_path.specs.Hops.{origin, merged}
use Rattle.as_path.specs.Path.{Segment}
use Rattle.bgp_attr.specs.Attribute.{Attribute}
use Rattle.bgp_attr.specs.Faults.{AreAttributes}
use Rattle.bgp_attr.specs.Slots.{Values, values_of}
use Rattle.bgp_attr.specs.Told.{TellsPath, TellsAs4, aggregator_in, as4_aggregator_in, reach_in, unreach_in}
use Rattle.bgp_update.specs.Layout.{IsLaidOut}

-- the prefixes are those of a field of IPv4 prefixes, and then those of a field of IPv6 prefixes
pub record SpellsBoth (ipv4 ipv6 : List ℕ) (prefixes : List Block) : Type 0 where
  pub front : List Block
  pub back : List Block
  pub spells_front : SpellsPrefixes V4 ipv4 front
  pub spells_back : SpellsPrefixes V6 ipv6 back
  pub joined : prefixes ≡ front ++ back

-- a route is announced, in the NLRI or in an MP_REACH_NLRI that is not passed over
abbrev pub IsAnnouncing : Bool → List ℕ → Values → Type 0
IsAnnouncing v6 nlri held = (0 < length nlri) ⊎ (0 < length (reach_in v6 held.reach))

-- a route has ORIGIN and AS_PATH, and one in the NLRI has NEXT_HOP too (RFC 4271, section 5; RFC 4760, section 3)
pub record HasMandatory (v6 : Bool) (nlri : List ℕ) (held : Values) : Type 0 where
  pub origin : IsAnnouncing v6 nlri held → IsSome held.origin
  pub path : IsAnnouncing v6 nlri held → IsSome held.path
  pub next_hop : 0 < length nlri → IsSome held.next_hop

-- the AS numbers of AGGREGATOR and AS4_AGGREGATOR
abbrev pub aggregators_in : Width → Values → Aggregators
aggregators_in width held =
    record { own = aggregator_in width held.aggregator; four = as4_aggregator_in width held.as4_aggregator }

-- the origin of the path that AS_PATH and AS4_PATH make together, none where AS_PATH is missing
abbrev pub route_origin : Option (List Segment) → Option (List Segment) → Aggregators → Option ℕ
route_origin None four aggregators = None
route_origin (Some path) four aggregators = origin (merged path four aggregators)

-- these attributes tell this origin
pub record TellsOrigin (width : Width) (held : Values) (told : Option ℕ) : Type 0 where
  pub path : Option (List Segment)
  pub four : Option (List Segment)
  pub tells_path : TellsPath width held.path path
  pub tells_four : TellsAs4 width held.as4 four
  pub value : told ≡ route_origin path four (aggregators_in width held)

-- the body is an UPDATE without a fault, from a peer with AS numbers of this width that listed IPv6 unicast or did not,
-- and it withdraws and announces these prefixes, with this origin
pub record IsUpdate (width : Width) (v6 : Bool) (body : List ℕ) (update : RouteUpdate) : Type 0 where
  pub withdrawn : List ℕ
  pub field : List ℕ
  pub nlri : List ℕ
  pub laid_out : IsLaidOut body withdrawn field nlri
  pub attributes : List Attribute
  pub good : AreAttributes width v6 field attributes
  pub mandatory : HasMandatory v6 nlri (values_of attributes)
  pub withdraws : SpellsBoth withdrawn (unreach_in v6 (values_of attributes).unreach) update.withdrawn
  pub announces : SpellsBoth nlri (reach_in v6 (values_of attributes).reach) update.announced
  pub origin : TellsOrigin width (values_of attributes) update.origin
