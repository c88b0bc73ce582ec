-- What a list of attributes tells the router.
use Rattle.std.specs.Prelude.{◌≡◌, ◌<◌, ℕ, Bool, ◌==◌, if◌then◌else◌, is_some, List, [], length, drop, Option, Some}
use Rattle.std.specs.Prelude.{None, option_map}
use Rattle.byteorder.specs.Endian.{big_number}
use Rattle.as_path.specs.declared.widths.Width.{Width}
use Rattle.as_path.specs.declared.widths.Width.TheVariants.{Two, Four}
use Rattle.as_path.specs.Path.{Segment, IsPath, octets_per}
use Rattle.bgp_attr.specs.declared.attrs.Attrs.{Attrs}
use Rattle.bgp_attr.specs.Attribute.{Attribute}
use Rattle.bgp_attr.specs.Faults.{AreAttributes}
use Rattle.bgp_attr.specs.Slots.{Values, values_of}
use Rattle.bgp_attr.specs.Table.{is_heeded, reach_place}

-- the path is that of the value, and none where there is no value
abbrev pub TellsPath : Width → Option (List ℕ) → Option (List Segment) → Type 0
TellsPath width None None = Unit {0}
TellsPath width None (Some segments) = ⊥
TellsPath width (Some value) None = ⊥
TellsPath width (Some value) (Some segments) = IsPath width value segments

-- AS4_PATH is discarded where it is malformed, as one without segments is (RFC 6793, section 6)
abbrev pub TellsAs4Path : List ℕ → Option (List Segment) → Type 0
TellsAs4Path value None = (segments : List Segment) → 0 < length segments → IsPath Four value segments → ⊥
TellsAs4Path value (Some segments) = (0 < length segments) × IsPath Four value segments

-- from a peer of four-octet AS numbers AS4_PATH is discarded (RFC 6793, section 4.1)
abbrev pub TellsAs4 : Width → Option (List ℕ) → Option (List Segment) → Type 0
TellsAs4 Four value path = path ≡ None
TellsAs4 Two None path = path ≡ None
TellsAs4 Two (Some value) path = TellsAs4Path value path

-- AGGREGATOR is an AS number, of as many octets as in AS_PATH, and an address (RFC 4271, section 4.3, g)
abbrev pub aggregator_in : Width → Option (List ℕ) → Option ℕ
aggregator_in width value = option_map (big_number (octets_per width)) value

-- AS4_AGGREGATOR is discarded where it has not 8 octets, and from a peer of four-octet AS numbers (RFC 6793, sections
-- 4.1 and 6)
abbrev pub as4_aggregator_in : Width → Option (List ℕ) → Option ℕ
as4_aggregator_in Four value = None
as4_aggregator_in Two None = None
as4_aggregator_in Two (Some value) = if length value == 8 then Some (big_number 4 value) else None

-- the octets of the IPv6 prefixes of MP_REACH_NLRI, none where it is not there or passed over
abbrev pub reach_in : Bool → Option (List ℕ) → List ℕ
reach_in v6 None = []
reach_in v6 (Some value) = if is_heeded v6 value then drop (reach_place value) value else []

-- the octets of the IPv6 prefixes of MP_UNREACH_NLRI, none where it is not there or passed over
abbrev pub unreach_in : Bool → Option (List ℕ) → List ℕ
unreach_in v6 None = []
unreach_in v6 (Some value) = if is_heeded v6 value then drop 3 value else []

-- all that these values tell
pub record TellsValues (width : Width) (v6 : Bool) (held : Values) (attrs : Attrs) : Type 0 where
  pub origin : attrs.has_origin ≡ is_some held.origin
  pub path : TellsPath width held.path attrs.path
  pub next_hop : attrs.has_next_hop ≡ is_some held.next_hop
  pub as4 : TellsAs4 width held.as4 attrs.as4
  pub own : attrs.aggregators.own ≡ aggregator_in width held.aggregator
  pub four : attrs.aggregators.four ≡ as4_aggregator_in width held.as4_aggregator
  pub reach : attrs.reach.now ≡ reach_in v6 held.reach
  pub unreach : attrs.unreach.now ≡ unreach_in v6 held.unreach

-- all that the attributes tell
abbrev pub Tells : Width → Bool → List Attribute → Attrs → Type 0
Tells width v6 attributes attrs = TellsValues width v6 (values_of attributes) attrs

-- the field is attributes as the table asks, and this is all that they tell
pub record IsRead (width : Width) (v6 : Bool) (field : List ℕ) (attrs : Attrs) : Type 0 where
  pub attributes : List Attribute
  pub good : AreAttributes width v6 field attributes
  pub tells : Tells width v6 attributes attrs
