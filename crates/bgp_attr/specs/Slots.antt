-- The values of the attributes that the router looks at.
use Rattle.std.specs.Prelude.{◌≡◌, ℕ, ◌+◌, ◌==◌, Bool, if◌then◌else◌, List, [], ◌∷◌, length, Option, Some, None}
use Rattle.std.specs.Option.{ForSome}
use Rattle.as_path.specs.declared.widths.Width.{Width}
use Rattle.as_path.specs.Path.{octets_per}
use Rattle.bgp_attr.specs.declared.types.AttributeType.{AttributeType}
use Rattle.bgp_attr.specs.declared.types.AttributeType.TheVariants.{Origin, AsPath, NextHop, Aggregator, MpReachNlri}
use Rattle.bgp_attr.specs.declared.types.AttributeType.TheVariants.{MpUnreachNlri, As4Path, As4Aggregator}
use Rattle.bgp_attr.specs.Attribute.{Attribute}
use Rattle.bgp_attr.specs.Table.{code_of, IsAsPath, IsMpReach, IsMpUnreach}

-- the value of the first attribute with this code
abbrev pub value_at : ℕ → List Attribute → Option (List ℕ)
value_at code [] = None
value_at code (attribute ∷ attributes) =
    if attribute.code == code then Some attribute.value else value_at code attributes

abbrev pub value_of : AttributeType → List Attribute → Option (List ℕ)
value_of type attributes = value_at (code_of type) attributes

-- the value of each type, none where it is not there
pub record Values : Type 0 where
  pub origin : Option (List ℕ)
  pub path : Option (List ℕ)
  pub next_hop : Option (List ℕ)
  pub aggregator : Option (List ℕ)
  pub reach : Option (List ℕ)
  pub unreach : Option (List ℕ)
  pub as4 : Option (List ℕ)
  pub as4_aggregator : Option (List ℕ)

abbrev pub values : Option (List ℕ) → Option (List ℕ) → Option (List ℕ) → Option (List ℕ) → Option (List ℕ)
    → Option (List ℕ) → Option (List ℕ) → Option (List ℕ) → Values
values origin path next_hop aggregator reach unreach as4 as4_aggregator =
    record {
      origin = origin;
      path = path;
      next_hop = next_hop;
      aggregator = aggregator;
      reach = reach;
      unreach = unreach;
      as4 = as4;
      as4_aggregator = as4_aggregator;
    }

-- those of a list of attributes
abbrev pub values_of : List Attribute → Values
values_of attributes =
    values (value_of Origin attributes) (value_of AsPath attributes) (value_of NextHop attributes)
    (value_of Aggregator attributes)
    (value_of MpReachNlri attributes) (value_of MpUnreachNlri attributes) (value_of As4Path attributes)
    (value_of As4Aggregator attributes)

abbrev pub no_values : Values
no_values = values None None None None None None None None

-- the value of the attribute where it has this code, and else the old one
abbrev pub put : ℕ → Attribute → Option (List ℕ) → Option (List ℕ)
put code attribute old = if attribute.code == code then Some attribute.value else old

-- the values with that of one more attribute
abbrev pub with_attribute : Attribute → Values → Values
with_attribute attribute old =
    values (put (code_of Origin) attribute old.origin) (put (code_of AsPath) attribute old.path)
    (put (code_of NextHop) attribute old.next_hop) (put (code_of Aggregator) attribute old.aggregator)
    (put (code_of MpReachNlri) attribute old.reach) (put (code_of MpUnreachNlri) attribute old.unreach)
    (put (code_of As4Path) attribute old.as4) (put (code_of As4Aggregator) attribute old.as4_aggregator)

-- the values that are read further are as the table asks
pub record AreFit (width : Width) (v6 : Bool) (held : Values) : Type 0 where
  pub path : ForSome held.path (IsAsPath width)
  pub aggregator : ForSome held.aggregator (λ value. length value ≡ octets_per width + 4)
  pub reach : ForSome held.reach (IsMpReach v6)
  pub unreach : ForSome held.unreach (IsMpUnreach v6)
