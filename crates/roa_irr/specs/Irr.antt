-- Which table of pairs a text of routing policy objects is: `route` objects give pairs of IPv4 (RFC 2622, section 4) and
-- `route6` objects of IPv6 (RFC 4012, section 3).
use Rattle.std.specs.Prelude.{◌≡◌, ◌++◌, ◌<◌, ℕ, List, [], ◌∷◌, length, codes, Option, Some, None}
use Rattle.std.specs.Prelude.{if◌then◌else◌}
use Rattle.std.specs.List.{AllZip}
use Rattle.urpf_base.specs.Address.{Block, width_of}
use Rattle.ip_text.specs.Prefixes.{SpellsAsn, SpellsPrefix}
use Rattle.roa_irr.specs.declared.pairs.Outcome.{Outcome}
use Rattle.roa_irr.specs.declared.pairs.Outcome.TheVariants as outcome
use Rattle.roa_irr.specs.Lines.{objects_of}
use Rattle.roa_irr.specs.Objects.{Attribute, attributes_of, first_named, is_named, value_of}
use Rattle.roa_irr.specs.Tables.{Table, pairs_max, pairs_of, table_of}

-- the text spells a prefix whose address has so many bits
abbrev pub SpellsOfWidth : ℕ → List ℕ → Block → Type 0
SpellsOfWidth width text prefix = SpellsPrefix text prefix × (width_of prefix.addr ≡ width)

-- the first attribute spells a prefix of so many bits, and the first origin an AS number
pub record GivesRoute (width : ℕ) (first : Attribute) (attributes : List Attribute) (prefix : Block) (origin : ℕ)
    : Type 0 where
  pub block : SpellsOfWidth width (value_of first) prefix
  pub holder : Attribute
  pub at_holder : first_named (codes "origin") attributes ≡ Some holder
  pub asn : SpellsAsn (value_of holder) origin

-- an object of a class that gives pairs gives its pair, and one that has none is skipped
abbrev pub RouteComesTo : ℕ → Attribute → List Attribute → Outcome → Type 0
RouteComesTo width first attributes (outcome.Pair prefix origin) = GivesRoute width first attributes prefix origin
RouteComesTo width first attributes outcome.Skipped =
    (prefix : Block) (origin : ℕ) → ¬ (GivesRoute width first attributes prefix origin)
RouteComesTo width first attributes outcome.Ignored = ⊥

-- how many bits the prefixes of a class have, which the first attribute names. None where the class gives no pairs
abbrev pub class_width : List ℕ → Option ℕ
class_width name =
    if is_named (codes "route") name then Some 32
    else (if is_named (codes "route6") name then Some 128 else None)

abbrev pub ClassComesTo : Option ℕ → Attribute → List Attribute → Outcome → Type 0
ClassComesTo None first attributes one = one ≡ outcome.Ignored
ClassComesTo (Some width) first attributes one = RouteComesTo width first attributes one

abbrev pub AttributesComeTo : List Attribute → Outcome → Type 0
AttributesComeTo [] one = one ≡ outcome.Ignored
AttributesComeTo (first ∷ more) one = ClassComesTo (class_width first.name) first (first ∷ more) one

-- what the lines of an object come to
abbrev pub ObjectComesTo : List (List ℕ) → Outcome → Type 0
ObjectComesTo lines one = AttributesComeTo (attributes_of lines) one

-- the text is this table
pub record IsIrrTable (text : List ℕ) (table : Table) : Type 0 where
  pub outcomes : List Outcome
  pub each : AllZip ObjectComesTo (objects_of text) outcomes
  pub value : table ≡ table_of outcomes

-- some objects, the first of the text, give more pairs than a table has
pub record OpensTooManyObjects (text : List ℕ) : Type 0 where
  pub objects : List (List (List ℕ))
  pub more : List (List (List ℕ))
  pub outcomes : List Outcome
  pub opens : objects_of text ≡ objects ++ more
  pub each : AllZip ObjectComesTo objects outcomes
  pub many : pairs_max < length (pairs_of outcomes)

-- some objects, the first of the text, give a pair
pub record OpensPair (text : List ℕ) : Type 0 where
  pub objects : List (List (List ℕ))
  pub more : List (List (List ℕ))
  pub outcomes : List Outcome
  pub opens : objects_of text ≡ objects ++ more
  pub each : AllZip ObjectComesTo objects outcomes
  pub some : 0 < length (pairs_of outcomes)
