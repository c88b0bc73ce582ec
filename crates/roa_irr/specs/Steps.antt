-- What the steps of reading objects come to. Our own choice of steps.
use Rattle.std.specs.Prelude.{◌≡◌, ℕ, Bool, false, List, [], ◌∷◌, Option, Some, None, IfSome, codes}
use Rattle.std.specs.Prelude.{if◌then◌else◌}
use Rattle.urpf_base.specs.Address.{Block}
use Rattle.ip_text.specs.Prefixes.{SpellsAsn}
use Rattle.roa_irr.specs.declared.lines.Line.{Line}
use Rattle.roa_irr.specs.declared.lines.Line.TheVariants as line
use Rattle.roa_irr.specs.declared.objects.Object.{Object}
use Rattle.roa_irr.specs.declared.objects.Object.TheVariants as object
use Rattle.roa_irr.specs.declared.pairs.Outcome.{Outcome}
use Rattle.roa_irr.specs.declared.pairs.Outcome.TheVariants as outcome
use Rattle.roa_irr.specs.declared.values.Value.{Value}
use Rattle.roa_irr.specs.declared.values.Value.TheVariants as value
use Rattle.roa_irr.specs.Lines.{HasSpace, is_empty, lines_of, trimmed}
use Rattle.roa_irr.specs.Objects.{Attribute, Continued, continued, first_named, value_of, with_attribute, with_line, with_part}
use Rattle.roa_irr.specs.Irr.{SpellsOfWidth, class_width}

-- the line has an octet, and does this to what follows it
abbrev pub Does : List ℕ → (Continued → Continued) → Type 0
Does text step = (is_empty text ≡ false) × ((more : Continued) → with_line text more ≡ step more)

-- what a line is
abbrev pub IsLine : List ℕ → Line → Type 0
IsLine text line.Empty = text ≡ []
IsLine text line.Passed = Does text (λ more. more)
IsLine text (line.Continued part) = Does text (with_part part.now)
IsLine text (line.Begins name part) = Does text (with_attribute name.now part.now)

-- the lines up to the first empty one
abbrev pub before_empty : List (List ℕ) → List (List ℕ)
before_empty [] = []
before_empty ([] ∷ lines) = []
before_empty ((octet ∷ octets) ∷ lines) = (octet ∷ octets) ∷ before_empty lines

-- the lines behind the first empty one. None where there is none
abbrev pub behind_empty : List (List ℕ) → Option (List (List ℕ))
behind_empty [] = None
behind_empty ([] ∷ lines) = Some lines
behind_empty ((octet ∷ octets) ∷ lines) = behind_empty lines

-- what the object that the text begins with, or goes on with, comes to
abbrev pub ahead : List ℕ → Continued
ahead text = continued (before_empty (lines_of text))

-- what is known of a joined value: without blanks around it, it is this text, or it has a space
abbrev pub IsValue : List ℕ → Value → Type 0
IsValue joined (value.One text) = trimmed joined ≡ text.now
IsValue joined value.Parted = HasSpace (trimmed joined)

-- how many bits an address of IPv6, or else of IPv4, has
abbrev pub width : Bool → ℕ
width v6 = if v6 then 128 else 32

-- the thing that P tells, or that there is none
pub record IsKnown {A : Type 0} (P : A → Type 0) (found : Option A) : Type 0 where
  pub is : IfSome found P
  pub only : (a : A) → P a → found ≡ Some a

-- the attributes begin with one that names a class which gives pairs, and this is the prefix that it spells, if any
pub record IsRoute (attributes : List Attribute) (prefix : Option Block) : Type 0 where
  pub first : Attribute
  pub more : List Attribute
  pub width : ℕ
  pub begins : attributes ≡ first ∷ more
  pub class : class_width first.name ≡ Some width
  pub block : IsKnown (SpellsOfWidth width (value_of first)) prefix

-- the first origin, and the AS number that it spells, if any
pub record HasOrigin (attributes : List Attribute) (origin : Option ℕ) : Type 0 where
  pub holder : Attribute
  pub at_holder : first_named (codes "origin") attributes ≡ Some holder
  pub asn : IsKnown (SpellsAsn (value_of holder)) origin

-- what the attributes of an object so far come to
abbrev pub Sees : List Attribute → Object → Type 0
Sees attributes object.New = attributes ≡ []
Sees attributes object.Other =
    (first : Attribute) × (more : List Attribute) × (attributes ≡ first ∷ more) × (class_width first.name ≡ None)
Sees attributes (object.Route prefix) =
    IsRoute attributes prefix × (first_named (codes "origin") attributes ≡ None)
Sees attributes (object.Held prefix origin) = IsRoute attributes prefix × HasOrigin attributes origin

-- the pair of a prefix and an origin, where both are there
abbrev pub outcome_from : Option Block → Option ℕ → Outcome
outcome_from (Some prefix) (Some origin) = outcome.Pair prefix origin
outcome_from (Some prefix) None = outcome.Skipped
outcome_from None origin = outcome.Skipped
