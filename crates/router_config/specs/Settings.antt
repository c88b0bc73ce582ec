-- What a document configures, and which texts are configurations. Our own choice.
use Rattle.std.specs.Prelude.{◌≡◌, ◌⊎◌, ℕ, zero, suc, List, [], ◌∷◌, ◌++◌, Option, Some, None, option_and_then, find}
use Rattle.std.specs.Prelude.{filter_map, IsUtf8}
use Rattle.toml.specs.Data.{Data, Members, table}
use Rattle.toml.specs.Parse.{parse_document}
use Rattle.urpf_base.specs.declared.kinds.Kind.{Kind}
use Rattle.urpf_base.specs.declared.kinds.Mode.{Mode}
use Rattle.urpf_base.specs.declared.kinds.Role.{Role}
use Rattle.urpf_base.specs.declared.sessions.SessionConfig.{SessionConfig}
use Rattle.router_config.specs.Kinds.{Row}
use Rattle.router_config.specs.Rules.{first_broken, has_number, hold_of, iface_of, interfaces_of, max_of, mode_of}
use Rattle.router_config.specs.Rules.{peer_as_of, role_of, rules, sessions_of}
use Rattle.router_config.specs.declared.faults.ConfigFault.{ConfigFault}
use Rattle.router_config.specs.declared.faults.ConfigKind.TheVariants as kind

-- a configuration: the interfaces by ascending number, and the sessions in their order
pub record Settings : Type 0 where
  pub interfaces : List Row
  pub sessions : List SessionConfig

abbrev pub kind_with : Option Role → Option Mode → Option Kind
kind_with (Some role) (Some mode) = Some (record { role = role; mode = mode })
kind_with _ _ = None

-- the kind of an interface
abbrev pub kind_of : Data → Option Kind
kind_of interface = kind_with (role_of interface) (mode_of interface)

-- the kind of the interface with this number
abbrev pub kind_at : List Data → ℕ → Option Kind
kind_at interfaces number = option_and_then kind_of (find (has_number number) interfaces)

abbrev pub row_of : ℕ → Option Kind → List Row
row_of number None = []
row_of number (Some kind) = (number, kind) ∷ []

-- the interfaces whose numbers are below this one, by ascending number
unfoldable pub rows_below : List Data → ℕ → List Row
rows_below interfaces zero = []
rows_below interfaces (suc n) = rows_below interfaces n ++ row_of n (kind_at interfaces n)

abbrev pub session_with : Option ℕ → Option ℕ → Option ℕ → Option ℕ → Option SessionConfig
session_with (Some iface) (Some peer_as) (Some hold) (Some max) =
    Some (record { iface = iface; peer_as = peer_as; hold = hold; max = max })
session_with _ _ _ _ = None

-- what a session is configured with
abbrev pub session_of : List Data → Data → Option SessionConfig
session_of interfaces session =
    session_with (iface_of interfaces session) (peer_as_of session) (hold_of session) (max_of session)

-- what a document configures that breaks no rule
abbrev pub settings_of : Data → Settings
settings_of document = record {
  interfaces = rows_below (interfaces_of document) 64;
  sessions = filter_map (session_of (interfaces_of document)) (sessions_of document);
}

-- the text is a TOML document (TOML 1.1), with these members
abbrev pub IsDocument : List ℕ → Members → Type 0
IsDocument text members = IsUtf8 text × (parse_document text ≡ Some members)

-- the text is a document that breaks no rule and configures this
pub record IsConfig (text : List ℕ) (config : Settings) : Type 0 where
  pub members : Members
  pub parsed : IsDocument text members
  pub kept : first_broken (rules (table members)) ≡ None
  pub value : config ≡ settings_of (table members)

-- the text is a document, and this is the first rule that it breaks
pub record BreaksRule (text : List ℕ) (fault : ConfigFault) : Type 0 where
  pub members : Members
  pub parsed : IsDocument text members
  pub broken : first_broken (rules (table members)) ≡ Some fault

-- the text is refused for this: it is no document, or breaks a rule
abbrev pub IsRefused : List ℕ → ConfigFault → Type 0
IsRefused text fault =
    (((members : Members) → ¬ (IsDocument text members)) × (fault ≡ record { kind = kind.NotToml; index = 0 }))
    ⊎ BreaksRule text fault
