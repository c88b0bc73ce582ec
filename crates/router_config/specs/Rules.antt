-- The rules of a configuration, over the document that a text is. Our own choice.
use Rattle.std.specs.Prelude.{ℕ, ◌==◌, nat_lt, nat_le, ◌||◌, not, Bool, true, false, List, [], ◌∷◌, ◌++◌, length}
use Rattle.std.specs.Prelude.{Option, Some, None, option_and_then, is_some, unwrap_or, codes, if◌then◌else◌}
use Rattle.std.specs.List.{list_any}
use Rattle.std.specs.Option.{option_map_or}
use Rattle.toml.specs.Data.{Data, get}
use Rattle.urpf_base.specs.declared.kinds.Mode.{Mode}
use Rattle.urpf_base.specs.declared.kinds.Role.{Role}
use Rattle.router_config.specs.Documents.{as_number, as_tables, has_only, keys_at, number_at, tables_at, text_at}
use Rattle.router_config.specs.Names.{mode_named, role_named}
use Rattle.router_config.specs.declared.documents.Place.TheVariants as place
use Rattle.router_config.specs.declared.faults.ConfigFault.{ConfigFault}
use Rattle.router_config.specs.declared.faults.ConfigKind.{ConfigKind}
use Rattle.router_config.specs.declared.faults.ConfigKind.TheVariants as kind

-- what is reported where a rule is broken, the place that it speaks of, and whether it is kept
pub record Rule : Type 0 where
  pub kind : ConfigKind
  pub index : ℕ
  pub kept : Bool

abbrev pub rule : ConfigKind → ℕ → Bool → Rule
rule kind index kept = record { kind = kind; index = index; kept = kept }

-- the fault is that of the first rule that is broken
abbrev pub first_broken : List Rule → Option ConfigFault
first_broken [] = None
first_broken (r ∷ rs) = if r.kept then first_broken rs else Some (record { kind = r.kind; index = r.index })

-- the number of an interface, from 0 to 63
abbrev pub number_of : Data → Option ℕ
number_of interface = number_at (codes "number") 0 63 interface

abbrev pub has_number : ℕ → Data → Bool
has_number number interface = option_map_or (λ n. n == number) (number_of interface) false

abbrev pub role_of : Data → Option Role
role_of interface = option_and_then role_named (text_at (codes "role") interface)

abbrev pub mode_of : Data → Option Mode
mode_of interface = option_and_then mode_named (text_at (codes "mode") interface)

-- none of these interfaces has this number
abbrev pub is_free : List Data → ℕ → Bool
is_free interfaces number = not (list_any (has_number number) interfaces)

-- an interface that stands behind these
abbrev pub interface_rules : List Data → Data → List Rule
interface_rules before interface =
    rule kind.UnknownKey (length before) (has_only (keys_at place.Interface) interface)
    ∷ rule kind.Number (length before) (is_some (number_of interface))
    ∷ rule kind.Repeat (length before) (option_map_or (is_free before) (number_of interface) true)
    ∷ rule kind.Role (length before) (is_some (role_of interface))
    ∷ rule kind.Mode (length before) (is_some (mode_of interface))
    ∷ []

-- the number of an interface, where one of these has it
abbrev pub configured : List Data → ℕ → Option ℕ
configured interfaces number = if is_free interfaces number then None else Some number

-- the interface of a session
abbrev pub iface_of : List Data → Data → Option ℕ
iface_of interfaces session = option_and_then (configured interfaces) (number_at (codes "interface") 0 63 session)

-- the AS number of the peer, of four octets (RFC 6793, section 3) and not 0
abbrev pub peer_as_of : Data → Option ℕ
peer_as_of session = number_at (codes "peer_as") 1 4294967295 session

-- a hold time in seconds: 0, or 3 or more (RFC 4271, section 4.2)
abbrev pub is_hold : ℕ → Bool
is_hold seconds = (seconds == 0) || nat_le 3 seconds

abbrev pub as_hold : Data → Option ℕ
as_hold value = option_and_then (λ n. if is_hold n then Some n else None) (as_number 0 65535 value)

-- the hold time, 90 seconds where it is left out
abbrev pub hold_of : Data → Option ℕ
hold_of session = option_map_or as_hold (get (codes "hold") session) (Some 90)

-- the most prefixes of a session, 2,000,000 where they are left out
abbrev pub max_of : Data → Option ℕ
max_of session = option_map_or (as_number 1 4000000) (get (codes "max_prefixes") session) (Some 2000000)

-- the session at this place among the sessions
abbrev pub session_rules : List Data → ℕ → Data → List Rule
session_rules interfaces index session =
    rule kind.UnknownKey index (has_only (keys_at place.Session) session)
    ∷ rule kind.Interface index (is_some (iface_of interfaces session))
    ∷ rule kind.PeerAs index (is_some (peer_as_of session))
    ∷ rule kind.Hold index (is_some (hold_of session))
    ∷ rule kind.MaxPrefixes index (is_some (max_of session))
    ∷ []

-- the rules of each table, which stands behind those before it
abbrev pub each : (List Data → Data → List Rule) → List Data → List Data → List Rule
each rules before [] = []
each rules before (one ∷ more) = rules before one ++ each rules (before ++ one ∷ []) more

-- the interfaces of a document
abbrev pub interfaces_of : Data → List Data
interfaces_of document = unwrap_or (tables_at (codes "interface") document) []

-- the sessions of a document, which may leave them out
abbrev pub sessions_at : Data → Option (List Data)
sessions_at document = option_map_or as_tables (get (codes "session") document) (Some [])

abbrev pub sessions_of : Data → List Data
sessions_of document = unwrap_or (sessions_at document) []

-- the rules of the sessions of a document with these interfaces
abbrev pub sessions_rules : List Data → Data → List Rule
sessions_rules interfaces document =
    rule kind.Sessions 0 (is_some (sessions_at document))
    ∷ rule kind.TooManySessions 0 (nat_le (length (sessions_of document)) 128)
    ∷ each (λ before. session_rules interfaces (length before)) [] (sessions_of document)

-- the rules of the interfaces of a document
abbrev pub interfaces_rules : List Data → List Rule
interfaces_rules interfaces =
    rule kind.Interfaces 0 (nat_lt 0 (length interfaces))
    ∷ rule kind.TooManyInterfaces 0 (nat_le (length interfaces) 64)
    ∷ each interface_rules [] interfaces

-- the rules of a document in their order
abbrev pub rules : Data → List Rule
rules document =
    rule kind.UnknownKey 0 (has_only (keys_at place.Top) document)
    ∷ interfaces_rules (interfaces_of document)
    ++ sessions_rules (interfaces_of document) document
