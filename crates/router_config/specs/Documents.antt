-- What a table of a TOML document holds. Our own choice of keys and ranges.
use Rattle.std.specs.Prelude.{ℕ, ◌&&◌, nat_le, Bool, true, List, [], ◌∷◌, Option, Some, None, option_and_then, is_some}
use Rattle.std.specs.Prelude.{pos, codes, bytes_eq, if◌then◌else◌}
use Rattle.std.specs.List.{list_all, list_any}
use Rattle.toml.specs.Data.{Data, integer, array, table, Items, no_items, item, Members, no_members, member, get}
use Rattle.toml.specs.Data.{as_str, as_table}
use Rattle.router_config.specs.declared.documents.Place.{Place}
use Rattle.router_config.specs.declared.documents.Place.TheVariants.{Top, Interface, Session}

-- the values of an array, in their order
abbrev pub values_of : Items → List Data
values_of no_items = []
values_of (item value more) = value ∷ values_of more

abbrev pub keys_of : Members → List (List ℕ)
keys_of no_members = []
keys_of (member key value more) = key ∷ keys_of more

abbrev pub is_table : Data → Bool
is_table value = is_some (as_table value)

-- the keys that a place may have
abbrev pub keys_at : Place → List (List ℕ)
keys_at Top = codes "interface" ∷ codes "session" ∷ []
keys_at Interface = codes "number" ∷ codes "role" ∷ codes "mode" ∷ []
keys_at Session = codes "interface" ∷ codes "peer_as" ∷ codes "hold" ∷ codes "max_prefixes" ∷ []

-- the key is one of these
abbrev pub is_one_of : List (List ℕ) → List ℕ → Bool
is_one_of known key = list_any (bytes_eq key) known

-- the table has no key but these
abbrev pub has_only : List (List ℕ) → Data → Bool
has_only known (table fields) = list_all (is_one_of known) (keys_of fields)
has_only known _ = true

-- the tables of an array that holds nothing else; an empty array is one of no tables
abbrev pub as_tables : Data → Option (List Data)
as_tables (array items) = if list_all is_table (values_of items) then Some (values_of items) else None
as_tables _ = None

-- a whole number within these bounds
abbrev pub as_number : ℕ → ℕ → Data → Option ℕ
as_number low high (integer (pos n)) = if nat_le low n && nat_le n high then Some n else None
as_number low high _ = None

-- the tables at a key
abbrev pub tables_at : List ℕ → Data → Option (List Data)
tables_at key place = option_and_then as_tables (get key place)

-- the whole number at a key
abbrev pub number_at : List ℕ → ℕ → ℕ → Data → Option ℕ
number_at key low high place = option_and_then (as_number low high) (get key place)

-- the text at a key
abbrev pub text_at : List ℕ → Data → Option (List ℕ)
text_at key place = option_and_then as_str (get key place)
