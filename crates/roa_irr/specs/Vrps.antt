-- Which table of pairs a text of validated payloads is. Our own reading of what validators write; RFC 4180 has the form
-- of its records.
use Rattle.std.specs.Prelude.{◌≡◌, ◌<◌, ℕ, List, length, Option, Some, true}
use Rattle.std.specs.Borrow.{Bor}
use Rattle.std.specs.List.{AllZip}
use Rattle.csv.specs.declared.parser.State.{State}
use Rattle.csv.specs.Reading.{AreRecords, Reached, Ready, default_config, strip_bom}
use Rattle.csv.specs.declared.reader.Reader.{Reader}
use Rattle.csv.specs.declared.reader.Trim.TheVariants as trim
use Rattle.csv.specs.Records.{field_at}
use Rattle.csv.specs.declared.parser.State.TheVariants as st
use Rattle.urpf_base.specs.Address.{Block}
use Rattle.ip_text.specs.Prefixes.{SpellsAsn, SpellsPrefix}
use Rattle.roa_irr.specs.declared.pairs.Outcome.{Outcome}
use Rattle.roa_irr.specs.declared.pairs.Outcome.TheVariants as outcome
use Rattle.roa_irr.specs.Tables.{Table, pairs_max, pairs_of, table_of}

-- the first field spells the AS number and the second the prefix. Nothing is said of further fields
pub record GivesPair (fields : List (List ℕ)) (prefix : Block) (origin : ℕ) : Type 0 where
  pub first : List ℕ
  pub second : List ℕ
  pub at_first : field_at fields 0 ≡ Some first
  pub at_second : field_at fields 1 ≡ Some second
  pub asn : SpellsAsn first origin
  pub block : SpellsPrefix second prefix

-- a record gives its pair, and one that has none is skipped
abbrev pub ComesTo : List (List ℕ) → Outcome → Type 0
ComesTo fields (outcome.Pair prefix origin) = GivesPair fields prefix origin
ComesTo fields outcome.Skipped = (prefix : Block) (origin : ℕ) → ¬ (GivesPair fields prefix origin)
ComesTo fields outcome.Ignored = ⊥

-- the records of the text, the first like any other and each of any number of fields
abbrev pub AreVrps : List ℕ → List (List (List ℕ)) → Type 0
AreVrps text rows = AreRecords default_config st.StartRecord (strip_bom text) rows

-- the text is this table
pub record IsVrpTable (text : List ℕ) (table : Table) : Type 0 where
  pub rows : List (List (List ℕ))
  pub outcomes : List Outcome
  pub records : AreVrps text rows
  pub each : AllZip ComesTo rows outcomes
  pub value : table ≡ table_of outcomes

-- some records, the first of the text, give more pairs than a table has
pub record OpensTooMany (text : List ℕ) : Type 0 where
  pub rows : List (List (List ℕ))
  pub outcomes : List Outcome
  pub state : State
  pub rest : List ℕ
  pub opens : Reached default_config st.StartRecord (strip_bom text) rows state rest
  pub each : AllZip ComesTo rows outcomes
  pub many : pairs_max < length (pairs_of outcomes)

-- the octets that a slice has left
abbrev pub known : Bor (List ℕ) → Option (List ℕ)
known text = Some text.now

-- a reader that trims nothing, and takes records of any number of fields, the next like any other
pub record IsSetUp (reader : Reader (Bor (List ℕ))) : Type 0 where
  pub trim : reader.trim ≡ trim.None
  pub config : reader.config ≡ default_config
  pub flexible : reader.flexible ≡ true
  pub ready : Ready reader
