-- The table of pairs that a run begins with: the pairs of ROAs (RFC 6482) or of route objects (RFC 2622, section 4, and
-- RFC 4012, section 3), where the words name a table. How many it may have is our own choice.
use Rattle.std.specs.Prelude.{◌≡◌, ℕ, ◌<◌, ◌≤◌, List, length, Option, None, IsSomeAnd}
use Rattle.roa_irr.specs.Irr.{IsIrrTable}
use Rattle.roa_irr.specs.Tables.{Table, pairs_max}
use Rattle.roa_irr.specs.Vrps.{IsVrpTable}
use Rattle.urpf_cli.specs.TextRefusals.{IsTextRefused}
use Rattle.urpf_cli.specs.Words.{PairsFrom, nowhere, table}
use Rattle.urpf_cli.specs.declared.pair_table.TheConstants.{PAIRS_OCTETS}
use Rattle.urpf_cli.specs.declared.refusals.TextRefusal.{TextRefusal}
use Rattle.urpf_cli.specs.declared.refusals.TooManyPairs.{TooManyPairs}
use Rattle.urpf_cli.specs.declared.words.TableForm.{TableForm}
use Rattle.urpf_cli.specs.declared.words.TableForm.TheVariants.{Vrp, Irr}

-- the text is this table, written in this form
abbrev pub IsTable : TableForm → List ℕ → Table → Type 0
IsTable Vrp text pairs = IsVrpTable text pairs
IsTable Irr text pairs = IsIrrTable text pairs

-- the text has at most 128 MiB, and it is this table, of at most 4,000,000 pairs
pub record IsPairTable (form : TableForm) (text : List ℕ) (pairs : Table) : Type 0 where
  pub short : length text ≤ PAIRS_OCTETS
  pub is : IsTable form text pairs
  pub few : length pairs.pairs ≤ pairs_max

-- a run begins with this table; where its pairs come from nowhere there is none, whatever the text
abbrev pub HasTable : PairsFrom → List ℕ → Option Table → Type 0
HasTable nowhere text pairs = pairs ≡ None
HasTable (table form name) text pairs = IsSomeAnd pairs (IsPairTable form text)

-- the text is a table of more than 4,000,000 pairs, repeats counted
abbrev pub HasTooMany : TableForm → List ℕ → Type 0
HasTooMany form text = (pairs : Table) × IsTable form text pairs × (pairs_max < length pairs.pairs)

-- the text is refused as a table of pairs, for this; none is where the pairs come from nowhere
abbrev pub IsPairsRefused : PairsFrom → List ℕ → TextRefusal TooManyPairs → Type 0
IsPairsRefused nowhere text refusal = ⊥
IsPairsRefused (table form name) text refusal =
    IsTextRefused PAIRS_OCTETS (λ fault. HasTooMany form text) text refusal
