-- How far a table was read, and what follows at each end of the reading.
use Rattle.std.proofs.Common.{◌≡◌, ◌⊎◌, inr, ℕ, ◌+◌, ◌≤◌, ◌<◌, List, [], ◌∷◌, ◌++◌, length, Some, None, Result, Ok, Err}
use Rattle.std.proofs.Common.{refl, sym, ap, subst, ◌∙◌, arith, length-append, append-nil, Bor, false}
use Rattle.std.specs.Result.{IsErrAnd}
use Rattle.std.specs.List.{AllZip}
use Rattle.csv.specs.Machine.{next_record}
use Rattle.csv.specs.declared.error.ErrorKind.{ErrorKind}
use Rattle.csv.specs.declared.error.ErrorKind.TheVariants as kind
use Rattle.std.proofs.Common.{Option, true}
use Rattle.csv.specs.Reading.{ExplainsRead, ReadRecord, stops_reader, AreRecords, Reached, default_config, source_of, strip_bom}
use Rattle.csv.specs.declared.parser.Config.{Config}
use Rattle.csv.specs.declared.reader.Reader.{Reader}
use Rattle.csv.proofs.ReadFacts.{rows-more}
use Rattle.csv.specs.declared.reader.Trim.TheVariants as trim
use Rattle.csv.specs.declared.parser.State.{State}
use Rattle.csv.specs.declared.parser.State.TheVariants as st
use Rattle.roa_irr.specs.declared.pairs.Outcome.{Outcome}
use Rattle.roa_irr.specs.declared.pairs.PairsFault.{PairsFault}
use Rattle.roa_irr.specs.declared.pairs.PairsFault.TheVariants as fault
use Rattle.origin_pairs.specs.Pairs.{Pair}
use Rattle.roa_irr.specs.Tables.{IsOnly, Table, pairs_max, pairs_of, skipped_of, table_of}
use Rattle.roa_irr.specs.Vrps.{ComesTo, IsSetUp, IsVrpTable, OpensTooMany, known}
use Rattle.roa_irr.proofs.Records.{begins, few_records, left, left_less, stripped}
use Rattle.roa_irr.proofs.Outcomes.{Rows, zip_begins, zip_found, zip_more, pairs_of-append, skipped_of-append, few_skipped}

-- these records were read, up to this state and rest, and came to this table
pub record IsReadTo (text : List ℕ) (state : State) (rest : List ℕ) (table : Table) : Type 0 where
  pub rows : Rows
  pub outcomes : List Outcome
  pub reached : Reached default_config st.StartRecord (strip_bom text) rows state rest
  pub each : AllZip (IsOnly ComesTo) rows outcomes
  pub pairs : table.pairs ≡ pairs_of outcomes
  pub skipped : table.skipped ≡ skipped_of outcomes

-- so many are skipped at most
pub skipped_within : (text : List ℕ) (state : State) (rest : List ℕ) (table : Table) → IsReadTo text state rest table
    → table.skipped ≤ length text + 1
skipped_within text state rest table r =
    let few = few_records default_config st.StartRecord (strip_bom text) r.rows state rest r.reached in
    let less = few_skipped ComesTo r.rows r.outcomes r.each in
    let cut = stripped text in
    let is = r.skipped in
    omega arith

abbrev pub table_with : List Pair → ℕ → Table
table_with pairs skipped = record { pairs = pairs; skipped = skipped }

pub same_table : (a b : Table) → a.pairs ≡ b.pairs → a.skipped ≡ b.skipped → a ≡ b
same_table a b pairs skipped = ap (λ ps. table_with ps a.skipped) pairs ∙ ap (λ n. table_with b.pairs n) skipped

-- at the end of the text, the table is that of the text
pub table_read : (text : List ℕ) (state : State) (rest : List ℕ) (table : Table) → IsReadTo text state rest table
    → next_record default_config state [] [] rest ≡ None → IsVrpTable text table
table_read text state rest table r none = record {
  rows = r.rows;
  outcomes = r.outcomes;
  records = (state, rest, r.reached, none);
  each = zip_found ComesTo r.rows r.outcomes r.each;
  value = same_table table (table_of r.outcomes) r.pairs r.skipped;
}

-- a table of the text begins with the pairs that were read
pub table_begins : (text : List ℕ) (state : State) (rest : List ℕ) (table other : Table)
    → IsReadTo text state rest table → IsVrpTable text other
    → (more : Rows) × (after : List Outcome) × AreRecords default_config state rest more × AllZip ComesTo more after
    × (other.pairs ≡ table.pairs ++ pairs_of after) × (other.skipped ≡ table.skipped + skipped_of after)
table_begins text state rest table other r is =
    let front = begins default_config st.StartRecord (strip_bom text) r.rows is.rows state rest r.reached is.records in
    let all = zip_begins ComesTo r.rows front.0 r.outcomes is.outcomes r.each
    (subst (λ rs. AllZip ComesTo rs is.outcomes) front.1 is.each) in (
      front.0,
      all.0,
      front.2,
      all.2,
      ap (λ t. t.pairs) is.value ∙ ap pairs_of all.1 ∙ pairs_of-append r.outcomes all.0
          ∙ ap (λ ps. ps ++ pairs_of all.0) (sym r.pairs),
      ap (λ t. t.skipped) is.value ∙ ap skipped_of all.1 ∙ skipped_of-append r.outcomes all.0
          ∙ ap (λ n. n + skipped_of all.0) (sym r.skipped),
    )

-- one more record, and what it comes to
pub one_more : (text : List ℕ) (state : State) (rest : List ℕ) (table : Table) (r : IsReadTo text state rest table)
    (row : List (List ℕ)) (one : Outcome) (state2 : State) (rest2 : List ℕ) (new : Table)
    → Reached default_config st.StartRecord (strip_bom text) (r.rows ++ row ∷ []) state2 rest2
    → IsOnly ComesTo row one → new.pairs ≡ table.pairs ++ pairs_of (one ∷ [])
    → new.skipped ≡ table.skipped + skipped_of (one ∷ []) → IsReadTo text state2 rest2 new
one_more text state rest table r row one state2 rest2 new reached is pairs skipped = record {
  rows = r.rows ++ row ∷ [];
  outcomes = r.outcomes ++ one ∷ [];
  reached = reached;
  each = zip_more ComesTo r.rows r.outcomes row one r.each is;
  pairs = pairs ∙ ap (λ ps. ps ++ pairs_of (one ∷ [])) r.pairs ∙ sym (pairs_of-append r.outcomes (one ∷ []));
  skipped =
      skipped ∙ ap (λ n. n + skipped_of (one ∷ [])) r.skipped ∙ sym (skipped_of-append r.outcomes (one ∷ []));
}

-- the table with what one more record comes to
abbrev pub with_one : Table → Outcome → Table
with_one table one = record {
  pairs = table.pairs ++ pairs_of (one ∷ []);
  skipped = table.skipped + skipped_of (one ∷ []);
}

-- where there is no room for the pair of the next record, the text has too many
pub opens_many : (text : List ℕ) (state : State) (rest : List ℕ) (table : Table) (r : IsReadTo text state rest table)
    (row : List (List ℕ)) (one : Outcome) (state2 : State) (rest2 : List ℕ)
    → Reached default_config st.StartRecord (strip_bom text) (r.rows ++ row ∷ []) state2 rest2
    → IsOnly ComesTo row one → pairs_max < length table.pairs + length (pairs_of (one ∷ [])) → OpensTooMany text
opens_many text state rest table r row one state2 rest2 reached is many =
    let all = one_more text state rest table r row one state2 rest2 (with_one table one) reached is refl refl in
    let sum = length-append table.pairs (pairs_of (one ∷ [])) in
    let same = ap (λ (ps : List Pair). length ps) all.pairs in
    record {
      rows = all.rows;
      outcomes = all.outcomes;
      state = state2;
      rest = rest2;
      opens = all.reached;
      each = zip_found ComesTo all.rows all.outcomes all.each;
      many = omega arith;
    }

pub too_many : (text : List ℕ) (state : State) (rest : List ℕ) (table : Table) (r : IsReadTo text state rest table)
    (row : List (List ℕ)) (one : Outcome) (state2 : State) (rest2 : List ℕ)
    → Reached default_config st.StartRecord (strip_bom text) (r.rows ++ row ∷ []) state2 rest2
    → IsOnly ComesTo row one → pairs_max < length table.pairs + length (pairs_of (one ∷ []))
    → (other : Table) → IsVrpTable text other → pairs_max < length other.pairs
too_many text state rest table r row one state2 rest2 reached is many other of =
    let all = one_more text state rest table r row one state2 rest2 (with_one table one) reached is refl refl in
    let sum = length-append table.pairs (pairs_of (one ∷ [])) in
    let front = table_begins text state2 rest2 (with_one table one) other all of in
    let same = ap (λ (ps : List Pair). length ps) front.4 in
    let long = length-append (table.pairs ++ pairs_of (one ∷ [])) (pairs_of front.1) in
    omega arith

pub none_more : (cfg : Config) (s : State) (rest : List ℕ) (more : Rows) → AreRecords cfg s rest more
    → next_record cfg s [] [] rest ≡ None → more ≡ []
unfolding Reached
none_more cfg s rest [] are none = refl
none_more cfg s rest (row ∷ rows) are none = absurd (let some = are.2.1 in cc)

none_after : (after : List Outcome) → AllZip ComesTo [] after → after ≡ []
none_after [] all = refl
none_after (o ∷ after) all = absurd all

-- a text has one table
pub one_table : (text : List ℕ) (state : State) (rest : List ℕ) (table other : Table) → IsReadTo text state rest table
    → next_record default_config state [] [] rest ≡ None → IsVrpTable text other → table ≡ other
one_table text state rest table other r none is =
    let front = table_begins text state rest table other r is in
    let no_rows = none_more default_config state rest front.0 front.2 none in
    let no_after = none_after front.1 (subst (λ rs. AllZip ComesTo rs front.1) no_rows front.3) in
    same_table table other
    (sym (front.4 ∙ ap (λ os. table.pairs ++ pairs_of os) no_after ∙ append-nil table.pairs))
    (let e = front.5 in let n = ap skipped_of no_after in omega arith)

-- what is known while the reader reads on
pub record IsReading (text : List ℕ) (reader : Reader (Bor (List ℕ))) (table : Table) : Type 0 where
  pub set_up : IsSetUp reader
  pub rest : List ℕ
  pub source : source_of known reader ≡ Some rest
  pub read : IsReadTo text reader.state rest table
  pub fits : length table.pairs ≤ pairs_max

-- a fault that is handed on is the same
pub handed_on : (r : Result Table PairsFault) (f : PairsFault) → IsErrAnd r (λ g. g ≡ f) → r ≡ Err f
handed_on (Ok t) f is = absurd is
handed_on (Err g) f is = ap (λ x. Err x) is

pub same_fault : (r : Result Table PairsFault) (f g : PairsFault) → r ≡ Err f → r ≡ Err g → f ≡ g
same_fault r f g a b = cc

pub not_both : (n m : ℕ) → n ≤ m → m < n → ⊥
not_both n m short long = omega arith

-- a fault other than too many pairs is want of memory
pub is_memory : {P : Type 0} (r : Result Table PairsFault) (f : PairsFault) → r ≡ Err f
    → (f ≡ fault.TooMany → ⊥) → P ⊎ (r ≡ Err fault.OutOfMemory)
is_memory r fault.TooMany is not = absurd (not refl)
is_memory r fault.OutOfMemory is not = inr is

-- before the first record is read
pub started : (text : List ℕ) (reader : Reader (Bor (List ℕ))) (table : Table)
    → reader.trim ≡ trim.None → reader.has_headers ≡ false → reader.headers ≡ None → reader.flexible ≡ true
    → reader.config ≡ default_config → source_of known reader ≡ Some (strip_bom text)
    → reader.state ≡ st.StartRecord → table.pairs ≡ [] → table.skipped ≡ 0 → IsReading text reader table
unfolding Reached
started text reader table trim headers row flexible config source state pairs skipped = record {
  set_up = record { trim = trim; config = config; flexible = flexible; ready = inr (inr (headers, row)) };
  rest = strip_bom text;
  source = source;
  read = record {
    rows = [];
    outcomes = [];
    reached = (sym state, refl);
    each = tt;
    pairs = pairs;
    skipped = skipped;
  };
  fits = let none = ap (λ (ps : List Pair). length ps) pairs in omega arith;
}

-- what a reader has left, as a number that falls with each record
abbrev pub left_of : Option (List ℕ) → State → ℕ
left_of None state = 0
left_of (Some rest) state = left state rest

-- after one more record less is left
pub less_left : (a b : Reader (Bor (List ℕ))) (fields : List (List ℕ)) (y : List ℕ) → a.config ≡ default_config
    → source_of known a ≡ Some y → ReadRecord known a b true fields
    → left_of (source_of known b) b.state < left_of (source_of known a) a.state
unfolding Reached
less_left a b fields y config source read =
    let more = rows-more known a b fields default_config a.state y y [] config source (refl, refl) read in
    let less = left_less default_config a.state y fields b.state more.0 more.2 in
    rw (source, more.1) less

-- where records may have any number of fields, a read of octets fails only for the source or for memory
pub stops_only : {R : Type 0} (rem : R → Option (List ℕ)) (a b : Reader R) (k : ErrorKind) → a.flexible ≡ true
    → ExplainsRead rem a b false k → stops_reader k ≡ true
stops_only rem a b (kind.Io e) flexible why = refl
stops_only rem a b kind.OutOfMemory flexible why = refl
stops_only rem a b (kind.UnequalLengths pos expected len) flexible why = absurd (let strict = why.0 in cc)
stops_only rem a b (kind.Utf8 pos err) flexible why = absurd (let text = why.0 in cc)
stops_only rem a b (kind.Serialize text) flexible why = absurd why
stops_only rem a b (kind.Deserialize pos err) flexible why = absurd why
