use Rattle.std.proofs.Common.{length, Ok, Err, inl, ap, ◌∙◌, arith}
use Rattle.csv.specs.Reading.{default_config, strip_bom}
use Rattle.csv.specs.Records.{fields_of}
use Rattle.csv.specs.declared.parser.State.TheVariants as st
use Rattle.csv.proofs.ReadFacts.{rows-end, rows-more}
use Rattle.roa_irr.specs.Vrps.{known}
use Rattle.roa_irr.proofs.Reading.{started, skipped_within, one_more, one_table, opens_many, table_read, too_many}
use Rattle.roa_irr.proofs.Reading.{handed_on, is_memory, less_left, not_both, same_fault}
use Rattle.roa_irr.proofs.vrps.read_vrps.Goals as goal

pub rows-init : goal.rows-init
rows-init c =
    let fr = c.from_reader-reader.ensures in
    let e = c.flexible.ensures in
    let d = c.has_headers.ensures in
    started c.args.text.now c.from_reader-reader.result c.new-pairs.result
    (rw (e, d) at fr.trim ∙ c.new.ensures.trim) (rw (e, d) at fr.has_headers) fr.headers (rw e at fr.flexible)
    (rw (e, d) at fr.config ∙ c.new.ensures.config) fr.source fr.state c.new-pairs.ensures.pairs
    c.new-pairs.ensures.skipped

pub add-requires-clause-few : goal.add-requires-clause-few
add-requires-clause-few c =
    let few = skipped_within c.args.text.now _ _ _ c.rows.invariant.read in
    let small = c.requires in
    omega arith

pub rows-smaller : goal.rows-smaller
rows-smaller c =
    let inv = c.rows.invariant in
    less_left c.rows.reader c.next_row.new.reader (fields_of c.next_row.new.row) inv.rest inv.set_up.config inv.source
    (rw c.if-branch.true at c.in_ok-next_row.ensures.read)

pub returns-in_err-add-clause-only : goal.returns-in_err-add-clause-only
returns-in_err-add-clause-only c table is short =
    let inv = c.rows.invariant in
    let m = rows-more known c.rows.reader c.next_row.new.reader (fields_of c.next_row.new.row) default_config
    st.StartRecord (strip_bom c.args.text.now) inv.rest inv.read.rows inv.set_up.config inv.source inv.read.reached
    (rw c.if-branch.true at c.in_ok-next_row.ensures.read) in
    is_memory c.from_residual-in_err-add.result c.in_err-add.field-0.0
    (handed_on c.from_residual-in_err-add.result c.in_err-add.field-0.0 c.from_residual-in_err-add.ensures.1)
    (λ full. not_both _ _ short
    (too_many c.args.text.now c.rows.reader.state inv.rest c.rows.pairs inv.read
    (fields_of c.next_row.new.row) c.outcome_of.result c.next_row.new.reader.state m.0 m.2 c.outcome_of.ensures
    (c.add.ensures.too_many (c.in_err-add.was ∙ ap (λ f. Err f) full)) table is))

pub returns-in_err-add-clause-many : goal.returns-in_err-add-clause-many
returns-in_err-add-clause-many c is =
    let inv = c.rows.invariant in
    let m = rows-more known c.rows.reader c.next_row.new.reader (fields_of c.next_row.new.row) default_config
    st.StartRecord (strip_bom c.args.text.now) inv.rest inv.read.rows inv.set_up.config inv.source inv.read.reached
    (rw c.if-branch.true at c.in_ok-next_row.ensures.read) in
    opens_many c.args.text.now c.rows.reader.state inv.rest c.rows.pairs inv.read
    (fields_of c.next_row.new.row) c.outcome_of.result c.next_row.new.reader.state m.0 m.2 c.outcome_of.ensures
    (c.add.ensures.too_many (c.in_err-add.was ∙ ap (λ f. Err f)
    (same_fault c.from_residual-in_err-add.result c.in_err-add.field-0.0 _
    (handed_on c.from_residual-in_err-add.result c.in_err-add.field-0.0 c.from_residual-in_err-add.ensures.1) is)))

pub rows-preserved : goal.rows-preserved
rows-preserved c =
    let inv = c.rows.invariant in
    let m = rows-more known c.rows.reader c.next_row.new.reader (fields_of c.next_row.new.row) default_config
    st.StartRecord (strip_bom c.args.text.now) inv.rest inv.read.rows inv.set_up.config inv.source inv.read.reached
    (rw c.if-branch.true at c.in_ok-next_row.ensures.read) in
    record {
      set_up = c.in_ok-next_row.ensures.set_up;
      rest = m.0;
      source = m.1;
      read = one_more c.args.text.now c.rows.reader.state inv.rest c.rows.pairs inv.read
          (fields_of c.next_row.new.row) c.outcome_of.result c.next_row.new.reader.state m.0 c.add.new.self m.2
          c.outcome_of.ensures c.in_ok-add.ensures.pairs c.in_ok-add.ensures.skipped;
      fits = c.in_ok-add.ensures.fits;
    }

pub returns-clause-found : goal.returns-clause-found
returns-clause-found c =
    let inv = c.rows.invariant in
    table_read c.args.text.now c.rows.reader.state inv.rest c.rows.pairs inv.read
    (rows-end known c.rows.reader c.next_row.new.reader (fields_of c.next_row.new.row) default_config inv.rest
    inv.set_up.config inv.source (rw c.if-branch.false at c.in_ok-next_row.ensures.read))

pub returns-clause-only : goal.returns-clause-only
returns-clause-only c table is short =
    let inv = c.rows.invariant in
    inl (ap (λ r. Ok r) (one_table c.args.text.now c.rows.reader.state inv.rest c.rows.pairs table inv.read
    (rows-end known c.rows.reader c.next_row.new.reader (fields_of c.next_row.new.row) default_config inv.rest
    inv.set_up.config inv.source (rw c.if-branch.false at c.in_ok-next_row.ensures.read)) is))

pub returns-clause-too_many : goal.returns-clause-too_many
returns-clause-too_many c table is long =
    let inv = c.rows.invariant in
    let same = one_table c.args.text.now c.rows.reader.state inv.rest c.rows.pairs table inv.read
    (rows-end known c.rows.reader c.next_row.new.reader (fields_of c.next_row.new.row) default_config inv.rest
    inv.set_up.config inv.source (rw c.if-branch.false at c.in_ok-next_row.ensures.read)) is in
    let lengths = ap (λ t. length t.pairs) same in
    let fits = inv.fits in
    absurd (omega arith)
