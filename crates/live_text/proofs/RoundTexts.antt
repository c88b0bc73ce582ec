-- The rows of one round among those of all rounds: a round of rows is put before the later ones, worker by worker.
use Rattle.std.proofs.Common.{◌≡◌, ◌==◌, ◌∙◌, ℕ, suc, ◌+◌, ◌<◌, ◌≤◌, Bool, if◌then◌else◌}
use Rattle.std.proofs.Common.{List, [], ◌∷◌, ◌++◌, length, map, refl, ap, arith, eq-eqb}
use Rattle.std.proofs.lemmas.Bool.{ne_eqb}
use Rattle.std.proofs.lemmas.List.{length-append, length-map}
use Rattle.std.proofs.lemmas.List.Sums.{sum_by-cons}
use Rattle.std.specs.List.{concat, filter}
use Rattle.std.specs.Prelude.{sum}
use Rattle.urpf_base.specs.declared.kinds.Kind.{Kind}
use Rattle.cover_table.specs.declared.batch.Batch.{Batch}
use Rattle.run_lines.specs.Steps.{Step, pull, publish, round, check, change, summary}
use Rattle.live_rounds.specs.Rounds.{tables_text}
use Rattle.live_rounds.specs.Rows.{Row, row_line, rows_text}
use Rattle.live_rounds.specs.Stations.{Station, table_of}
use Rattle.live_text.specs.Numbers.{rounds_by}
use Rattle.live_text.specs.Tables.{Table}
use Rattle.live_text.specs.Texts.{round_text, row_count, rows_behind, table_text, with_rows}
use Rattle.live_text.proofs.RoundRows.{in_round}

pub sum_more : (n : ℕ) (ns : List ℕ) → sum (n ∷ ns) ≡ n + sum ns
sum_more n ns = sum_by-cons (λ k. k) n ns

-- the rows are of later rounds than this one
abbrev pub IsLater : ℕ → Table → Type 0
IsLater number [] = Unit {0}
IsLater number (entry ∷ table) = (number < entry.0) × IsLater number table

abbrev pub AreLater : ℕ → List Table → Type 0
AreLater number [] = Unit {0}
AreLater number (table ∷ tables) = IsLater number table × AreLater number tables

-- the rows of a round before later ones, for each worker; a worker without a table has none later
abbrev pub put_rows : ℕ → List (ℕ × Kind) → List Batch → List Station → List Table → List Table
put_rows number kinds batches [] tables = []
put_rows number kinds batches (s ∷ stations) [] =
    in_round number (table_of kinds batches s) ∷ put_rows number kinds batches stations []
put_rows number kinds batches (s ∷ stations) (table ∷ tables) =
    (in_round number (table_of kinds batches s) ++ table) ∷ put_rows number kinds batches stations tables

-- what a row adds to the text of a round
abbrev added : Bool → ℕ → ℕ × Row → Table → List ℕ
added here number entry table = concat (map (λ e. row_line e.1)
    (if here then (entry ∷ filter (λ e. e.0 == number) table) else filter (λ e. e.0 == number) table))

-- later rows are not of this round
none_here : (number : ℕ) (table : Table) → IsLater number table → table_text number table ≡ []
none_here number [] later = refl
none_here number (entry ∷ table) later =
    ap (λ (b : Bool). added b number entry table)
    (ne_eqb entry.0 number (λ same. let up = later.0 in absurd (omega (arith, same, up))))
    ∙ none_here number table later.1

-- the rows of the round come first
here_first : (number : ℕ) (rows : List Row) (table : Table) → IsLater number table
    → table_text number (in_round number rows ++ table) ≡ rows_text rows
here_first number [] table later = none_here number table later
here_first number (row ∷ rows) table later =
    ap (λ (b : Bool). added b number (number, row) (in_round number rows ++ table)) (eq-eqb number number refl)
    ∙ ap (λ (t : List ℕ). row_line row ++ t) (here_first number rows table later)

-- and are none of a later round
here_skipped : (number other : ℕ) (rows : List Row) (table : Table) → number < other
    → table_text other (in_round number rows ++ table) ≡ table_text other table
here_skipped number other [] table up = refl
here_skipped number other (row ∷ rows) table up =
    ap (λ (b : Bool). added b other (number, row) (in_round number rows ++ table))
    (ne_eqb number other (λ same. absurd (omega (arith, same, up))))
    ∙ here_skipped number other rows table up

module _ (number : ℕ) (kinds : List (ℕ × Kind)) (batches : List Batch) where
  here_alone : (rows : List Row) → table_text number (in_round number rows) ≡ rows_text rows
  here_alone [] = refl
  here_alone (row ∷ rows) =
      ap (λ (b : Bool). added b number (number, row) (in_round number rows)) (eq-eqb number number refl)
      ∙ ap (λ (t : List ℕ). row_line row ++ t) (here_alone rows)

  alone_skipped : (other : ℕ) (rows : List Row) → number < other → table_text other (in_round number rows) ≡ []
  alone_skipped other [] up = refl
  alone_skipped other (row ∷ rows) up =
      ap (λ (b : Bool). added b other (number, row) (in_round number rows))
      (ne_eqb number other (λ same. absurd (omega (arith, same, up))))
      ∙ alone_skipped other rows up

  -- the rows of the round, worker by worker
  pub rows_here : (stations : List Station) (tables : List Table) → AreLater number tables
      → length tables ≤ length stations
      → round_text number (put_rows number kinds batches stations tables) ≡ tables_text kinds batches stations
  rows_here [] [] later few = refl
  rows_here [] (table ∷ tables) later few = absurd (omega (arith, few))
  rows_here (s ∷ stations) [] later few =
      ap (λ (t : List ℕ). t ++ round_text number (put_rows number kinds batches stations []))
      (here_alone (table_of kinds batches s))
      ∙ ap (λ (t : List ℕ). rows_text (table_of kinds batches s) ++ t) (rows_here stations [] tt (omega arith))
  rows_here (s ∷ stations) (table ∷ tables) later few =
      ap (λ (t : List ℕ). t ++ round_text number (put_rows number kinds batches stations tables))
      (here_first number (table_of kinds batches s) table later.0)
      ∙ ap (λ (t : List ℕ). rows_text (table_of kinds batches s) ++ t)
      (rows_here stations tables later.1 (omega (arith, few)))

  -- the rows of later rounds are as before
  pub rows_later : (other : ℕ) (stations : List Station) (tables : List Table) → number < other
      → length tables ≤ length stations
      → round_text other (put_rows number kinds batches stations tables) ≡ round_text other tables
  rows_later other [] [] up few = refl
  rows_later other [] (table ∷ tables) up few = absurd (omega (arith, few))
  rows_later other (s ∷ stations) [] up few =
      ap (λ (t : List ℕ). t ++ round_text other (put_rows number kinds batches stations []))
      (alone_skipped other (table_of kinds batches s) up)
      ∙ rows_later other stations [] up (omega arith)
  rows_later other (s ∷ stations) (table ∷ tables) up few =
      ap (λ (t : List ℕ). t ++ round_text other (put_rows number kinds batches stations tables))
      (here_skipped number other (table_of kinds batches s) table up)
      ∙ ap (λ (t : List ℕ). table_text other table ++ t) (rows_later other stations tables up (omega (arith, few)))

  behind_later : (other : ℕ) (stations : List Station) (tables : List Table) (step : Step) → number < other
      → length tables ≤ length stations
      → rows_behind step other (put_rows number kinds batches stations tables) ≡ rows_behind step other tables
  behind_later other stations tables (pull session count) up few = refl
  behind_later other stations tables publish up few = refl
  behind_later other stations tables round up few = rows_later other stations tables up few
  behind_later other stations tables (check iface addr) up few = refl
  behind_later other stations tables (change edit) up few = refl
  behind_later other stations tables summary up few = refl

  -- and so are the texts of later steps with their rows
  pub text_later : (other : ℕ) (stations : List Station) (tables : List Table) (steps : List Step)
      (texts : List (List ℕ)) → number < other → length tables ≤ length stations
      → with_rows (put_rows number kinds batches stations tables) other steps texts ≡ with_rows tables other steps texts
  text_later other stations tables [] texts up few = rows_later other stations tables up few
  text_later other stations tables (step ∷ steps) [] up few = refl
  text_later other stations tables (step ∷ steps) (text ∷ texts) up few =
      ap (λ (t : List ℕ). text ++ (t ++ with_rows (put_rows number kinds batches stations tables)
      (other + rounds_by step) steps texts)) (behind_later other stations tables step up few)
      ∙ ap (λ (t : List ℕ). text ++ (rows_behind step other tables ++ t))
      (text_later (other + rounds_by step) stations tables steps texts (omega (arith, up)) few)

  -- ---- the tables themselves

  later_rows : (low : ℕ) (rows : List Row) (table : Table) → low < number → IsLater low table
      → IsLater low (in_round number rows ++ table)
  later_rows low [] table up later = later
  later_rows low (row ∷ rows) table up later = (up, later_rows low rows table up later)

  later_alone : (low : ℕ) (rows : List Row) → low < number → IsLater low (in_round number rows)
  later_alone low [] up = tt
  later_alone low (row ∷ rows) up = (up, later_alone low rows up)

  pub put_later : (low : ℕ) (stations : List Station) (tables : List Table) → low < number → AreLater low tables
      → AreLater low (put_rows number kinds batches stations tables)
  put_later low [] tables up later = tt
  put_later low (s ∷ stations) [] up later =
      (later_alone low (table_of kinds batches s) up, put_later low stations [] up tt)
  put_later low (s ∷ stations) (table ∷ tables) up later =
      (later_rows low (table_of kinds batches s) table up later.0, put_later low stations tables up later.1)

  pub put_many : (stations : List Station) (tables : List Table)
      → length (put_rows number kinds batches stations tables) ≡ length stations
  put_many [] tables = refl
  put_many (s ∷ stations) [] = ap (λ (n : ℕ). suc n) (put_many stations [])
  put_many (s ∷ stations) (table ∷ tables) = ap (λ (n : ℕ). suc n) (put_many stations tables)

  rows_many : (s : Station) → length (in_round number (table_of kinds batches s)) ≡ length s.rows
  rows_many s = let a = length-map (table_of kinds batches s) (λ (row : Row). (number, row)) in
      let b = length-map s.rows _ in a ∙ b

  -- how many rows there are in all
  pub put_count : (stations : List Station) (tables : List Table) → length tables ≤ length stations
      → row_count (put_rows number kinds batches stations tables)
      ≡ sum (map (λ (s : Station). length s.rows) stations) + row_count tables
  put_count [] [] few = refl
  put_count [] (table ∷ tables) few = absurd (omega (arith, few))
  put_count (s ∷ stations) [] few =
      let more = put_count stations [] (omega arith) in
      let own = rows_many s in
      let whole : row_count (put_rows number kinds batches (s ∷ stations) [])
      ≡ length (in_round number (table_of kinds batches s)) + row_count (put_rows number kinds batches stations []) =
      sum_more (length (in_round number (table_of kinds batches s)))
      (map length (put_rows number kinds batches stations [])) in
      let both : sum (map (λ (s : Station). length s.rows) (s ∷ stations))
      ≡ length s.rows + sum (map (λ (s : Station). length s.rows) stations) =
      sum_more (length s.rows) (map (λ (s : Station). length s.rows) stations) in
      let none : row_count [] ≡ 0 = refl in
      omega (arith, more, own, whole, both, none)
  put_count (s ∷ stations) (table ∷ tables) few =
      let more = put_count stations tables (omega (arith, few)) in
      let own = rows_many s in
      let one = length-append (in_round number (table_of kinds batches s)) table in
      let whole : row_count (put_rows number kinds batches (s ∷ stations) (table ∷ tables))
      ≡ length (in_round number (table_of kinds batches s) ++ table)
      + row_count (put_rows number kinds batches stations tables) =
      sum_more (length (in_round number (table_of kinds batches s) ++ table))
      (map length (put_rows number kinds batches stations tables)) in
      let both : sum (map (λ (s : Station). length s.rows) (s ∷ stations))
      ≡ length s.rows + sum (map (λ (s : Station). length s.rows) stations) =
      sum_more (length s.rows) (map (λ (s : Station). length s.rows) stations) in
      let all : row_count (table ∷ tables) ≡ length table + row_count tables =
      sum_more (length table) (map length tables) in
      omega (arith, more, own, one, whole, both, all)
