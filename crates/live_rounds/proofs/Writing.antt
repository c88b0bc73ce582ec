-- The text of rows, one after the other.
use Rattle.std.proofs.Common.{◌≡◌, ℕ, ◌+◌, ◌<◌, List, [], ◌∷◌, ◌++◌, length, map, take, get_or}
use Rattle.std.proofs.Common.{ap, sym, ◌∙◌, append_assoc, append-nil}
use Rattle.std.proofs.lemmas.List.{take_more}
use Rattle.forward_worker.specs.declared.rows.CheckRow.{CheckRow}
use Rattle.live_rounds.specs.Rows.{Row, row_line, rows_text}

module _ (final : CheckRow → Row) where
  text_push : (rows : List CheckRow) (row : CheckRow)
      → rows_text (map final (rows ++ row ∷ [])) ≡ rows_text (map final rows) ++ row_line (final row)
  text_push [] row = append-nil (row_line (final row))
  text_push (r ∷ rows) row =
      ap (λ l. row_line (final r) ++ l) (text_push rows row)
      ∙ sym (append_assoc (row_line (final r)) (rows_text (map final rows)) (row_line (final row)))

  -- the text of one row more
  pub text_more : (rows : List CheckRow) (k : ℕ) (d : CheckRow) → k < length rows
      → rows_text (map final (take (k + 1) rows)) ≡ rows_text (map final (take k rows)) ++ row_line (final (get_or rows k d))
  text_more rows k d below =
      ap (λ l. rows_text (map final l)) (take_more rows k d below) ∙ text_push (take k rows) (get_or rows k d)
