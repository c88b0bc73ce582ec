-- A publication that is handed on is the next one, and all of them stay whole.
use Rattle.std.proofs.Common.{◌≡◌, ℕ, ◌+◌, List, [], ◌∷◌, ◌++◌, length, map, arith, sym, ap, ◌∙◌}
use Rattle.std.proofs.lemmas.List.{length-append}
use Rattle.urpf_base.specs.declared.kinds.Kind.{Kind}
use Rattle.cover_table.specs.Snapshots.{Publication, fold, step}
use Rattle.cover_table.specs.declared.batch.Batch.{Batch}
use Rattle.cover_table.proofs.Folding.{fold_more}
use Rattle.epoch_publish.specs.Publications.{NameSame}
use Rattle.run_lines.specs.Publications.{Follows}
use Rattle.live_control.specs.Standings.{IsWhole, PublicationState}

-- the batch has the number behind all batches
pub next_number : (kinds : List (ℕ × Kind)) (state : PublicationState) (batch : Batch) → IsWhole kinds state
    → Follows state.shown batch → batch.number ≡ length state.batches + 1
next_number kinds state batch whole follows = omega (arith, whole.number, follows.number)

-- and names the interfaces of all of them
pub next_names : (kinds opening : List (ℕ × Kind)) (state : PublicationState) (batch : Batch) → opening ≡ kinds
    → IsWhole kinds state → Follows state.shown batch → NameSame batch.kinds opening
next_names kinds opening state batch same whole follows =
    follows.names ∙ whole.names ∙ ap (map (λ (row : ℕ × Kind). row.0)) (sym same)

-- behind it the batches are whole
pub whole_next : (kinds : List (ℕ × Kind)) (state new : PublicationState) (batch : Batch) → IsWhole kinds state
    → Follows state.shown batch → new.shown ≡ step state.shown batch → new.batches ≡ state.batches ++ batch ∷ []
    → IsWhole kinds new
whole_next kinds state new batch whole follows shown batches = record {
  shown = shown ∙ ap (λ (s : Publication). step s batch) whole.shown ∙ sym (fold_more kinds state.batches batch)
      ∙ ap (fold kinds) (sym batches);
  number =
      let last : new.shown.number ≡ batch.number = ap (λ (s : Publication). s.number) shown in
      let many : length new.batches ≡ length state.batches + 1 =
      ap length batches ∙ length-append state.batches (batch ∷ []) in
      omega (arith, last, many, whole.number, follows.number);
  names = ap (λ (s : Publication). map (λ (row : ℕ × Kind). row.0) s.kinds) shown ∙ follows.names ∙ whole.names;
}
