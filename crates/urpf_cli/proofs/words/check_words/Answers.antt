use Rattle.std.proofs.Common.{List, ℕ, ◌∷◌, [], ◌∙◌, ap, map, sym, rules}
use Rattle.std.specs.Prelude.{codes, string_bytes}
use Rattle.urpf_cli.specs.Words.{check}
use Rattle.urpf_cli.proofs.Lines.{three_items, not_unequal}
use Rattle.urpf_cli.proofs.words.check_words.Goals as goal

pub returns-clause-found : goal.returns-clause-found
returns-clause-found c =
    let session = string_bytes c.session-item.result in
    let source = string_bytes c.source-item.result in
    let command = sym c.as_str.ensures.value ∙ not_unequal c.as_str.result.now (codes "check") c.if-ne.ensures in (
      c.in-Some.source,
      record {
        session = session;
        text = source;
        parts = ap (map string_bytes)
            (three_items c.args.words.now c.command-item.result c.session-item.result c.source-item.result
            c.in-len3.len_at_least c.in-len3.len_below c.command-item.is c.session-item.is c.source-item.is)
            ∙ ap (λ (w : List ℕ). w ∷ session ∷ source ∷ []) command;
        named = rw c.as_str-else-ne.ensures.value at (c.if-not-is_name.ensures.0 (search rules));
        spelled = rw c.as_bytes.ensures.value at c.in-Some.ensures.found;
      },
      ap (λ s. check s c.in-Some.source) c.as_str-2.ensures.value,
    )
