use Rattle.std.proofs.Common.{◌≡◌, List, ℕ, ◌∷◌, ◌∙◌, ap, map, sym, drop, refl, rules, subst}
use Rattle.std.specs.Prelude.{codes, string_bytes}
use Rattle.std.specs.List.{All}
use Rattle.std.proofs.lemmas.List.{drop-map}
use Rattle.urpf_cli.specs.Words.{IsSessionWord, pairs_from}
use Rattle.urpf_cli.proofs.Lines.{four_items, not_unequal, rest_of}
use Rattle.urpf_cli.proofs.Requests.{same_offline}
use Rattle.urpf_cli.proofs.words.offline_words.Goals as goal

pub returns-clause-found : goal.returns-clause-found
returns-clause-found c =
    let config = string_bytes c.config-item.result in
    let book = string_bytes c.book-item.result in
    let sessions = map string_bytes (drop 4 c.args.words.now) in
    let command = sym c.as_str.ensures.value ∙ not_unequal c.as_str.result.now (codes "offline") c.if-ne.ensures in
    let pairs = c.in-Some.ensures.found in
    let word = sym c.as_str-3.ensures.value ∙ pairs.0 in
    let rest = ap (map string_bytes) (rest_of 4 c.args.words.now) in (
      record {
        config = config;
        book = book;
        pairs = pairs_from c.in-Some.pairs;
        sessions = sessions;
        parts = ap (map string_bytes)
            (four_items c.args.words.now c.command-item.result c.config-item.result c.book-item.result
            c.pairs-item.result c.in-len4-up.len_at_least c.command-item.is c.config-item.is c.book-item.is
            c.pairs-item.is)
            ∙ ap (λ (w : List ℕ). w ∷ config ∷ book ∷ string_bytes c.pairs-item.result ∷ sessions) command
            ∙ ap (λ (w : List ℕ). codes "offline" ∷ config ∷ book ∷ w ∷ sessions) word;
        config_named = rw c.as_str-2.ensures.value at (c.if-not-is_name.ensures.0 (search rules));
        book_named = rw c.as_str-else-not-is_name.ensures.value at (c.if-not-is_name-2.ensures.0 (search rules));
        pairs_named = pairs.1;
        sessions_fit = rw (rest_of 4 c.args.words.now) at (c.if-not-are_session_words.ensures.0 (search rules));
      },
      same_offline _ config _ book _ _ _ sessions c.as_str-4.ensures.value c.as_str-5.ensures.value refl rest,
    )

pub returns-then-not-are_session_words-clause-only : goal.returns-then-not-are_session_words-clause-only
returns-then-not-are_session_words-clause-only c = λ are.
    let words = c.args.words.now in
    let whole : map string_bytes (drop 4 words) ≡ are.sessions =
    sym (drop-map string_bytes 4 words) ∙ ap (drop 4) are.parts in
    let never = c.if-not-are_session_words.ensures.1
    (subst (λ l. All IsSessionWord (map string_bytes l)) (sym (rest_of 4 words))
    (subst (λ l. All IsSessionWord l) (sym whole) are.sessions_fit)) in
    cc
