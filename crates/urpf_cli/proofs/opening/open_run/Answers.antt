use Rattle.std.proofs.Common.{◌≡◌, Err, ap, min, map, string_bytes, inl, inr, rules, subst, sym, ◌∙◌}
use Rattle.std.specs.Prelude.{IfSome}
use Rattle.urpf_cli.specs.PairTables.{HasTable, IsPairsRefused}
use Rattle.urpf_cli.specs.TextRefusals.{IsTextFailure}
use Rattle.urpf_cli.specs.Words.{PairsFrom}
use Rattle.urpf_cli.specs.declared.refusals.Refusal.TheVariants.{Book, Config, Pairs, SessionCount}
use Rattle.urpf_cli.proofs.OpeningLaws.{book_told, config_told, count_told, fails_if_opens, one_opening}
use Rattle.urpf_cli.proofs.OpeningLaws.{opens_or_refused, opens_told, pairs_told, same_error_or_fails, same_opening}
use Rattle.urpf_cli.proofs.OpeningLaws.{same_or_fails, some_configured, texts_good}
use Rattle.urpf_cli.proofs.RefusalStatuses.{config_memory}
use Rattle.urpf_cli.proofs.opening.open_run.Goals as goal

pub returns-in-Err-clause-memory : goal.returns-in-Err-clause-memory
returns-in-Err-clause-memory g c = λ is.
    c.in-Err.ensures.memory (ap (λ r. Err r) (config_memory c.in-Err.refusal is))

pub returns-in-Err-clause-only : goal.returns-in-Err-clause-only
returns-in-Err-clause-only g c = λ texts settings rows table are opens.
    let words = map string_bytes c.args.words.now in
    inr (fails_if_opens words texts c.args.given settings rows table (Config c.in-Err.refusal) opens
    (config_told words (g.S.Source.left c.args.config.now) (g.S.Source.left c.args.book.now)
    (g.S.Source.left c.args.pairs.now) texts are c.in-Some.ensures.found.0 c.in-Err.refusal
    c.in-Err.ensures.refused c.args.given))

pub returns-in-Err-clause-refused_only : goal.returns-in-Err-clause-refused_only
returns-in-Err-clause-refused_only g c = λ r texts are refused.
    let words = map string_bytes c.args.words.now in
    same_error_or_fails (Config c.in-Err.refusal) r
    (same_or_fails words texts c.args.given (Config c.in-Err.refusal) r refused
    (config_told words (g.S.Source.left c.args.config.now) (g.S.Source.left c.args.book.now)
    (g.S.Source.left c.args.pairs.now) texts are c.in-Some.ensures.found.0 c.in-Err.refusal
    c.in-Err.ensures.refused c.args.given))

pub returns-in-Err-open_book-clause-only : goal.returns-in-Err-open_book-clause-only
returns-in-Err-open_book-clause-only g c = λ texts settings rows table are opens.
    let words = map string_bytes c.args.words.now in
    inr (fails_if_opens words texts c.args.given settings rows table (Book c.in-Err-open_book.refusal) opens
    (book_told words (g.S.Source.left c.args.config.now) (g.S.Source.left c.args.book.now)
    (g.S.Source.left c.args.pairs.now) texts are c.in-Some.ensures.found.0 c.in-Ok.config c.in-Ok.ensures.found
    c.in-Err-open_book.refusal
    c.in-Err-open_book.ensures.refused))

pub returns-in-Err-open_book-clause-refused_only : goal.returns-in-Err-open_book-clause-refused_only
returns-in-Err-open_book-clause-refused_only g c = λ r texts are refused.
    let words = map string_bytes c.args.words.now in
    same_error_or_fails (Book c.in-Err-open_book.refusal) r
    (same_or_fails words texts c.args.given (Book c.in-Err-open_book.refusal) r refused
    (book_told words (g.S.Source.left c.args.config.now) (g.S.Source.left c.args.book.now)
    (g.S.Source.left c.args.pairs.now) texts are c.in-Some.ensures.found.0 c.in-Ok.config c.in-Ok.ensures.found
    c.in-Err-open_book.refusal
    c.in-Err-open_book.ensures.refused))

pub returns-in-Err-open_book-clause-config_before : goal.returns-in-Err-open_book-clause-config_before
returns-in-Err-open_book-clause-config_before g c = λ r is.
    some_configured (g.S.Source.left c.args.config.now) c.in-Ok.config c.in-Ok.ensures.found

pub returns-in-Err-open_pairs-clause-texts_before : goal.returns-in-Err-open_pairs-clause-texts_before
returns-in-Err-open_pairs-clause-texts_before g c = λ r texts is are.
    texts_good (map string_bytes c.args.words.now) (g.S.Source.left c.args.config.now)
    (g.S.Source.left c.args.book.now) (g.S.Source.left c.args.pairs.now) texts are c.in-Some.ensures.found.0
    c.in-Ok.config c.in-Ok.ensures.found c.in-Ok-open_book.book c.in-Ok-open_book.ensures.found

pub returns-in-Err-open_pairs-clause-only : goal.returns-in-Err-open_pairs-clause-only
returns-in-Err-open_pairs-clause-only g c = λ texts settings rows table are opens.
    let words = map string_bytes c.args.words.now in
    inr (fails_if_opens words texts c.args.given settings rows table (Pairs c.in-Err-open_pairs.refusal) opens
    (pairs_told words (g.S.Source.left c.args.config.now) (g.S.Source.left c.args.book.now)
    (g.S.Source.left c.args.pairs.now) texts are c.in-Some.ensures.found.0 c.in-Ok.config c.in-Ok.ensures.found
    c.in-Ok-open_book.book
    c.in-Ok-open_book.ensures.found c.in-Err-open_pairs.refusal
    (subst (λ (from : PairsFrom). ¬ (IsTextFailure c.in-Err-open_pairs.refusal)
    → IfSome (g.S.Source.left c.args.pairs.now) (λ t. IsPairsRefused from t c.in-Err-open_pairs.refusal))
    (sym c.in-Some.ensures.found.1) c.in-Err-open_pairs.ensures.refused)))

pub returns-in-Err-open_pairs-clause-refused : goal.returns-in-Err-open_pairs-clause-refused
returns-in-Err-open_pairs-clause-refused g c = λ decided texts are.
    let words = map string_bytes c.args.words.now in
    pairs_told words (g.S.Source.left c.args.config.now) (g.S.Source.left c.args.book.now)
    (g.S.Source.left c.args.pairs.now) texts are c.in-Some.ensures.found.0 c.in-Ok.config c.in-Ok.ensures.found
    c.in-Ok-open_book.book
    c.in-Ok-open_book.ensures.found c.in-Err-open_pairs.refusal
    (subst (λ (from : PairsFrom). ¬ (IsTextFailure c.in-Err-open_pairs.refusal)
    → IfSome (g.S.Source.left c.args.pairs.now) (λ t. IsPairsRefused from t c.in-Err-open_pairs.refusal))
    (sym c.in-Some.ensures.found.1) c.in-Err-open_pairs.ensures.refused)
    decided

pub returns-in-Err-open_pairs-clause-refused_only : goal.returns-in-Err-open_pairs-clause-refused_only
returns-in-Err-open_pairs-clause-refused_only g c = λ r texts are refused.
    let words = map string_bytes c.args.words.now in
    same_error_or_fails (Pairs c.in-Err-open_pairs.refusal) r
    (same_or_fails words texts c.args.given (Pairs c.in-Err-open_pairs.refusal) r refused
    (pairs_told words (g.S.Source.left c.args.config.now) (g.S.Source.left c.args.book.now)
    (g.S.Source.left c.args.pairs.now) texts are c.in-Some.ensures.found.0 c.in-Ok.config c.in-Ok.ensures.found
    c.in-Ok-open_book.book
    c.in-Ok-open_book.ensures.found c.in-Err-open_pairs.refusal
    (subst (λ (from : PairsFrom). ¬ (IsTextFailure c.in-Err-open_pairs.refusal)
    → IfSome (g.S.Source.left c.args.pairs.now) (λ t. IsPairsRefused from t c.in-Err-open_pairs.refusal))
    (sym c.in-Some.ensures.found.1) c.in-Err-open_pairs.ensures.refused)))

pub returns-then-given-wanted-clause-refused : goal.returns-then-given-wanted-clause-refused
returns-then-given-wanted-clause-refused g c = λ decided texts are.
    let words = map string_bytes c.args.words.now in
    let tells : c.min.result ≡ min c.args.given 4294967295 = search (rules, c.min.ensures) in
    count_told words (g.S.Source.left c.args.config.now) (g.S.Source.left c.args.book.now)
    (g.S.Source.left c.args.pairs.now) texts are c.in-Some.ensures.found.0 c.in-Ok.config c.in-Ok.ensures.found
    c.in-Ok-open_book.book
    c.in-Ok-open_book.ensures.found c.in-Ok-open_pairs.pairs
    (subst (λ (from : PairsFrom). IfSome (g.S.Source.left c.args.pairs.now)
    (λ t. HasTable from t c.in-Ok-open_pairs.pairs)) (sym c.in-Some.ensures.found.1) c.in-Ok-open_pairs.ensures.found)
    c.args.given c.min.result c.sessions-wanted.result c.sessions-wanted.ensures.value
    (search (rules, c.if-given-wanted.true)) tells

pub returns-then-given-wanted-clause-refused_only : goal.returns-then-given-wanted-clause-refused_only
returns-then-given-wanted-clause-refused_only g c = λ r texts are refused.
    let words = map string_bytes c.args.words.now in
    let q = SessionCount c.min.result c.sessions-wanted.result in
    let tells : c.min.result ≡ min c.args.given 4294967295 = search (rules, c.min.ensures) in
    same_error_or_fails q r
    (same_or_fails words texts c.args.given q r refused
    (λ decided. count_told words (g.S.Source.left c.args.config.now) (g.S.Source.left c.args.book.now)
    (g.S.Source.left c.args.pairs.now) texts are c.in-Some.ensures.found.0 c.in-Ok.config c.in-Ok.ensures.found
    c.in-Ok-open_book.book
    c.in-Ok-open_book.ensures.found c.in-Ok-open_pairs.pairs
    (subst (λ (from : PairsFrom). IfSome (g.S.Source.left c.args.pairs.now)
    (λ t. HasTable from t c.in-Ok-open_pairs.pairs)) (sym c.in-Some.ensures.found.1) c.in-Ok-open_pairs.ensures.found)
    c.args.given c.min.result c.sessions-wanted.result c.sessions-wanted.ensures.value
    (search (rules, c.if-given-wanted.true)) tells))

pub returns-clause-found : goal.returns-clause-found
returns-clause-found g c =
    let words = map string_bytes c.args.words.now in (
      c.in-Some.ensures.found.0,
      λ texts are. opens_told words (g.S.Source.left c.args.config.now) (g.S.Source.left c.args.book.now)
          (g.S.Source.left c.args.pairs.now) texts are c.in-Some.ensures.found.0 c.in-Ok.config
          c.in-Ok.ensures.found c.in-Ok-open_book.book
          c.in-Ok-open_book.ensures.found c.in-Ok-open_pairs.pairs
          (subst (λ (from : PairsFrom). IfSome (g.S.Source.left c.args.pairs.now)
          (λ t. HasTable from t c.in-Ok-open_pairs.pairs)) (sym c.in-Some.ensures.found.1)
          c.in-Ok-open_pairs.ensures.found)
          c.args.given (c.if-given-wanted.false ∙ c.sessions-wanted.ensures.value),
    )

pub returns-clause-only : goal.returns-clause-only
returns-clause-only g c = λ texts settings rows table are opens.
    let words = map string_bytes c.args.words.now in
    inl (same_opening c.in-Ok.config settings c.in-Ok-open_book.book rows c.in-Ok-open_pairs.pairs table
    (one_opening words texts c.args.given c.in-Ok.config settings c.in-Ok-open_book.book rows
    c.in-Ok-open_pairs.pairs table
    (opens_told words (g.S.Source.left c.args.config.now) (g.S.Source.left c.args.book.now)
    (g.S.Source.left c.args.pairs.now) texts are c.in-Some.ensures.found.0 c.in-Ok.config c.in-Ok.ensures.found
    c.in-Ok-open_book.book
    c.in-Ok-open_book.ensures.found c.in-Ok-open_pairs.pairs
    (subst (λ (from : PairsFrom). IfSome (g.S.Source.left c.args.pairs.now)
    (λ t. HasTable from t c.in-Ok-open_pairs.pairs)) (sym c.in-Some.ensures.found.1) c.in-Ok-open_pairs.ensures.found)
    c.args.given (c.if-given-wanted.false ∙ c.sessions-wanted.ensures.value))
    opens))

pub returns-clause-refused_only : goal.returns-clause-refused_only
returns-clause-refused_only g c = λ r texts are refused.
    let words = map string_bytes c.args.words.now in
    absurd (opens_or_refused words texts c.args.given c.in-Ok.config c.in-Ok-open_book.book c.in-Ok-open_pairs.pairs r
    (opens_told words (g.S.Source.left c.args.config.now) (g.S.Source.left c.args.book.now)
    (g.S.Source.left c.args.pairs.now) texts are c.in-Some.ensures.found.0 c.in-Ok.config c.in-Ok.ensures.found
    c.in-Ok-open_book.book
    c.in-Ok-open_book.ensures.found c.in-Ok-open_pairs.pairs
    (subst (λ (from : PairsFrom). IfSome (g.S.Source.left c.args.pairs.now)
    (λ t. HasTable from t c.in-Ok-open_pairs.pairs)) (sym c.in-Some.ensures.found.1) c.in-Ok-open_pairs.ensures.found)
    c.args.given (c.if-given-wanted.false ∙ c.sessions-wanted.ensures.value))
    refused)
