use Rattle.std.proofs.Common.{◌≡◌, ◌+◌, [], ◌∷◌, ◌++◌, Ok, Err, inl, ap, sym, subst, ◌∙◌, arith}
use Rattle.runbook.specs.Lines.{words_of}
use Rattle.runbook.specs.Book.{IsFirstFault}
use Rattle.runbook.proofs.Books.{ComesTo, IsCut, Reached, added, book_read, opens_taken, one_book, no_fault}
use Rattle.runbook.proofs.Books.{fault_found, no_book, one_fault, reached_end, comes_to}
use Rattle.runbook.proofs.Faults.{same_line, same_kind, same_answer}
use Rattle.runbook.proofs.book.read_book.Goals as goal

pub returns-in-Err-clause-bad : goal.returns-in-Err-clause-bad
returns-in-Err-clause-bad c number kind is =
    let cut : IsCut c.loop-rest.rest.now c.first_line.result.0.now c.first_line.result.1.now = record
    { parts = c.first_line.ensures.parts; shorter = c.first_line.ensures.shorter } in
    let refused : ComesTo c.args.config.now c.loop-rest.rounds (words_of c.first_line.result.0.now)
    (Err c.in-Err.kind) = comes_to _ _ _ c.in-Some.judged _
    c.in-Some.ensures.found c.in-Some.ensures.only c.in-Err.is in
    let place : c.loop-rest.number + 1 ≡ number = same_line _ _ _ _ is in
    let cause : c.in-Err.kind ≡ kind = same_kind _ _ _ _ is in
    subst (λ n. IsFirstFault c.args.config.now c.args.text.now n kind) place
    (subst (IsFirstFault c.args.config.now c.args.text.now (c.loop-rest.number + 1)) cause
    (fault_found c.args.config.now c.args.text.now c.loop-rest.rest.now _ _ c.loop-rest.number c.loop-rest.rounds
    c.loop-rest.book c.in-Err.kind
    c.loop-rest.invariant cut c.in-Some.ensures.some refused))

pub returns-in-Err-clause-only : goal.returns-in-Err-clause-only
returns-in-Err-clause-only c rows is =
    let cut : IsCut c.loop-rest.rest.now c.first_line.result.0.now c.first_line.result.1.now = record
    { parts = c.first_line.ensures.parts; shorter = c.first_line.ensures.shorter } in
    let refused : ComesTo c.args.config.now c.loop-rest.rounds (words_of c.first_line.result.0.now)
    (Err c.in-Err.kind) = comes_to _ _ _ c.in-Some.judged _
    c.in-Some.ensures.found c.in-Some.ensures.only c.in-Err.is in
    absurd (no_book c.args.config.now c.args.text.now c.loop-rest.rest.now _ _ c.loop-rest.number c.loop-rest.rounds
    c.loop-rest.book rows c.in-Err.kind
    c.loop-rest.invariant cut c.in-Some.ensures.some refused is)

pub returns-in-Err-clause-only_bad : goal.returns-in-Err-clause-only_bad
returns-in-Err-clause-only_bad c number kind fault =
    let cut : IsCut c.loop-rest.rest.now c.first_line.result.0.now c.first_line.result.1.now = record
    { parts = c.first_line.ensures.parts; shorter = c.first_line.ensures.shorter } in
    let refused : ComesTo c.args.config.now c.loop-rest.rounds (words_of c.first_line.result.0.now)
    (Err c.in-Err.kind) = comes_to _ _ _ c.in-Some.judged _
    c.in-Some.ensures.found c.in-Some.ensures.only c.in-Err.is in
    let same =
    one_fault c.args.config.now c.args.text.now c.loop-rest.rest.now _ _ c.loop-rest.number c.loop-rest.rounds
    c.loop-rest.book c.in-Err.kind number kind
    c.loop-rest.invariant cut c.in-Some.ensures.some refused fault in
    inl (same_answer _ _ _ _ same.0 same.1)

pub returns-in_default-push-clause-memory : goal.returns-in_default-push-clause-memory
returns-in_default-push-clause-memory c is =
    let cut : IsCut c.loop-rest.rest.now c.first_line.result.0.now c.first_line.result.1.now = record
    { parts = c.first_line.ensures.parts; shorter = c.first_line.ensures.shorter } in
    let comes : ComesTo c.args.config.now c.loop-rest.rounds (words_of c.first_line.result.0.now) (Ok c.in-Ok.line) =
    comes_to _ _ _ c.in-Some.judged _
    c.in-Some.ensures.found c.in-Some.ensures.only c.in-Ok.is in
    opens_taken c.args.config.now c.args.text.now c.loop-rest.rest.now _ _ c.loop-rest.number c.loop-rest.rounds
    c.loop-rest.book c.in-Ok.line
    c.loop-rest.invariant cut c.in-Some.ensures.some comes

pub loop-rest-preserved : goal.loop-rest-preserved
loop-rest-preserved c =
    let cut : IsCut c.loop-rest.rest.now c.first_line.result.0.now c.first_line.result.1.now = record
    { parts = c.first_line.ensures.parts; shorter = c.first_line.ensures.shorter } in
    let comes : ComesTo c.args.config.now c.loop-rest.rounds (words_of c.first_line.result.0.now) (Ok c.in-Ok.line) =
    comes_to _ _ _ c.in-Some.judged _
    c.in-Some.ensures.found c.in-Some.ensures.only c.in-Ok.is in
    let reached = Reached c.args.config.now c.args.text.now c.first_line.result.1.now (c.loop-rest.number + 1) in
    subst (reached c.rounds_after-rounds.result) (sym c.in-Ok-push.ensures.ok)
    (subst (λ n. reached n (c.loop-rest.book ++ (c.loop-rest.number + 1, c.in-Ok.line) ∷ []))
    (sym c.rounds_after-rounds.ensures)
    (added c.args.config.now c.args.text.now c.loop-rest.rest.now _ _ c.loop-rest.number c.loop-rest.rounds
    c.loop-rest.book c.in-Ok.line
    c.loop-rest.invariant cut c.in-Some.ensures.some comes))

pub returns-clause-found : goal.returns-clause-found
returns-clause-found c =
    book_read c.args.config.now c.args.text.now c.loop-rest.number c.loop-rest.rounds c.loop-rest.book
    (reached_end c.args.config.now c.args.text.now c.loop-rest.rest.now _ _ _
    (sym c.is_empty.ensures ∙ c.loop-rest-test.false)
    c.loop-rest.invariant)

pub returns-clause-short : goal.returns-clause-short
returns-clause-short c = omega (arith, c.loop-rest.invariant.short, c.loop-rest.invariant.room)

pub returns-clause-only : goal.returns-clause-only
returns-clause-only c rows is =
    let end =
    reached_end c.args.config.now c.args.text.now c.loop-rest.rest.now _ _ _
    (sym c.is_empty.ensures ∙ c.loop-rest-test.false)
    c.loop-rest.invariant in
    inl (ap (λ r. Ok r) (one_book c.args.config.now c.args.text.now c.loop-rest.number c.loop-rest.rounds
    c.loop-rest.book rows end is))

pub returns-clause-only_bad : goal.returns-clause-only_bad
returns-clause-only_bad c number kind fault =
    let end =
    reached_end c.args.config.now c.args.text.now c.loop-rest.rest.now _ _ _
    (sym c.is_empty.ensures ∙ c.loop-rest-test.false)
    c.loop-rest.invariant in
    absurd (no_fault c.args.config.now c.args.text.now c.loop-rest.number c.loop-rest.rounds c.loop-rest.book number
    kind end fault)
