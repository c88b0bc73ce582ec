use Rattle.std.proofs.Common.{◌≡◌, ◌∙◌, ℕ, List, Err, Result, ap, inl, inr, length, map, refl, subst, sym}
use Rattle.std.specs.Prelude.{IfErr, string_bytes}
use Rattle.feed_io.specs.Events.{Event}
use Rattle.control_core.specs.declared.limits.RunFault.{RunFault}
use Rattle.control_core.specs.declared.limits.RunFault.TheVariants.{OutOfMemory, ReadFault}
use Rattle.router_config.specs.Settings.{Settings}
use Rattle.runbook.specs.declared.lines.BookLine.{BookLine}
use Rattle.run_lines.specs.Inputs.{events_of}
use Rattle.run_lines.specs.Limits.{StaysBelow}
use Rattle.urpf_cli.specs.Openings.{IsBeforePairs, IsFailure, IsRefused, Opens}
use Rattle.run_lines.specs.RunText.{steps_for}
use Rattle.run_lines.specs.Runs.{NamesSession, RanBook}
use Rattle.urpf_cli.specs.Statuses.{IsRunStatus, status_of_run}
use Rattle.run_lines.specs.Slots.{slots_of}
use Rattle.run_lines.specs.Steps.{lines_in, steps_of}
use Rattle.urpf_cli.specs.declared.refusals.Refusal.{Refusal}
use Rattle.urpf_cli.specs.declared.refusals.Refusal.TheVariants.{Book, Config, Misused, Pairs}
use Rattle.urpf_cli.specs.declared.refusals.TextRefusal.TheVariants as text
use Rattle.run_lines.proofs.FeedFaults.{each_by}
use Rattle.urpf_cli.proofs.OfflineEnds.{as_many_told, begun, done_below, none_failed, one_run_end, run_known}
use Rattle.urpf_cli.proofs.OpeningLaws.{one_opening, opens_or_refused}
use Rattle.urpf_cli.proofs.RefusalStatuses.{before_pairs, failure_told, one_status, one_told}
use Rattle.urpf_cli.proofs.offline_command.offline.Goals as goal

pub returns-in-Err-clause-refused : goal.returns-in-Err-clause-refused
returns-in-Err-clause-refused g c = λ r texts decided is are.
    let words = map string_bytes c.args.words.now in
    let same : c.in-Err.refusal ≡ r =
    one_status c.in-Err.refusal r decided (sym c.status_of_refusal.ensures ∙ is) in
    subst (λ (n : ℕ). IsRefused words texts n r) (c.len.ensures ∙ c.args.feeds.now.ok.0)
    (subst (λ (q : Refusal). IsRefused words texts c.len.result q) same
    (c.in-Err.ensures.refused (subst (λ (q : Refusal). (IsFailure q → ⊥)) (sym same) decided) texts are))

pub returns-in-Err-clause-unread : goal.returns-in-Err-clause-unread
returns-in-Err-clause-unread g c = λ r other is before.
    let same : c.in-Err.refusal ≡ r = one_told c.in-Err.refusal r other (sym c.status_of_refusal.ensures ∙ is) in
    before_pairs c.in-Err.refusal (subst (λ (q : Refusal). IsBeforePairs q) (sym same) before)
    (λ e. c.in-Err.ensures.untouched (ap (λ (q : Refusal). Err q) e))
    (λ r e. c.in-Err.ensures.unasked r (ap (λ (q : Refusal). Err q) e))
    (λ r e. c.in-Err.ensures.unread r (ap (λ (q : Refusal). Err q) e))

pub returns-in-Err-clause-misused : goal.returns-in-Err-clause-misused
returns-in-Err-clause-misused g c = λ is.
    let same : c.in-Err.refusal ≡ Misused =
    one_told c.in-Err.refusal Misused (λ e. cc) (sym c.status_of_refusal.ensures ∙ is) in
    let kept = c.in-Err.ensures.untouched (ap (λ (q : Refusal). Err q) same) in (kept.0, kept.1, kept.2, refl, refl)

pub returns-in-Err-clause-book_after : goal.returns-in-Err-clause-book_after
returns-in-Err-clause-book_after g c = λ r other is.
    let same : c.in-Err.refusal ≡ Config r =
    one_told c.in-Err.refusal (Config r) other (sym c.status_of_refusal.ensures ∙ is) in
    (c.in-Err.ensures.unasked r (ap (λ (q : Refusal). Err q) same)).0

pub returns-in-Err-clause-pairs_after : goal.returns-in-Err-clause-pairs_after
returns-in-Err-clause-pairs_after g c = λ r other is.
    let same : c.in-Err.refusal ≡ Book r =
    one_told c.in-Err.refusal (Book r) other (sym c.status_of_refusal.ensures ∙ is) in
    c.in-Err.ensures.unread r (ap (λ (q : Refusal). Err q) same)

pub returns-in-Err-clause-config_before : goal.returns-in-Err-clause-config_before
returns-in-Err-clause-config_before g c = λ is.
    let same : c.in-Err.refusal ≡ Book text.ReadFault =
    one_told c.in-Err.refusal (Book text.ReadFault) (λ e. cc) (sym c.status_of_refusal.ensures ∙ is) in
    c.in-Err.ensures.config_before text.ReadFault (ap (λ (q : Refusal). Err q) same)

pub returns-in-Err-clause-texts_before : goal.returns-in-Err-clause-texts_before
returns-in-Err-clause-texts_before g c = λ texts is are.
    let same : c.in-Err.refusal ≡ Pairs text.ReadFault =
    one_told c.in-Err.refusal (Pairs text.ReadFault) (λ e. cc) (sym c.status_of_refusal.ensures ∙ is) in
    c.in-Err.ensures.texts_before text.ReadFault texts (ap (λ (q : Refusal). Err q) same) are

pub returns-in-Err-clause-done_only : goal.returns-in-Err-clause-done_only
returns-in-Err-clause-done_only g c = λ texts events are told below read_config read_book read_pairs feeds out.
    let words = map string_bytes c.args.words.now in
    let given : length events ≡ c.len.result =
    as_many_told _ c.args.feeds.now.items events told
    ∙ sym (c.len.ensures ∙ c.args.feeds.now.ok.0) in
    let opens : Opens words texts c.len.result below.settings below.rows below.table =
    subst (λ (n : ℕ). Opens words texts n below.settings below.rows below.table) given below.opens in
    elim (c.in-Err.ensures.only texts below.settings below.rows below.table are opens) [
      | inl same ↦ absurd cc
      | inr fails ↦ elim (failure_told c.in-Err.refusal fails) [
        | inl read ↦ absurd (read_config (c.in-Err.ensures.config.rose (ap (λ (r : Refusal). Err r) read)))
        | inr other ↦ elim other [
          | inl read ↦ absurd (read_book (c.in-Err.ensures.book.rose (ap (λ (r : Refusal). Err r) read)))
          | inr more ↦ elim more [
            | inl read ↦ absurd (read_pairs (c.in-Err.ensures.pairs.rose (ap (λ (r : Refusal). Err r) read)))
            | inr memory ↦ inr (c.status_of_refusal.ensures ∙ memory)
          ]
        ]
      ]
    ]

pub returns-clause-unasked : goal.returns-clause-unasked
returns-clause-unasked g c = λ r texts are refused.
    let words = map string_bytes c.args.words.now in
    let o = c.in-Ok.opening in
    absurd (opens_or_refused words texts c.len.result o.config o.book o.pairs r (c.in-Ok.ensures.found.1 texts are)
    (subst (λ (n : ℕ). IsRefused words texts n r) (sym (c.len.ensures ∙ c.args.feeds.now.ok.0)) refused))

pub returns-clause-known : goal.returns-clause-known
returns-clause-known g c =
    let many : length c.in-Ok.opening.config.sessions ≡ length c.args.feeds.now.items =
    sym c.in-Ok.ensures.ready.counted ∙ c.len.ensures ∙ c.args.feeds.now.ok.0 in
    subst (λ s. IsRunStatus (length c.args.feeds.now.items) s) (sym c.status_of_end.ensures)
    (run_known (length c.args.feeds.now.items) c.run_book.result
    (subst (λ (n : ℕ). IfErr c.run_book.result (NamesSession n)) many c.run_book.ensures.names))

pub returns-clause-ran : goal.returns-clause-ran
returns-clause-ran g c = λ end texts events had is are told.
    let o = c.in-Ok.opening in
    let slots = slots_of (λ b. (goal.Feed-dyn g (b.vtable, b.value)).left b.value) c.args.feeds.now.items in
    let given : length events ≡ c.len.result =
    as_many_told _ c.args.feeds.now.items events told
    ∙ sym (c.len.ensures ∙ c.args.feeds.now.ok.0) in
    let b = begun o.config o.pairs events slots (given ∙ c.in-Ok.ensures.ready.counted) told in
    record {
      settings = o.config;
      rows = o.book;
      table = o.pairs;
      opens = subst (λ (n : ℕ). Opens (map string_bytes c.args.words.now) texts n o.config o.book o.pairs) (sym given)
          (c.in-Ok.ensures.found.1 texts are);
      run = b.run;
      reads = b.reads;
      ran = subst (λ (e : Result (Unit {0}) RunFault). RanBook b.run (lines_in o.book) e
          (slots_of (λ b. (goal.Feed-dyn g (b.vtable, b.value)).left b.value) c.run_book.new.feeds.items) (g.K.Sink.held c.args.out.now)
          (g.K.Sink.held c.run_book.new.out))
          (one_run_end c.run_book.result end (sym c.status_of_end.ensures ∙ is))
          (c.run_book.ensures.ran b.run b.reads.configured b.reads.tabled b.reads.is b.told);
    }

pub returns-clause-memory : goal.returns-clause-memory
returns-clause-memory g c = λ texts events is are told.
    let o = c.in-Ok.opening in
    let slots = slots_of (λ b. (goal.Feed-dyn g (b.vtable, b.value)).left b.value) c.args.feeds.now.items in
    let given : length events ≡ c.len.result =
    as_many_told _ c.args.feeds.now.items events told
    ∙ sym (c.len.ensures ∙ c.args.feeds.now.ok.0) in
    let b = begun o.config o.pairs events slots (given ∙ c.in-Ok.ensures.ready.counted) told in
    let starved : RanBook b.run (lines_in o.book) (Err OutOfMemory) (slots_of (λ b. (goal.Feed-dyn g (b.vtable, b.value)).left b.value) c.run_book.new.feeds.items)
    (g.K.Sink.held c.args.out.now) (g.K.Sink.held c.run_book.new.out) =
    subst (λ (e : Result (Unit {0}) RunFault). RanBook b.run (lines_in o.book) e
    (slots_of (λ b. (goal.Feed-dyn g (b.vtable, b.value)).left b.value) c.run_book.new.feeds.items) (g.K.Sink.held c.args.out.now)
    (g.K.Sink.held c.run_book.new.out))
    (one_run_end c.run_book.result (Err OutOfMemory) (sym c.status_of_end.ensures ∙ is))
    (c.run_book.ensures.ran b.run b.reads.configured b.reads.tabled b.reads.is b.told) in
    inr (record {
      settings = o.config;
      rows = o.book;
      table = o.pairs;
      opens = subst (λ (n : ℕ). Opens (map string_bytes c.args.words.now) texts n o.config o.book o.pairs) (sym given)
          (c.in-Ok.ensures.found.1 texts are);
      run = b.run;
      reads = b.reads;
      took = starved.0;
      emptied = starved.2;
    })

pub returns-clause-done_only : goal.returns-clause-done_only
returns-clause-done_only g c = λ texts events are told below read_config read_book read_pairs feeds out.
    let words = map string_bytes c.args.words.now in
    let o = c.in-Ok.opening in
    let slots = slots_of (λ b. (goal.Feed-dyn g (b.vtable, b.value)).left b.value) c.args.feeds.now.items in
    let given : length events ≡ c.len.result =
    as_many_told _ c.args.feeds.now.items events told
    ∙ sym (c.len.ensures ∙ c.args.feeds.now.ok.0) in
    let b = begun o.config o.pairs events slots (given ∙ c.in-Ok.ensures.ready.counted) told in
    let same =
    one_opening words texts (length events) below.settings o.config below.rows o.book below.table o.pairs below.opens
    (subst (λ (n : ℕ). Opens words texts n o.config o.book o.pairs) (sym given)
    (c.in-Ok.ensures.found.1 texts are)) in
    let stays : StaysBelow (events_of b.run) (steps_for b.run (lines_in o.book)) =
    subst (λ (s : Settings). StaysBelow (events_of b.run) (steps_of (length s.sessions) (lines_in o.book)))
    (sym b.reads.configured)
    (subst (λ (es : List (List Event)). StaysBelow es (steps_of (length o.config.sessions) (lines_in o.book)))
    (sym b.reads.told)
    (subst (λ (s : Settings). StaysBelow events (steps_of (length s.sessions) (lines_in o.book))) same.0
    (subst (λ (rows : List (ℕ × BookLine)). StaysBelow events
    (steps_of (length below.settings.sessions) (lines_in rows))) same.1 below.below))) in
    let many : length o.config.sessions ≡ length c.args.feeds.now.items =
    sym c.in-Ok.ensures.ready.counted ∙ c.len.ensures ∙ c.args.feeds.now.ok.0 in
    let done =
    done_below b.run (lines_in o.book) c.run_book.result (slots_of (λ b. (goal.Feed-dyn g (b.vtable, b.value)).left b.value) c.run_book.new.feeds.items)
    (g.K.Sink.held c.args.out.now) (g.K.Sink.held c.run_book.new.out)
    (c.run_book.ensures.ran b.run b.reads.configured b.reads.tabled b.reads.is b.told) stays
    (none_failed _ c.run_book.result (length o.config.sessions) c.args.feeds.now.items
    c.run_book.new.feeds.items many c.run_book.ensures.names c.run_book.ensures.feeds feeds)
    (λ failed. out (c.run_book.ensures.sink.rose failed)) in
    elim done [
      | inl is ↦ inl (c.status_of_end.ensures ∙ ap status_of_run is)
      | inr is ↦ inr (c.status_of_end.ensures ∙ ap status_of_run is)
    ]

pub returns-clause-feeds : goal.returns-clause-feeds
returns-clause-feeds g c =
    each_by _ (λ s. c.run_book.result ≡ Err (ReadFault s)) _ c.args.feeds.now.items c.run_book.new.feeds.items
    (λ s. (
      λ is. c.status_of_end.ensures ∙ ap status_of_run is,
      λ is. one_run_end c.run_book.result (Err (ReadFault s)) (sym c.status_of_end.ensures ∙ is),
    ))
    c.run_book.ensures.feeds
