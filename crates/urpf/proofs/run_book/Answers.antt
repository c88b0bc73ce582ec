use Rattle.std.proofs.Common.{◌≡◌, length, string_bytes, ap, arith, sym, ◌∙◌}
use Rattle.std.proofs.lemmas.List.{length-map}
use Rattle.urpf.proofs.run_book.Goals as goal

pub offline-requires : goal.offline-requires
offline-requires c are =
    let full : length c.loop-word.feeds.items ≡ length c.feed_names.result.sessions.now =
    omega (arith, c.loop-word.invariant, c.loop-word-test.false, c.loop-word.feeds.ok.0) in
    full ∙ sym (length-map c.feed_names.result.sessions.now string_bytes)
    ∙ ap length (c.feed_names.ensures.sessions are)
