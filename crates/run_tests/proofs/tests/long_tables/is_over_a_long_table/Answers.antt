use Rattle.std.proofs.Common.{length, string_bytes, ap, arith}
use Rattle.std.proofs.lemmas.List.{length-map}
use Rattle.run_tests.proofs.tests.long_tables.is_over_a_long_table.Goals as goal

pub offline-ended-requires : goal.offline-ended-requires
offline-ended-requires g c are = omega (
  arith,
  ap length c.new-feeds.ensures.items,
  c.if-feed_names-ne0.false,
  length-map c.feed_names.result.sessions.now string_bytes,
  ap length (c.feed_names.ensures.sessions are),
)
