use Rattle.std.proofs.Common.{length, string_bytes, ap, arith}
use Rattle.std.proofs.lemmas.List.{length-map}
use Rattle.run_tests.proofs.tests.calling.status_over.Goals as goal

pub offline-requires : goal.offline-requires
offline-requires g c are = omega (
  arith,
  c.args.feeds.now.ok.0,
  c.if-names-len.false,
  c.len.ensures,
  length-map c.feed_names.result.sessions.now string_bytes,
  ap length (c.feed_names.ensures.sessions are),
)
