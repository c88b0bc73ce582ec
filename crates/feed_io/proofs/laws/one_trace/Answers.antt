use Rattle.feed_io.proofs.Spellings.{events_spelled, events_whole, events_broken, spelled_is_on}
use Rattle.feed_io.proofs.laws.one_trace.Goals as goal

pub returns-clause-whole : goal.returns-clause-whole
returns-clause-whole c = events_whole

pub returns-clause-next : goal.returns-clause-next
returns-clause-next c = events_spelled

pub returns-clause-broken : goal.returns-clause-broken
returns-clause-broken c = events_broken

pub returns-clause-off : goal.returns-clause-off
returns-clause-off c = spelled_is_on
