use Rattle.std.proofs.Common.{ap, ◌∙◌, arith}
use Rattle.feed_io.specs.Memory.{counted_up}
use Rattle.mrt_feed.specs.MrtFeeds.{events_left}
use Rattle.mrt_feed.proofs.Runs.{still_gives, fail_counts}
use Rattle.mrt_feed.proofs.feed.MrtFeedFeed.next.Goals as goal

pub returns-then-self-clause-events : goal.returns-then-self-clause-events
returns-then-self-clause-events g c =
    rw (c.fail.ensures.is)
    (still_gives (record {})
    (events_left c.args.self.now.peer c.args.self.now.place (g.S.Source.left c.args.self.now.source)) c.args.buf.now)

pub returns-then-self-clause-cause : goal.returns-then-self-clause-cause
returns-then-self-clause-cause g c =
    fail_counts (record {}) c.args.self.now.faults c.fail.new.self.faults c.fail.ensures.later
    (ap (λ s. s.faults) c.fail.ensures.is)

pub returns-in-Ok-clause-events : goal.returns-in-Ok-clause-events
returns-in-Ok-clause-events g c = rw (← c.self.view_is) c.in-Ok.ensures.events

pub returns-in-Ok-clause-stops : goal.returns-in-Ok-clause-stops
returns-in-Ok-clause-stops g c = rw (← c.self.view_is) c.in-Ok.ensures.stops

pub returns-in-Err-clause-events : goal.returns-in-Err-clause-events
returns-in-Err-clause-events g c = rw (c.fail-in-Err.ensures.is, ← c.self.view_is) c.in-Err.ensures.events

pub returns-in-Err-clause-cause : goal.returns-in-Err-clause-cause
returns-in-Err-clause-cause g c =
    fail_counts (record {}) c.args.self.now.faults c.fail-in-Err.new.self.faults
    (omega (arith, c.fail-in-Err.ensures.later, ap (λ s. s.faults) c.self.view_is))
    (ap (λ s. s.faults) c.fail-in-Err.ensures.is ∙ ap (λ s. counted_up s.faults) c.self.view_is)
