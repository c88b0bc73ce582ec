use Rattle.std.proofs.Common.{Ok, Some, ap, ◌∙◌, arith}
use Rattle.feed_io.specs.Events.{up, down}
use Rattle.mrt_feed.specs.Places.{due_events}
use Rattle.mrt_feed.proofs.Runs.{ran_as, gives_failed, later_stops, gives_end, end_goes_on, counts_run, gives_up}
use Rattle.mrt_feed.proofs.Runs.{gives_down, event_goes_on, gives_memory, memory_goes_on}
use Rattle.mrt_feed.proofs.feed.next_event.Goals as goal

pub returns-in-Err-clause-events : goal.returns-in-Err-clause-events
returns-in-Err-clause-events g c = gives_failed (record {}) c.args.peer _ _ _ _ _ _ c.args.buf.now c.in-Err.ensures.ran

pub returns-in-Err-clause-failed : goal.returns-in-Err-clause-failed
returns-in-Err-clause-failed g c = later_stops c.args.peer _ _ _ _ _ _ c.in-Err.ensures.ran c.in-Err.ensures.failed

pub returns-in-Ok-None-clause-events : goal.returns-in-Ok-None-clause-events
returns-in-Ok-None-clause-events g c =
    let is = c.in-Ok-None.field-0-is in
    gives_end _ c.args.peer _ _ _ _ _ _ c.args.buf.now
    (ran_as c.args.peer _ _ _ _ _ _ _ _ (ap due_events is) c.in-Ok-None.ensures.ran)
    (c.in-Ok-None.ensures.ended (ap (λ d. Ok d) is))

pub returns-in-Ok-None-clause-stops : goal.returns-in-Ok-None-clause-stops
returns-in-Ok-None-clause-stops g c =
    let is = c.in-Ok-None.field-0-is in
    end_goes_on c.args.peer _ _ _ _ _ _
    (ran_as c.args.peer _ _ _ _ _ _ _ _ (ap due_events is) c.in-Ok-None.ensures.ran)
    (c.in-Ok-None.ensures.ended (ap (λ d. Ok d) is))

pub returns-in-Ok-None-clause-counted : goal.returns-in-Ok-None-clause-counted
returns-in-Ok-None-clause-counted g c = counts_run c.args.peer _ _ _ _ _ _ _ c.in-Ok-None.ensures.ran

pub returns-in-Ok-Some-Up-clause-events : goal.returns-in-Ok-Some-Up-clause-events
returns-in-Ok-Some-Up-clause-events g c =
    let is = c.in-Ok-Some-Up.field-0-is ∙ ap (λ d. Some d) c.in-Ok-Some-Up.field-0-0-is in
    gives_up _ c.args.peer _ _ _ _ _ _ c.args.buf.now
    (ran_as c.args.peer _ _ _ _ _ _ _ _ (ap due_events is) c.in-Ok-Some-Up.ensures.ran)

pub returns-in-Ok-Some-Up-clause-stops : goal.returns-in-Ok-Some-Up-clause-stops
returns-in-Ok-Some-Up-clause-stops g c =
    let is = c.in-Ok-Some-Up.field-0-is ∙ ap (λ d. Some d) c.in-Ok-Some-Up.field-0-0-is in
    event_goes_on c.args.peer _ _ _ _ _ _ up
    (ran_as c.args.peer _ _ _ _ _ _ _ _ (ap due_events is) c.in-Ok-Some-Up.ensures.ran)

pub returns-in-Ok-Some-Up-clause-counted : goal.returns-in-Ok-Some-Up-clause-counted
returns-in-Ok-Some-Up-clause-counted g c = counts_run c.args.peer _ _ _ _ _ _ _ c.in-Ok-Some-Up.ensures.ran

pub returns-in-Ok-Some-Down-clause-events : goal.returns-in-Ok-Some-Down-clause-events
returns-in-Ok-Some-Down-clause-events g c =
    let is = c.in-Ok-Some-Down.field-0-is ∙ ap (λ d. Some d) c.in-Ok-Some-Down.field-0-0-is in
    gives_down _ c.args.peer _ _ _ _ _ _ c.args.buf.now
    (ran_as c.args.peer _ _ _ _ _ _ _ _ (ap due_events is) c.in-Ok-Some-Down.ensures.ran)

pub returns-in-Ok-Some-Down-clause-stops : goal.returns-in-Ok-Some-Down-clause-stops
returns-in-Ok-Some-Down-clause-stops g c =
    let is = c.in-Ok-Some-Down.field-0-is ∙ ap (λ d. Some d) c.in-Ok-Some-Down.field-0-0-is in
    event_goes_on c.args.peer _ _ _ _ _ _ down
    (ran_as c.args.peer _ _ _ _ _ _ _ _ (ap due_events is) c.in-Ok-Some-Down.ensures.ran)

pub returns-in-Ok-Some-Down-clause-counted : goal.returns-in-Ok-Some-Down-clause-counted
returns-in-Ok-Some-Down-clause-counted g c = counts_run c.args.peer _ _ _ _ _ _ _ c.in-Ok-Some-Down.ensures.ran

pub returns-in-Ok-Some-Octets-clause-events : goal.returns-in-Ok-Some-Octets-clause-events
returns-in-Ok-Some-Octets-clause-events g c =
    let is = c.in-Ok-Some-Octets.field-0-is ∙ ap (λ d. Some d) c.in-Ok-Some-Octets.field-0-0-is in
    let some = c.in-Ok-Some-Octets.ensures.octets (ap (λ d. Ok d) is) in
    gives_memory _ c.args.peer _ _ _ _ _ c.due.new.place c.give.result c.give.new.self c.give.new.buf
    (ran_as c.args.peer _ _ _ _ _ _ _ _ (ap due_events is) c.in-Ok-Some-Octets.ensures.ran) c.give.ensures.octets
    (omega (arith, some, c.requires, c.give.ensures.count, c.give.auto.buf)) (omega (arith, c.give.ensures.count))

pub returns-in-Ok-Some-Octets-clause-stops : goal.returns-in-Ok-Some-Octets-clause-stops
returns-in-Ok-Some-Octets-clause-stops g c =
    let is = c.in-Ok-Some-Octets.field-0-is ∙ ap (λ d. Some d) c.in-Ok-Some-Octets.field-0-0-is in
    memory_goes_on c.args.peer _ _ _ _ _ _
    (ran_as c.args.peer _ _ _ _ _ _ _ _ (ap due_events is) c.in-Ok-Some-Octets.ensures.ran)
    (c.in-Ok-Some-Octets.ensures.octets (ap (λ d. Ok d) is))

pub returns-in-Ok-Some-Octets-clause-counted : goal.returns-in-Ok-Some-Octets-clause-counted
returns-in-Ok-Some-Octets-clause-counted g c = counts_run c.args.peer _ _ _ _ _ _ _ c.in-Ok-Some-Octets.ensures.ran
