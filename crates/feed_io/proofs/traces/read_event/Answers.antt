use Rattle.std.proofs.Common.{Ok, refl, ap, sym, ◌∙◌, take, length-take, arith}
use Rattle.std.proofs.KnownBytes.{Keeps-refl}
use Rattle.feed_io.specs.Events.{up, down, elapsed}
use Rattle.feed_io.specs.Traces.{head_event}
use Rattle.feed_io.specs.declared.feeds.FeedEvent.TheVariants as given
use Rattle.feed_io.specs.declared.trace_head.HeadEvent.TheVariants.{Up, Down, Elapsed}
use Rattle.feed_io.proofs.TraceFeeds.{gives_none, gives_one, gives_part, goes_on, piece_goes_on}
use Rattle.feed_io.proofs.traces.read_event.Goals as goal

pub returns-in-Malformed-clause-events : goal.returns-in-Malformed-clause-events
returns-in-Malformed-clause-events g c =
    gives_none (record {}) _ _ _ _ _ _ _ c.args.buf.now c.fill.ensures.moved
    (Keeps-refl (g.S.Source.left c.fill.new.input.source))

pub returns-in-Up-clause-stops : goal.returns-in-Up-clause-stops
returns-in-Up-clause-stops g c =
    goes_on Up up (λ text. refl) _ _ _ _ _ _ c.fill.ensures.moved
    (c.in-Ok.ensures.whole (ap (λ w. Ok w) c.if-not-whole.false))
    (ap head_event (sym c.octets-2.ensures.octets) ∙ sym c.read_head.ensures ∙ c.in-Up.is)

pub returns-in-Ok-read_piece-clause-events : goal.returns-in-Ok-read_piece-clause-events
returns-in-Ok-read_piece-clause-events g c =
    let piece = c.in-Ok-read_piece.ensures in
    rw (c.owe.ensures)
    (gives_part _ _ _ _ _ _ c.in-Octets.count c.in-Ok-read_piece.given _ _ c.read_piece.new.buf c.fill.ensures.moved
    (c.in-Ok.ensures.whole (ap (λ w. Ok w) c.if-not-whole.false))
    (ap head_event (sym c.octets-2.ensures.octets) ∙ sym c.read_head.ensures ∙ c.in-Octets.is) piece.octets
    piece.bound.0 piece.bound.2 piece.bound.1 (omega arith))

pub returns-in-Ok-read_piece-clause-stops : goal.returns-in-Ok-read_piece-clause-stops
returns-in-Ok-read_piece-clause-stops g c =
    let piece = c.in-Ok-read_piece.ensures in
    piece_goes_on _ _ _ _ _ c.in-Octets.count _ _ (take c.in-Ok-read_piece.given c.read_piece.new.buf)
    c.fill.ensures.moved (c.in-Ok.ensures.whole (ap (λ w. Ok w) c.if-not-whole.false))
    (ap head_event (sym c.octets-2.ensures.octets) ∙ sym c.read_head.ensures ∙ c.in-Octets.is) piece.octets
    (omega (arith, piece.bound, length-take c.in-Ok-read_piece.given c.read_piece.new.buf))
    piece.more

pub returns-in-Down-clause-stops : goal.returns-in-Down-clause-stops
returns-in-Down-clause-stops g c =
    goes_on Down down (λ text. refl) _ _ _ _ _ _ c.fill.ensures.moved
    (c.in-Ok.ensures.whole (ap (λ w. Ok w) c.if-not-whole.false))
    (ap head_event (sym c.octets-2.ensures.octets) ∙ sym c.read_head.ensures ∙ c.in-Down.is)

pub returns-in-Elapsed-clause-events : goal.returns-in-Elapsed-clause-events
returns-in-Elapsed-clause-events g c =
    rw (c.clear-in-Elapsed.ensures)
    (gives_one _ (given.Elapsed c.in-Elapsed.seconds) (Elapsed c.in-Elapsed.seconds) (elapsed c.in-Elapsed.seconds)
    c.args.buf.now (λ before after is. is) (λ text. refl) _ _ _ _ _ _ c.fill.ensures.moved
    (c.in-Ok.ensures.whole (ap (λ w. Ok w) c.if-not-whole.false))
    (ap head_event (sym c.octets-2.ensures.octets) ∙ sym c.read_head.ensures ∙ c.in-Elapsed.is))

pub returns-in-Elapsed-clause-stops : goal.returns-in-Elapsed-clause-stops
returns-in-Elapsed-clause-stops g c =
    goes_on (Elapsed c.in-Elapsed.seconds) (elapsed c.in-Elapsed.seconds) (λ text. refl) _ _ _ _ _ _
    c.fill.ensures.moved (c.in-Ok.ensures.whole (ap (λ w. Ok w) c.if-not-whole.false))
    (ap head_event (sym c.octets-2.ensures.octets) ∙ sym c.read_head.ensures ∙ c.in-Elapsed.is)
