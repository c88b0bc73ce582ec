use Rattle.std.proofs.Common.{◌∙◌, [], ◌+◌, ℕ, Ok, Err, arith, length, refl, slice_range, subst, sym, take}
use Rattle.runbook.specs.Book.{IsConfiguredFor}
use Rattle.runbook.specs.declared.lines.BookLine.{BookLine}
use Rattle.run_lines.specs.Places.{place_after}
use Rattle.run_lines.specs.Publications.{HandedOn}
use Rattle.run_lines.specs.Runs.{RanSteps, Shows}
use Rattle.run_lines.specs.Slots.{slots_of}
use Rattle.run_lines.specs.Steps.{lines_in, steps_in, steps_of}
use Rattle.run_lines.proofs.Composing.{no_steps}
use Rattle.run_lines.proofs.FeedFaults.{each_by, each_none, each_then, well_read}
use Rattle.run_lines.proofs.HandingOn.{grows_none, grows_then, handed_nothing}
use Rattle.run_lines.proofs.LinesTaken.{all_at, handed_all, handed_next, handed_stop_at, lines_all, lines_next, lines_stop}
use Rattle.run_lines.proofs.LinesTaken.{range_get, range_length, shown_all}
use Rattle.run_lines.proofs.Showing.{shows_next}
use Rattle.run_lines.proofs.run.take_lines.Goals as goal

pub loop-k-init : goal.loop-k-init
loop-k-init g c = record {
  within = omega arith;
  ran = λ run place s shows.
      no_steps run place c.args.control.now c.args.rounds.now (slots_of (λ b. (goal.Feed-dyn g (b.vtable, b.value)).left b.value) c.args.feeds.now.items)
      (g.K.Sink.held c.args.out.now) s;
  shown = λ run place s shows. shows;
  batches = λ run place s shows. handed_nothing run place [] (Ok tt) (g.T.Outlet.batches c.args.outlet.now) refl;
  grows = grows_none (g.T.Outlet.batches c.args.outlet.now);
  sound = c.requires.sound;
  in_step = c.requires.in_step;
  serves = λ config serves. serves;
  peers = refl;
  edits = omega (arith, c.requires.edits);
  number = omega (arith, c.requires.number);
  rounds = omega (arith, c.requires.rounds);
  feeds = each_none _ (λ s. ⊥) c.args.feeds.now.items (λ s never. never);
  out = refl;
}

pub take_line-requires-clause-serves : goal.take_line-requires-clause-serves
take_line-requires-clause-serves g c = (
  c.requires.serves.0,
  c.loop-k.invariant.serves c.requires.serves.0 c.requires.serves.1,
  all_at (λ (row : ℕ × BookLine). IsConfiguredFor c.requires.serves.0 row.1) c.args.book.now (c.args.from + c.loop-k.k)
      c.line-line.result c.requires.serves.2 c.line-line.ensures,
)

pub returns-in-Err-clause-ran : goal.returns-in-Err-clause-ran
returns-in-Err-clause-ran g c = λ run place s shows.
    let sessions : ℕ = length c.args.control.now.peers in
    let rows = slice_range c.args.book.now c.args.from c.args.upto in
    let ran = c.loop-k.invariant.ran run place s shows in
    let there = place_after run.inputs (steps_of sessions (take c.loop-k.k (lines_in rows))) place in
    lines_stop run place sessions rows c.loop-k.k c.line-line.result c.in-Err.fault c.loop-k.control
    c.take_line.new.control c.loop-k.rounds c.take_line.new.rounds (slots_of (λ b. (goal.Feed-dyn g (b.vtable, b.value)).left b.value) c.loop-k.feeds.items)
    (slots_of (λ b. (goal.Feed-dyn g (b.vtable, b.value)).left b.value) c.take_line.new.feeds.items) (g.K.Sink.held c.args.out.now) (g.K.Sink.held c.loop-k.out)
    (g.K.Sink.held c.take_line.new.out)
    (range_get c.args.book.now c.args.from c.args.upto c.loop-k.k c.line-line.result
    (omega (arith, c.loop-k-test.true)) c.line-line.ensures) ran
    (subst (λ (n : ℕ). RanSteps run there (steps_in n c.line-line.result.1) (Err c.in-Err.fault)
    c.take_line.new.control c.take_line.new.rounds (slots_of (λ b. (goal.Feed-dyn g (b.vtable, b.value)).left b.value) c.take_line.new.feeds.items)
    (g.K.Sink.held c.loop-k.out) (g.K.Sink.held c.take_line.new.out)) c.loop-k.invariant.peers
    (c.in-Err.ensures.ran run there ran.1 (c.loop-k.invariant.shown run place s shows)))

pub returns-in-Err-clause-batches : goal.returns-in-Err-clause-batches
returns-in-Err-clause-batches g c = λ run place s shows.
    let sessions : ℕ = length c.args.control.now.peers in
    let rows = slice_range c.args.book.now c.args.from c.args.upto in
    let ran = c.loop-k.invariant.ran run place s shows in
    let there = place_after run.inputs (steps_of sessions (take c.loop-k.k (lines_in rows))) place in
    handed_stop_at run place sessions rows c.loop-k.k c.line-line.result c.in-Err.fault
    (g.T.Outlet.batches c.args.outlet.now) (g.T.Outlet.batches c.loop-k.outlet)
    (g.T.Outlet.batches c.take_line.new.outlet)
    (range_get c.args.book.now c.args.from c.args.upto c.loop-k.k c.line-line.result
    (omega (arith, c.loop-k-test.true)) c.line-line.ensures) (c.loop-k.invariant.batches run place s shows)
    (subst (λ (n : ℕ). HandedOn run there (steps_in n c.line-line.result.1) (Err c.in-Err.fault)
    (g.T.Outlet.batches c.loop-k.outlet) (g.T.Outlet.batches c.take_line.new.outlet)) c.loop-k.invariant.peers
    (c.in-Err.ensures.batches run there ran.1))

pub returns-in-Err-clause-grows : goal.returns-in-Err-clause-grows
returns-in-Err-clause-grows g c =
    grows_then (g.T.Outlet.batches c.args.outlet.now) (g.T.Outlet.batches c.loop-k.outlet)
    (g.T.Outlet.batches c.take_line.new.outlet) c.loop-k.invariant.grows c.in-Err.ensures.grows

pub returns-in-Err-clause-feeds : goal.returns-in-Err-clause-feeds
returns-in-Err-clause-feeds g c =
    each_then _ _ c.args.feeds.now.items c.loop-k.feeds.items c.take_line.new.feeds.items
    c.loop-k.invariant.feeds c.in-Err.ensures.feeds

pub loop-k-preserved : goal.loop-k-preserved
loop-k-preserved g c =
    let serves = c.in_default.ensures.serves c.requires.serves.0
    (c.loop-k.invariant.serves c.requires.serves.0 c.requires.serves.1) in
    let there = range_get c.args.book.now c.args.from c.args.upto c.loop-k.k c.line-line.result
    (omega (arith, c.loop-k-test.true)) c.line-line.ensures in
    record {
      within = omega (arith, c.loop-k-test.true);
      ran = λ run place s shows.
          let sessions : ℕ = length c.args.control.now.peers in
          let rows = slice_range c.args.book.now c.args.from c.args.upto in
          let ran = c.loop-k.invariant.ran run place s shows in
          let mid = place_after run.inputs (steps_of sessions (take c.loop-k.k (lines_in rows))) place in
          lines_next run place sessions rows c.loop-k.k c.line-line.result c.loop-k.control c.take_line.new.control
          c.loop-k.rounds c.take_line.new.rounds (slots_of (λ b. (goal.Feed-dyn g (b.vtable, b.value)).left b.value) c.loop-k.feeds.items)
          (slots_of (λ b. (goal.Feed-dyn g (b.vtable, b.value)).left b.value) c.take_line.new.feeds.items) (g.K.Sink.held c.args.out.now) (g.K.Sink.held c.loop-k.out)
          (g.K.Sink.held c.take_line.new.out) there ran
          (subst (λ (n : ℕ). RanSteps run mid (steps_in n c.line-line.result.1) (Ok tt) c.take_line.new.control
          c.take_line.new.rounds (slots_of (λ b. (goal.Feed-dyn g (b.vtable, b.value)).left b.value) c.take_line.new.feeds.items) (g.K.Sink.held c.loop-k.out)
          (g.K.Sink.held c.take_line.new.out)) c.loop-k.invariant.peers
          (c.in_default.ensures.ran run mid ran.1 (c.loop-k.invariant.shown run place s shows)));
      shown = λ run place s shows.
          let sessions : ℕ = length c.args.control.now.peers in
          let rows = slice_range c.args.book.now c.args.from c.args.upto in
          let mid = place_after run.inputs (steps_of sessions (take c.loop-k.k (lines_in rows))) place in
          shows_next run place sessions rows c.loop-k.k c.line-line.result c.take_line.new.control
          (g.T.Outlet.shown c.take_line.new.outlet) there
          (subst (λ (n : ℕ). Shows run (place_after run.inputs (steps_in n c.line-line.result.1) mid)
          c.take_line.new.control (g.T.Outlet.shown c.take_line.new.outlet)) c.loop-k.invariant.peers
          (c.in_default.ensures.shown run mid (c.loop-k.invariant.ran run place s shows).1
          (c.loop-k.invariant.shown run place s shows)));
      batches = λ run place s shows.
          let sessions : ℕ = length c.args.control.now.peers in
          let rows = slice_range c.args.book.now c.args.from c.args.upto in
          let mid = place_after run.inputs (steps_of sessions (take c.loop-k.k (lines_in rows))) place in
          handed_next run place sessions rows c.loop-k.k c.line-line.result (g.T.Outlet.batches c.args.outlet.now)
          (g.T.Outlet.batches c.loop-k.outlet) (g.T.Outlet.batches c.take_line.new.outlet) there
          (c.loop-k.invariant.batches run place s shows)
          (subst (λ (n : ℕ). HandedOn run mid (steps_in n c.line-line.result.1) (Ok tt)
          (g.T.Outlet.batches c.loop-k.outlet) (g.T.Outlet.batches c.take_line.new.outlet)) c.loop-k.invariant.peers
          (c.in_default.ensures.batches run mid (c.loop-k.invariant.ran run place s shows).1));
      grows = grows_then (g.T.Outlet.batches c.args.outlet.now) (g.T.Outlet.batches c.loop-k.outlet)
          (g.T.Outlet.batches c.take_line.new.outlet) c.loop-k.invariant.grows c.in_default.ensures.grows;
      sound = c.in_default.ensures.sound;
      in_step = c.in_default.ensures.in_step;
      serves = λ config is. c.in_default.ensures.serves config (c.loop-k.invariant.serves config is);
      peers = serves.sessions ∙ sym c.requires.serves.1.sessions;
      edits = omega (arith, c.in_default.ensures.counts.edits, c.loop-k.invariant.edits);
      number = omega (arith, c.in_default.ensures.counts.number, c.loop-k.invariant.number);
      rounds = omega (arith, c.in_default.ensures.rounds, c.loop-k.invariant.rounds);
      feeds = each_then _ (λ s. ⊥) c.args.feeds.now.items c.loop-k.feeds.items
          c.take_line.new.feeds.items c.loop-k.invariant.feeds
          (well_read _ tt c.loop-k.feeds.items c.take_line.new.feeds.items c.in_default.ensures.feeds);
      out = c.in_default.ensures.sink.kept (λ failed. cc) ∙ c.loop-k.invariant.out;
    }

pub returns-clause-ran : goal.returns-clause-ran
returns-clause-ran g c = λ run place s shows.
    lines_all run place (length c.args.control.now.peers) (slice_range c.args.book.now c.args.from c.args.upto)
    c.loop-k.k c.loop-k.control c.loop-k.rounds (slots_of (λ b. (goal.Feed-dyn g (b.vtable, b.value)).left b.value) c.loop-k.feeds.items) (g.K.Sink.held c.args.out.now)
    (g.K.Sink.held c.loop-k.out)
    (omega (arith, c.loop-k-test.false, range_length c.args.book.now c.args.from c.args.upto))
    (c.loop-k.invariant.ran run place s shows)

pub returns-clause-shown : goal.returns-clause-shown
returns-clause-shown g c = λ run place s shows.
    shown_all run place (length c.args.control.now.peers) (slice_range c.args.book.now c.args.from c.args.upto)
    c.loop-k.k c.loop-k.control (g.T.Outlet.shown c.loop-k.outlet)
    (omega (arith, c.loop-k-test.false, range_length c.args.book.now c.args.from c.args.upto))
    (c.loop-k.invariant.shown run place s shows)

pub returns-clause-batches : goal.returns-clause-batches
returns-clause-batches g c = λ run place s shows.
    handed_all run place (length c.args.control.now.peers) (slice_range c.args.book.now c.args.from c.args.upto)
    c.loop-k.k (g.T.Outlet.batches c.args.outlet.now) (g.T.Outlet.batches c.loop-k.outlet)
    (omega (arith, c.loop-k-test.false, range_length c.args.book.now c.args.from c.args.upto))
    (c.loop-k.invariant.batches run place s shows)

pub returns-clause-feeds : goal.returns-clause-feeds
returns-clause-feeds g c =
    each_by _ (λ s. ⊥) _ c.args.feeds.now.items c.loop-k.feeds.items (λ s. (λ never. absurd never, λ clash. cc))
    c.loop-k.invariant.feeds
