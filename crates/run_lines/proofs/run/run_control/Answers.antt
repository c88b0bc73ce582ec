use Rattle.std.proofs.Common.{◌∙◌, Ok, Err, length, sym}
use Rattle.std.proofs.lemmas.Slice.Zip.{AllZip-long}
use Rattle.run_lines.specs.Inputs.{IsInput}
use Rattle.run_lines.specs.Places.{opening}
use Rattle.run_lines.specs.RunText.{head_text, steps_for}
use Rattle.run_lines.specs.Slots.{slots_of}
use Rattle.run_lines.specs.Steps.{lines_in}
use Rattle.run_lines.proofs.Emptied.{empties_none}
use Rattle.run_lines.proofs.FeedFaults.{each_offered}
use Rattle.run_lines.proofs.Heads.{book_ran, book_stopped, head_front, head_of, write_knows, write_stops}
use Rattle.run_lines.proofs.LinesTaken.{book_lines}
use Rattle.run_lines.proofs.RunOpened.{as_many, opened_at, serves_opened}
use Rattle.run_lines.proofs.run.run_control.Goals as goal

pub returns-in-Err-clause-ran : goal.returns-in-Err-clause-ran
returns-in-Err-clause-ran g c = λ run opened shows are is told. (
  head_front run (lines_in c.args.book.now) (head_text c.args.totals.now run.config.sessions)
      (g.K.Sink.held c.args.out.now) (g.K.Sink.held c.open_run.new.out) (head_of run c.args.totals.now are)
      (c.in-Err.ensures.front run.config.sessions (c.marks.ensures ∙ opened.marks)),
  write_stops run (lines_in c.args.book.now) (slots_of (λ b. (goal.Feed-dyn g (b.vtable, b.value)).left b.value) c.args.feeds.now.items) c.in-Err.fault
      c.in-Err.ensures.err,
  empties_none run (steps_for run (lines_in c.args.book.now)) (slots_of (λ b. (goal.Feed-dyn g (b.vtable, b.value)).left b.value) c.args.feeds.now.items) told,
  write_knows run (steps_for run (lines_in c.args.book.now)) _ c.in-Err.fault _ _ c.in-Err.ensures.err,
)

pub take_lines-requires-clause-serves : goal.take_lines-requires-clause-serves
take_lines-requires-clause-serves g c = (
  c.requires.opened.0.settings,
  serves_opened c.requires.opened.0 c.args.control.now c.requires.opened.3 c.requires.opened.1,
  c.requires.opened.2,
)

pub returns-in-Err-take_lines-clause-ran : goal.returns-in-Err-take_lines-clause-ran
returns-in-Err-take_lines-clause-ran g c = λ run opened shows are is told.
    let ran = c.in-Err-take_lines.ensures.ran run (opening run.config.sessions)
    (opened_at run c.args.control.now (slots_of (λ b. (goal.Feed-dyn g (b.vtable, b.value)).left b.value) c.args.feeds.now.items) is opened told) shows in
    book_stopped run (lines_in c.args.book.now) c.in-Err-take_lines.fault c.take_lines.new.control
    c.take_lines.new.rounds (slots_of (λ b. (goal.Feed-dyn g (b.vtable, b.value)).left b.value) c.take_lines.new.feeds.items)
    (head_text c.args.totals.now run.config.sessions) (g.K.Sink.held c.args.out.now) (g.K.Sink.held c.open_run.new.out)
    (g.K.Sink.held c.take_lines.new.out) (head_of run c.args.totals.now are)
    (sym (AllZip-long IsInput run.config.sessions run.inputs is))
    (c.in_default.ensures.ok run.config.sessions (c.marks.ensures ∙ opened.marks))
    (book_lines run (opening run.config.sessions) (length c.args.control.now.peers) (length run.config.sessions)
    c.args.book.now c.len.result (Err c.in-Err-take_lines.fault) c.take_lines.new.control c.take_lines.new.rounds
    (slots_of (λ b. (goal.Feed-dyn g (b.vtable, b.value)).left b.value) c.take_lines.new.feeds.items) (g.K.Sink.held c.open_run.new.out)
    (g.K.Sink.held c.take_lines.new.out)
    (as_many run.config.sessions c.args.control.now.peers opened.stands.stand) c.len.ensures ran)

pub returns-clause-ran : goal.returns-clause-ran
returns-clause-ran g c = λ run opened shows are is told.
    let ran = c.in_default-take_lines.ensures.ran run (opening run.config.sessions)
    (opened_at run c.args.control.now (slots_of (λ b. (goal.Feed-dyn g (b.vtable, b.value)).left b.value) c.args.feeds.now.items) is opened told) shows in
    book_ran run (lines_in c.args.book.now) c.number.result c.put_done.new.to c.offer.result c.take_lines.new.control
    c.take_lines.new.rounds (slots_of (λ b. (goal.Feed-dyn g (b.vtable, b.value)).left b.value) c.take_lines.new.feeds.items)
    (head_text c.args.totals.now run.config.sessions) (g.K.Sink.held c.args.out.now) (g.K.Sink.held c.open_run.new.out)
    (g.K.Sink.held c.take_lines.new.out) (g.K.Sink.held c.offer.new.out) (head_of run c.args.totals.now are)
    (c.in_default.ensures.ok run.config.sessions (c.marks.ensures ∙ opened.marks))
    (book_lines run (opening run.config.sessions) (length c.args.control.now.peers) (length run.config.sessions)
    c.args.book.now c.len.result (Ok tt) c.take_lines.new.control c.take_lines.new.rounds
    (slots_of (λ b. (goal.Feed-dyn g (b.vtable, b.value)).left b.value) c.take_lines.new.feeds.items) (g.K.Sink.held c.open_run.new.out)
    (g.K.Sink.held c.take_lines.new.out)
    (as_many run.config.sessions c.args.control.now.peers opened.stands.stand) c.len.ensures ran)
    c.put_done.ensures c.number.ensures c.offer.ensures.ok c.offer.ensures.cut_short c.offer.ensures.err

pub returns-clause-feeds : goal.returns-clause-feeds
returns-clause-feeds g c =
    each_offered _ tt c.offer.result c.args.feeds.now.items c.take_lines.new.feeds.items c.offer.ensures.err
    c.in_default-take_lines.ensures.feeds
