use Rattle.std.proofs.Common.{◌≡◌, ◌∙◌, ℕ, Ok, arith, length, refl, subst, sym}
use Rattle.run_lines.specs.Places.{place_after}
use Rattle.run_lines.specs.Runs.{RanSteps}
use Rattle.run_lines.specs.Slots.{slots_of}
use Rattle.run_lines.specs.Steps.{pulls_of}
use Rattle.run_lines.proofs.Composing.{no_steps, pull_among, pulls_next}
use Rattle.run_lines.proofs.FeedFaults.{each_by, each_none, each_then, well_read}
use Rattle.run_lines.proofs.Showing.{keeps_self, keeps_then}
use Rattle.run_lines.proofs.run_line.pull_each.Goals as goal

pub loop-session-init : goal.loop-session-init
loop-session-init g c = record {
  ran = λ run place rounds s.
      no_steps run place c.args.control.now rounds (slots_of (λ b. (goal.Feed-dyn g (b.vtable, b.value)).left b.value) c.args.feeds.now.items)
      (g.K.Sink.held c.args.out.now) s;
  serves = λ config serves. serves;
  published = keeps_self c.args.control.now;
  kinds = refl;
  peers = refl;
  edits = refl;
  number = refl;
  feeds = each_none _ (λ s. ⊥) c.args.feeds.now.items (λ s never. never);
  out = refl;
}

pub returns-in-Err-clause-ran : goal.returns-in-Err-clause-ran
returns-in-Err-clause-ran g c = λ run place rounds s.
    let ran = c.loop-session.invariant.ran run place rounds s in
    pull_among run place (length c.args.control.now.peers) c.loop-session.session c.args.count c.in-Err.fault
    c.loop-session.control c.pull.new.control rounds rounds (slots_of (λ b. (goal.Feed-dyn g (b.vtable, b.value)).left b.value) c.loop-session.feeds.items)
    (slots_of (λ b. (goal.Feed-dyn g (b.vtable, b.value)).left b.value) c.pull.new.feeds.items) (g.K.Sink.held c.args.out.now) (g.K.Sink.held c.loop-session.out)
    (g.K.Sink.held c.pull.new.out)
    (omega (arith, c.loop-session-test.true, c.len-sessions.ensures, c.requires.slots, c.args.feeds.now.ok.0))
    ran
    (c.in-Err.ensures.ran run (place_after run.inputs (pulls_of c.loop-session.session c.args.count) place) rounds
    ran.1)

pub returns-in-Err-clause-feeds : goal.returns-in-Err-clause-feeds
returns-in-Err-clause-feeds g c =
    each_then _ _ c.args.feeds.now.items c.loop-session.feeds.items c.pull.new.feeds.items
    c.loop-session.invariant.feeds c.in-Err.ensures.feeds

pub returns-in-Err-clause-published : goal.returns-in-Err-clause-published
returns-in-Err-clause-published g c =
    keeps_then c.args.control.now c.loop-session.control c.pull.new.control c.loop-session.invariant.published
    c.in-Err.ensures.published

pub loop-session-preserved : goal.loop-session-preserved
loop-session-preserved g c =
    let serves = c.in_default.ensures.serves c.requires.serves.0
    (c.loop-session.invariant.serves c.requires.serves.0 c.requires.serves.1) in
    record {
      ran = λ run place rounds s.
          let ran = c.loop-session.invariant.ran run place rounds s in
          pulls_next run place c.loop-session.session c.args.count c.loop-session.control c.pull.new.control rounds
          rounds (slots_of (λ b. (goal.Feed-dyn g (b.vtable, b.value)).left b.value) c.loop-session.feeds.items) (slots_of (λ b. (goal.Feed-dyn g (b.vtable, b.value)).left b.value) c.pull.new.feeds.items)
          (g.K.Sink.held c.args.out.now) (g.K.Sink.held c.loop-session.out) (g.K.Sink.held c.pull.new.out) ran
          (c.in_default.ensures.ran run
          (place_after run.inputs (pulls_of c.loop-session.session c.args.count) place) rounds ran.1);
      serves = λ config is. c.in_default.ensures.serves config (c.loop-session.invariant.serves config is);
      published = keeps_then c.args.control.now c.loop-session.control c.pull.new.control
          c.loop-session.invariant.published c.in_default.ensures.published;
      kinds = c.in_default.ensures.kinds ∙ c.loop-session.invariant.kinds;
      peers = serves.sessions ∙ sym c.requires.serves.1.sessions;
      edits = c.in_default.ensures.edits ∙ c.loop-session.invariant.edits;
      number = c.in_default.ensures.number ∙ c.loop-session.invariant.number;
      feeds = each_then _ (λ s. ⊥) c.args.feeds.now.items c.loop-session.feeds.items
          c.pull.new.feeds.items c.loop-session.invariant.feeds
          (well_read _ tt c.loop-session.feeds.items c.pull.new.feeds.items c.in_default.ensures.feeds);
      out = c.in_default.ensures.sink.kept (λ failed. cc) ∙ c.loop-session.invariant.out;
    }

pub returns-clause-ran : goal.returns-clause-ran
returns-clause-ran g c = λ run place rounds s.
    let all : c.loop-session.session ≡ length c.args.control.now.peers =
    omega (
      arith,
      c.loop-session-test.false,
      c.loop-session.auto.session-end,
      c.len-sessions.ensures,
      c.requires.slots,
      c.args.feeds.now.ok.0,
    ) in
    subst (λ (n : ℕ). RanSteps run place (pulls_of n c.args.count) (Ok tt) c.loop-session.control rounds
    (slots_of (λ b. (goal.Feed-dyn g (b.vtable, b.value)).left b.value) c.loop-session.feeds.items) (g.K.Sink.held c.args.out.now) (g.K.Sink.held c.loop-session.out))
    all (c.loop-session.invariant.ran run place rounds s)

pub returns-clause-feeds : goal.returns-clause-feeds
returns-clause-feeds g c =
    each_by _ (λ s. ⊥) _ c.args.feeds.now.items c.loop-session.feeds.items
    (λ s. (λ never. absurd never, λ clash. cc)) c.loop-session.invariant.feeds
