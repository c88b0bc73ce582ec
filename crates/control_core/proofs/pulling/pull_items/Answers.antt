use Rattle.std.proofs.Common.{◌≡◌, ◌-◌, ◌<◌, ℕ, true, false, Ok, Err, refl, sym, ap, subst, ◌∙◌, arith, take, inr}
use Rattle.std.specs.Io.KnownBytes.{Appends}
use Rattle.report_text.specs.Lines.{end_line}
use Rattle.control_core.specs.Peers.{peer_of}
use Rattle.control_core.specs.Pulls.{EndsBy, asks_more, reset_text}
use Rattle.control_core.specs.declared.limits.RunFault.{RunFault}
use Rattle.control_core.specs.declared.limits.RunFault.TheVariants.{ItemLimit, OutOfMemory}
use Rattle.control_core.specs.Turns.{HadMemory, IsTurnFault}
use Rattle.control_core.proofs.PullLaws.{so_far_begins, so_far_none, so_far_item, one_more_item}
use Rattle.control_core.proofs.PullEnds.{stopped_at}
use Rattle.control_core.proofs.PullLaws.{pulled_so_far, pulled_cut, pulled_end}
use Rattle.control_core.proofs.PullEnds.{pulled_until, takes_none, takes_same}
use Rattle.control_core.proofs.PullLaws.{TookEnd}
use Rattle.control_core.proofs.PullEnds.{takes_more, takes_until, stays_until, took_end, ends_at_end}
use Rattle.control_core.proofs.PullEnds.{had_memory, end_had, ends_until}
use Rattle.control_core.proofs.TurnEnds.{same_answer}
use Rattle.control_core.proofs.Logs.{follow_none}
use Rattle.control_core.proofs.TurnRows.{ready_after, rows_then}
use Rattle.control_core.proofs.pulling.pull_items.Goals as goal

pub loop-alloc-init : goal.loop-alloc-init
loop-alloc-init g c = record {
  so_far =
      λ events effects stands. so_far_begins c.args.peering.now.number events effects _ _ (peer_of c.args.peering.now)
      stands;
  unmet = c.requires.unmet;
  begun = c.items-begun.ensures;
  most = takes_none c.args.count (peer_of c.args.peering.now);
  within = (λ within. within, λ within. within);
  feed = refl;
  out = refl;
  number = refl;
  config = refl;
  ready = c.requires.ready;
  rows = follow_none c.args.peering.now.session.config.iface c.args.peering.now.rib c.args.sets.now;
}

pub returns-then-limits-items-clause-pull : goal.returns-then-limits-items-clause-pull
returns-then-limits-items-clause-pull g c =
    let same : c.saturating_sub.result
    ≡ c.loop-alloc.peering.session.items - c.args.peering.now.session.items =
    c.saturating_sub.ensures ∙ ap (λ (n : ℕ). n - c.items-begun.result) c.items.ensures
    ∙ ap (λ (n : ℕ). c.loop-alloc.peering.session.items - n) c.items-begun.ensures in
    let asks : asks_more c.args.count (c.loop-alloc.peering.session.items - c.args.peering.now.session.items)
    ≡ true = ap (asks_more c.args.count) (sym same) ∙ sym c.asks_more.ensures ∙ c.loop-alloc-test.true in
    record {
      pulled = λ events effects stands memory.
          pulled_so_far events effects _ _ _ _ (Err (ItemLimit c.args.peering.now.number)) (peer_of c.args.peering.now)
          (peer_of c.loop-alloc.peering) (c.loop-alloc.invariant.so_far events effects stands)
          c.loop-alloc.invariant.unmet tt;
      stopped =
          λ events effects stands memory. absurd (had_memory (Err (ItemLimit c.args.peering.now.number)) tt memory);
      ends = (
        refl,
        (c.requires.unmet, c.loop-alloc.invariant.unmet, asks),
        omega (arith, c.if-limits-items.true, c.items-in-loop-alloc.ensures),
      );
      most = c.loop-alloc.invariant.most;
      within = c.loop-alloc.invariant.within;
      number = c.loop-alloc.invariant.number;
      config = c.loop-alloc.invariant.config;
    }

pub returns-in-Err-tell_reset-clause-pull : goal.returns-in-Err-tell_reset-clause-pull
returns-in-Err-tell_reset-clause-pull g c =
    let same : c.saturating_sub.result
    ≡ c.loop-alloc.peering.session.items - c.args.peering.now.session.items =
    c.saturating_sub.ensures ∙ ap (λ (n : ℕ). n - c.items-begun.result) c.items.ensures
    ∙ ap (λ (n : ℕ). c.loop-alloc.peering.session.items - n) c.items-begun.ensures in
    let asks : asks_more c.args.count (c.loop-alloc.peering.session.items - c.args.peering.now.session.items)
    ≡ true = ap (asks_more c.args.count) (sym same) ∙ sym c.asks_more.ensures ∙ c.loop-alloc-test.true in
    let turned = rw c.in-Ok-Took.field-0-is at c.in-Ok-Took.ensures.stands in
    let counts = rw c.in-Ok-Took.field-0-is at c.in-Ok-Took.ensures.counts in
    let err = c.in-Err-tell_reset.ensures.err in
    let cut = c.in-Err-tell_reset.ensures.cut_short in
    record {
      pulled = λ events effects stands memory.
          let far = c.loop-alloc.invariant.so_far events effects stands in
          let one =
          one_more_item c.args.peering.now.number events effects _ _ _ _ _ (peer_of c.loop-alloc.peering)
          (peer_of c.turn.new.self) c.in-Ok-Took.reset far (turned _ _ far.stands tt) in
          pulled_cut events effects _ _ _ _ _ c.in-Err-tell_reset.fault (peer_of c.args.peering.now)
          (peer_of c.turn.new.self) c.in-Ok-Took.reset cut.0 err one (counts.2 ∙ c.loop-alloc.invariant.unmet)
          (subst (λ (n : ℕ). Appends (g.K.Sink.held c.loop-alloc.out) (g.K.Sink.held c.tell_reset.new.out)
          (take cut.0 (reset_text c.args.peering.now.number n c.in-Ok-Took.reset))) c.items-in-Ok-Took.ensures
          cut.2);
      stopped =
          λ events effects stands memory. absurd
          (had_memory (Err c.in-Err-tell_reset.fault)
          (subst (λ (f : RunFault). HadMemory {T = Unit {0}} (Err f)) (sym err) tt) memory);
      ends = subst
          (λ (f : RunFault). EndsBy c.args.count c.args.limits.now (peer_of c.args.peering.now)
          (peer_of c.turn.new.self) (Err f)) (sym err) (
            c.requires.unmet,
            λ is. let clash : true ≡ false = sym is
                ∙ counts.2 ∙ c.loop-alloc.invariant.unmet in cc,
          );
      most = takes_more c.args.count (peer_of c.args.peering.now) (peer_of c.loop-alloc.peering)
          (peer_of c.turn.new.self) c.loop-alloc.invariant.most asks counts.0;
      within = (
        λ begun. omega (arith, counts.0, c.if-limits-items.false, c.items-in-loop-alloc.ensures),
        λ begun. omega (arith, counts.1, c.loop-alloc.invariant.within.1 begun),
      );
      number = c.in-Ok-Took.ensures.number ∙ c.loop-alloc.invariant.number;
      config = c.in-Ok-Took.ensures.config ∙ c.loop-alloc.invariant.config;
    }

pub returns-in-Err-tell_reset-clause-rows : goal.returns-in-Err-tell_reset-clause-rows
returns-in-Err-tell_reset-clause-rows g c =
    rows_then c.args.peering.now c.loop-alloc.peering c.turn.new.self c.args.sets.now c.loop-alloc.sets
    c.turn.new.sets c.loop-alloc.invariant.config c.loop-alloc.invariant.rows c.in-Ok-Took.ensures.rows

pub loop-alloc-preserved-in_default : goal.loop-alloc-preserved-in_default
loop-alloc-preserved-in_default g c =
    let same : c.saturating_sub.result
    ≡ c.loop-alloc.peering.session.items - c.args.peering.now.session.items =
    c.saturating_sub.ensures ∙ ap (λ (n : ℕ). n - c.items-begun.result) c.items.ensures
    ∙ ap (λ (n : ℕ). c.loop-alloc.peering.session.items - n) c.items-begun.ensures in
    let asks : asks_more c.args.count (c.loop-alloc.peering.session.items - c.args.peering.now.session.items)
    ≡ true = ap (asks_more c.args.count) (sym same) ∙ sym c.asks_more.ensures ∙ c.loop-alloc-test.true in
    let turned = rw c.in-Ok-Took.field-0-is at c.in-Ok-Took.ensures.stands in
    let counts = rw c.in-Ok-Took.field-0-is at c.in-Ok-Took.ensures.counts in
    record {
      so_far = λ events effects stands.
          let far = c.loop-alloc.invariant.so_far events effects stands in
          let one =
          one_more_item c.args.peering.now.number events effects _ _ _ _ _ (peer_of c.loop-alloc.peering)
          (peer_of c.turn.new.self) c.in-Ok-Took.reset far (turned _ _ far.stands tt) in
          so_far_item c.args.peering.now.number events effects _ _ _ _ _ (peer_of c.turn.new.self) c.in-Ok-Took.reset
          one
          (subst (λ (n : ℕ). Appends (g.K.Sink.held c.loop-alloc.out) (g.K.Sink.held c.tell_reset.new.out)
          (reset_text c.args.peering.now.number n c.in-Ok-Took.reset)) c.items-in-Ok-Took.ensures
          c.in_default.ensures.ok);
      unmet = counts.2 ∙ c.loop-alloc.invariant.unmet;
      begun = c.items-begun.ensures;
      most = takes_more c.args.count (peer_of c.args.peering.now) (peer_of c.loop-alloc.peering)
          (peer_of c.turn.new.self) c.loop-alloc.invariant.most asks counts.0;
      within = (
        λ begun. omega (arith, counts.0, c.if-limits-items.false, c.items-in-loop-alloc.ensures),
        λ begun. omega (arith, counts.1, c.loop-alloc.invariant.within.1 begun),
      );
      feed = c.in-Ok-Took.ensures.feed.kept (λ failed. cc) ∙ c.loop-alloc.invariant.feed;
      out = c.in_default.ensures.cause.kept ∙ c.loop-alloc.invariant.out;
      number = c.in-Ok-Took.ensures.number ∙ c.loop-alloc.invariant.number;
      config = c.in-Ok-Took.ensures.config ∙ c.loop-alloc.invariant.config;
      ready = ready_after c.loop-alloc.peering c.turn.new.self c.loop-alloc.sets c.turn.new.sets
          c.in-Ok-Took.ensures.config c.in-Ok-Took.ensures.rows c.loop-alloc.invariant.ready;
      rows = rows_then c.args.peering.now c.loop-alloc.peering c.turn.new.self c.args.sets.now c.loop-alloc.sets
          c.turn.new.sets c.loop-alloc.invariant.config c.loop-alloc.invariant.rows c.in-Ok-Took.ensures.rows;
    }

pub loop-alloc-preserved : goal.loop-alloc-preserved
loop-alloc-preserved g c =
    let turned = rw c.in-Ok-Octets.field-0-is at c.in-Ok-Octets.ensures.stands in
    let counts = rw c.in-Ok-Octets.field-0-is at c.in-Ok-Octets.ensures.counts in
    record {
      so_far = λ events effects stands.
          let far = c.loop-alloc.invariant.so_far events effects stands in
          let more = turned _ _ far.stands tt in
          so_far_none c.args.peering.now.number events effects _ _ _ _ _ (peer_of c.loop-alloc.peering)
          (peer_of c.turn.new.self) _ far more more.shows;
      unmet = counts.3 ∙ c.loop-alloc.invariant.unmet;
      begun = c.items-begun.ensures;
      most = takes_same c.args.count (peer_of c.args.peering.now) (peer_of c.loop-alloc.peering)
          (peer_of c.turn.new.self) c.loop-alloc.invariant.most counts.0;
      within =
          (λ begun. omega (arith, counts.0, c.loop-alloc.invariant.within.0 begun), λ begun. omega (arith, counts.2));
      feed = c.in-Ok-Octets.ensures.feed.kept (λ failed. cc) ∙ c.loop-alloc.invariant.feed;
      out = c.loop-alloc.invariant.out;
      number = c.in-Ok-Octets.ensures.number ∙ c.loop-alloc.invariant.number;
      config = c.in-Ok-Octets.ensures.config ∙ c.loop-alloc.invariant.config;
      ready = ready_after c.loop-alloc.peering c.turn.new.self c.loop-alloc.sets c.turn.new.sets
          c.in-Ok-Octets.ensures.config c.in-Ok-Octets.ensures.rows c.loop-alloc.invariant.ready;
      rows = rows_then c.args.peering.now c.loop-alloc.peering c.turn.new.self c.args.sets.now c.loop-alloc.sets
          c.turn.new.sets c.loop-alloc.invariant.config c.loop-alloc.invariant.rows c.in-Ok-Octets.ensures.rows;
    }

pub returns-in-Ok-End-clause-pull : goal.returns-in-Ok-End-clause-pull
returns-in-Ok-End-clause-pull g c =
    let same : c.saturating_sub.result
    ≡ c.loop-alloc.peering.session.items - c.args.peering.now.session.items =
    c.saturating_sub.ensures ∙ ap (λ (n : ℕ). n - c.items-begun.result) c.items.ensures
    ∙ ap (λ (n : ℕ). c.loop-alloc.peering.session.items - n) c.items-begun.ensures in
    let asks : asks_more c.args.count (c.loop-alloc.peering.session.items - c.args.peering.now.session.items)
    ≡ true = ap (asks_more c.args.count) (sym same) ∙ sym c.asks_more.ensures ∙ c.loop-alloc-test.true in
    let turned = rw c.in-Ok-End.field-0-is at c.in-Ok-End.ensures.stands in
    let counts = rw c.in-Ok-End.field-0-is at c.in-Ok-End.ensures.counts in
    let took =
    took_end c.tell_end.result (g.K.Sink.held c.loop-alloc.out) (g.K.Sink.held c.tell_end.new.out)
    (end_line c.args.peering.now.number c.items-in-Ok-End.result c.in-Ok-End.rest) c.tell_end.ensures.ok
    c.tell_end.ensures.err c.tell_end.ensures.cut_short in
    record {
      pulled = λ events effects stands memory.
          let far = c.loop-alloc.invariant.so_far events effects stands in
          pulled_end events effects _ _ _ _ _ _ c.tell_end.result (peer_of c.args.peering.now)
          (peer_of c.loop-alloc.peering) (peer_of c.turn.new.self) c.in-Ok-End.rest far (turned _ _ far.stands tt)
          c.requires.unmet counts.1 counts.3
          (subst (λ (n : ℕ). TookEnd c.tell_end.result (g.K.Sink.held c.loop-alloc.out)
          (g.K.Sink.held c.tell_end.new.out) (end_line c.args.peering.now.number n c.in-Ok-End.rest))
          c.items-in-Ok-End.ensures took);
      stopped =
          λ events effects stands memory. absurd
          (had_memory c.tell_end.result (end_had c.tell_end.result c.tell_end.ensures.err) memory);
      ends = ends_at_end c.args.count c.args.limits.now (peer_of c.args.peering.now) (peer_of c.turn.new.self)
          c.tell_end.result c.requires.unmet counts.1
          (ap (λ (n : ℕ). asks_more c.args.count (n - c.args.peering.now.session.items)) counts.0 ∙ asks)
          (omega (arith, counts.0, c.if-limits-items.false, c.items-in-loop-alloc.ensures)) counts.2
          c.tell_end.ensures.err;
      most = takes_same c.args.count (peer_of c.args.peering.now) (peer_of c.loop-alloc.peering)
          (peer_of c.turn.new.self) c.loop-alloc.invariant.most counts.0;
      within =
          (λ begun. omega (arith, counts.0, c.loop-alloc.invariant.within.0 begun), λ begun. omega (arith, counts.2));
      number = c.in-Ok-End.ensures.number ∙ c.loop-alloc.invariant.number;
      config = c.in-Ok-End.ensures.config ∙ c.loop-alloc.invariant.config;
    }

pub returns-in-Err-clause-pull : goal.returns-in-Err-clause-pull
returns-in-Err-clause-pull g c =
    let same : c.saturating_sub.result
    ≡ c.loop-alloc.peering.session.items - c.args.peering.now.session.items =
    c.saturating_sub.ensures ∙ ap (λ (n : ℕ). n - c.items-begun.result) c.items.ensures
    ∙ ap (λ (n : ℕ). c.loop-alloc.peering.session.items - n) c.items-begun.ensures in
    let asks : asks_more c.args.count (c.loop-alloc.peering.session.items - c.args.peering.now.session.items)
    ≡ true = ap (asks_more c.args.count) (sym same) ∙ sym c.asks_more.ensures ∙ c.loop-alloc-test.true in
    let few : c.loop-alloc.peering.session.items
    < c.args.limits.now.items = omega (arith, c.if-limits-items.false, c.items-in-loop-alloc.ensures) in
    record {
      pulled = λ events effects stands memory.
          let far = c.loop-alloc.invariant.so_far events effects stands in
          pulled_until events effects _ _ _ _ _ c.in-Err.fault (peer_of c.args.peering.now)
          (peer_of c.loop-alloc.peering) (peer_of c.turn.new.self) c.args.limits.now far
          (c.in-Err.ensures.stands _ _ far.stands memory) c.loop-alloc.invariant.unmet c.in-Err.ensures.counts
          memory;
      stopped = λ events effects stands memory.
          let same : peer_of c.turn.new.self ≡ peer_of c.loop-alloc.peering = c.in-Err.ensures.memory
          (same_answer c.in-Err.fault OutOfMemory memory) in
          stopped_at events effects (peer_of c.args.peering.now) _ _ _ _ _ (peer_of c.loop-alloc.peering)
          (peer_of c.turn.new.self) (c.loop-alloc.invariant.so_far events effects stands) same
          (c.in-Err.ensures.left (same_answer c.in-Err.fault OutOfMemory memory));
      ends = ends_until c.args.count c.in-Err.fault (peer_of c.args.peering.now) (peer_of c.loop-alloc.peering)
          (peer_of c.turn.new.self) c.args.limits.now
          (subst (λ (n : ℕ). IsTurnFault n c.in-Err.fault) c.loop-alloc.invariant.number c.in-Err.ensures.fault)
          c.requires.unmet c.loop-alloc.invariant.unmet asks few c.in-Err.ensures.counts
          (λ is. c.in-Err.ensures.memory (ap Err is));
      most = takes_until c.args.count c.in-Err.fault (peer_of c.args.peering.now) (peer_of c.loop-alloc.peering)
          (peer_of c.turn.new.self) c.args.limits.now c.loop-alloc.invariant.most asks c.in-Err.ensures.counts;
      within =
          stays_until c.in-Err.fault (peer_of c.args.peering.now) (peer_of c.loop-alloc.peering)
          (peer_of c.turn.new.self) c.args.limits.now c.loop-alloc.invariant.within few c.in-Err.ensures.counts;
      number = c.in-Err.ensures.number ∙ c.loop-alloc.invariant.number;
      config = c.in-Err.ensures.config ∙ c.loop-alloc.invariant.config;
    }

pub returns-clause-pull : goal.returns-clause-pull
returns-clause-pull g c =
    let same : c.saturating_sub.result
    ≡ c.loop-alloc.peering.session.items - c.args.peering.now.session.items =
    c.saturating_sub.ensures ∙ ap (λ (n : ℕ). n - c.items-begun.result) c.items.ensures
    ∙ ap (λ (n : ℕ). c.loop-alloc.peering.session.items - n) c.items-begun.ensures in
    let asks : asks_more c.args.count (c.loop-alloc.peering.session.items - c.args.peering.now.session.items)
    ≡ false = ap (asks_more c.args.count) (sym same) ∙ sym c.asks_more.ensures ∙ c.loop-alloc-test.false in
    record {
      pulled = λ events effects stands memory.
          pulled_so_far events effects _ _ _ _ (Ok tt) (peer_of c.args.peering.now) (peer_of c.loop-alloc.peering)
          (c.loop-alloc.invariant.so_far events effects stands) c.loop-alloc.invariant.unmet tt;
      stopped = λ events effects stands memory. absurd (had_memory (Ok tt) tt memory);
      ends = inr (c.requires.unmet, inr (c.loop-alloc.invariant.unmet, asks));
      most = c.loop-alloc.invariant.most;
      within = c.loop-alloc.invariant.within;
      number = c.loop-alloc.invariant.number;
      config = c.loop-alloc.invariant.config;
    }
