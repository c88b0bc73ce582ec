use Rattle.std.proofs.Common.{refl, sym, subst, arith}
use Rattle.control_core.specs.Controls.{ControlStandsFor}
use Rattle.control_core.specs.Kept.{IsKept}
use Rattle.control_core.specs.States.{ControlState}
use Rattle.control_core.proofs.Places.{set_same, some_at}
use Rattle.control_core.proofs.Slots.{counts_slot}
use Rattle.control_core.proofs.StandsPulled.{pulls_of_control, stands_by_pull, stands_still}
use Rattle.control_core.proofs.control.Control.pull.Goals as goal

pub returns-then-self-clause-stands : goal.returns-then-self-clause-stands
returns-then-self-clause-stands g c = λ opening edits courses course peer gave more stands got there later.
    stands_still c.args.session opening edits courses course peer gave more c.args.self.now stands
    (subst (λ (v : ControlState). IsKept v.peers v.kinds v.engine v.limits) c.self.view_is c.self.invariant) got there
    later

pub returns-then-self-clause-feed : goal.returns-then-self-clause-feed
returns-then-self-clause-feed g c =
    let slot = some_at c.args.feeds.now.items c.args.session (omega (arith, c.requires.session, c.requires.slots)) in
    record {
      slot = slot.0;
      had = slot.1;
      next = slot.0;
      has = set_same c.args.feeds.now.items c.args.session slot.0 slot.1;
      counts = counts_slot _ slot.0 (λ clash. cc);
    }

pub returns-clause-pull : goal.returns-clause-pull
returns-clause-pull g c = λ able. pulls_of_control _ _ c.self.view_is c.pull_one-result.ensures.pull

pub returns-clause-stands : goal.returns-clause-stands
returns-clause-stands g c = λ opening edits courses course peer gave more stands got there later.
    stands_by_pull opening edits courses course peer gave more _ _
    (subst (λ (v : ControlState). ControlStandsFor opening edits courses v) (sym c.self.view_is) stands)
    c.pull_one-result.ensures.pull
    (record {
      kinds = refl;
      edits = refl;
      marks = refl;
      pairs = c.pull_one-result.ensures.pairs;
      base = c.pull_one-result.ensures.base;
    })
    (c.pull_one-result.ensures.kept c.self.inside.kinds c.self.invariant) got there later
