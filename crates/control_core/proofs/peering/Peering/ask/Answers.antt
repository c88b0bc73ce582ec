use Rattle.std.proofs.Common.{List, [], ◌∷◌, ◌++◌, Ok, refl, sym, ◌∙◌, ap, subst, ℕ, ◌+◌}
use Rattle.std.proofs.lemmas.List.{append-nil}
use Rattle.feed_io.specs.Events.{Event, up, octets, down, elapsed}
use Rattle.control_core.specs.Items.{IsRest}
use Rattle.control_core.specs.Peers.{peer_of}
use Rattle.control_core.specs.Turns.{Shows}
use Rattle.control_core.specs.declared.peering.Turn.{Turn}
use Rattle.control_core.proofs.TurnEnds.{counts_one, emptied, gave_none, no_event, rest_is, stands_unfilled}
use Rattle.control_core.proofs.TurnLaws.{stands_with_octets}
use Rattle.control_core.proofs.TurnEnds.{turned_none, turned_one}
use Rattle.control_core.proofs.peering.Peering.ask.Goals as goal

pub returns-then-room-eq0-clause-stands : goal.returns-then-room-eq0-clause-stands
returns-then-room-eq0-clause-stands g c = λ events effects stands memory.
    turned_none events [] effects (g.F.Feed.left c.args.feed.now) (g.F.Feed.left c.args.feed.now) _
    (peer_of c.args.self.now) (gave_none _) (no_event events effects (peer_of c.args.self.now) stands) refl

pub returns-in-Ok-Up-clause-stands : goal.returns-in-Ok-Up-clause-stands
returns-in-Ok-Up-clause-stands g c = λ events effects stands memory.
    let fills = rw c.in-Ok-Up.field-0-is at c.in-Ok-Up.ensures.fills in
    turned_one events (up ∷ []) effects (g.F.Feed.left c.args.feed.now) (g.F.Feed.left c.fill.new.feed)
    c.come_up.result _ (peer_of c.come_up.new.self) fills.gave c.come_up.ensures.takes
    (stands_unfilled events effects c.args.self.now _ stands c.requires.none refl refl refl refl fills.has refl) memory

pub returns-in-Ok-Up-clause-counts : goal.returns-in-Ok-Up-clause-counts
returns-in-Ok-Up-clause-counts g c =
    counts_one (up ∷ []) c.come_up.result (peer_of c.args.self.now) _ (peer_of c.come_up.new.self) c.args.limits.now
    refl refl refl c.come_up.ensures.takes

pub returns-in-Ok-Octets-clause-stands : goal.returns-in-Ok-Octets-clause-stands
returns-in-Ok-Octets-clause-stands g c = λ events effects stands memory.
    let fills = rw c.in-Ok-Octets.field-0-is at c.in-Ok-Octets.ensures.fills in
    turned_none events (octets c.fill.new.self ∷ []) effects (g.F.Feed.left c.args.feed.now)
    (g.F.Feed.left c.fill.new.feed) _ (peer_of c.hold.new.self) fills.gave
    (stands_with_octets events effects c.fill.new.self c.args.self.now c.hold.new.self stands c.requires.short
    c.requires.none c.hold.ensures.session c.hold.ensures.rib
    (c.hold.ensures.octets ∙ ap (λ (n : ℕ). c.args.self.now.octets + n) (sym fills.has)) c.hold.ensures.framer
    c.hold.ensures.receiving c.hold.ensures.kept c.hold.ensures.dropped)
    (subst (λ (t : Turn). Shows (Ok t) [] (events ++ octets c.fill.new.self ∷ []) (g.F.Feed.left c.args.feed.now)
    (g.F.Feed.left c.fill.new.feed)) (sym c.hold.ensures.turn) refl)

pub returns-in-Ok-Down-clause-stands : goal.returns-in-Ok-Down-clause-stands
returns-in-Ok-Down-clause-stands g c = λ events effects stands memory.
    let fills = rw c.in-Ok-Down.field-0-is at c.in-Ok-Down.ensures.fills in
    turned_one events (down ∷ []) effects (g.F.Feed.left c.args.feed.now) (g.F.Feed.left c.fill.new.feed)
    c.go_down.result _ (peer_of c.go_down.new.self) fills.gave c.go_down.ensures.takes
    (stands_unfilled events effects c.args.self.now _ stands c.requires.none refl refl refl refl fills.has refl) memory

pub returns-in-Ok-Down-clause-counts : goal.returns-in-Ok-Down-clause-counts
returns-in-Ok-Down-clause-counts g c =
    counts_one (down ∷ []) c.go_down.result (peer_of c.args.self.now) _ (peer_of c.go_down.new.self) c.args.limits.now
    refl refl refl c.go_down.ensures.takes

pub returns-in-Ok-Elapsed-clause-stands : goal.returns-in-Ok-Elapsed-clause-stands
returns-in-Ok-Elapsed-clause-stands g c = λ events effects stands memory.
    let fills = rw c.in-Ok-Elapsed.field-0-is at c.in-Ok-Elapsed.ensures.fills in
    turned_one events (elapsed c.in-Ok-Elapsed.seconds ∷ []) effects
    (g.F.Feed.left c.args.feed.now) (g.F.Feed.left c.fill.new.feed)
    c.pass.result _ (peer_of c.pass.new.self) fills.gave c.pass.ensures.takes
    (stands_unfilled events effects c.args.self.now _ stands c.requires.none refl refl refl refl fills.has refl) memory

pub returns-in-Ok-Elapsed-clause-counts : goal.returns-in-Ok-Elapsed-clause-counts
returns-in-Ok-Elapsed-clause-counts g c =
    counts_one (elapsed c.in-Ok-Elapsed.seconds ∷ []) c.pass.result
    (peer_of c.args.self.now) _ (peer_of c.pass.new.self) c.args.limits.now
    refl refl refl c.pass.ensures.takes

pub returns-in-Ok-End-clause-stands : goal.returns-in-Ok-End-clause-stands
returns-in-Ok-End-clause-stands g c = λ events effects stands memory.
    let fills = rw c.in-Ok-End.field-0-is at c.in-Ok-End.ensures.fills in
    turned_none events [] effects (g.F.Feed.left c.args.feed.now) (g.F.Feed.left c.fill.new.feed) _ _ fills.gave
    (no_event events effects _
    (stands_unfilled events effects c.args.self.now _ stands c.requires.none refl refl refl refl fills.has refl)) (
      refl,
      subst (λ (es : List Event). IsRest es c.from.result) (sym (append-nil events))
          (subst (IsRest events) (sym (c.from.ensures ∙ c.requires.part))
          (rest_is events effects c.args.self.now stands c.requires.short c.requires.none)),
      emptied (g.F.Feed.left c.args.feed.now) (g.F.Feed.left c.fill.new.feed) c.fill.new.self fills,
    )
