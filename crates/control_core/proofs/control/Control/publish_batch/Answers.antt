use Rattle.std.proofs.Common.{◌≡◌, map, refl, ap, subst, ◌∙◌}
use Rattle.control_core.specs.Controls.{KeepsKinds, Publishes, items_of}
use Rattle.control_core.specs.Peers.{peer_of}
use Rattle.control_core.specs.States.{ControlState}
use Rattle.control_core.proofs.Edited.{kept_drained}
use Rattle.control_core.proofs.Publications.{peer_items, published_difference, publishes, stands_published}
use Rattle.control_core.proofs.control.Control.publish_batch.Goals as goal

pub returns-clause-ok : goal.returns-clause-ok
returns-clause-ok g c =
    let inside = c.self.inside in
    let old : ControlState = record {
      peers = map peer_of inside.peers.items;
      kinds = inside.kinds;
      edits = inside.edits;
      engine = inside.sets;
      marks = inside.marks;
      limits = inside.limits;
      exhausted = inside.exhausted;
    } in
    let new : ControlState = record {
      peers = map peer_of inside.peers.items;
      kinds = inside.kinds;
      edits = inside.edits;
      engine = c.publish_cells-published.new.sets;
      marks = c.publish_cells-published.new.marks;
      limits = inside.limits;
      exhausted = inside.exhausted;
    } in
    let items : map (λ p. p.session.items) c.deref.result.now ≡ items_of old.peers =
    ap (map (λ p. p.session.items)) c.deref.ensures.value ∙ peer_items inside.peers.items in
    let kept : KeepsKinds old new = record { kinds = refl; edits = refl } in
    subst (λ (s : ControlState). Publishes s new c.in-Ok.batch) c.self.view_is
    (publishes (map (λ p. p.session.items) c.deref.result.now) old new c.in-Ok.batch c.in-Ok.ensures.ok items refl kept
    refl)

pub returns-clause-difference : goal.returns-clause-difference
returns-clause-difference g c opening edits courses stands =
    published_difference opening edits courses c.args.self.now _ c.in-Ok.batch stands (returns-clause-ok g c)

pub returns-clause-stands : goal.returns-clause-stands
returns-clause-stands g c opening edits courses stands =
    stands_published opening edits courses c.args.self.now _ c.in-Ok.batch stands (returns-clause-ok g c)
    (kept_drained (map peer_of c.self.inside.peers.items) c.self.inside.kinds c.self.inside.sets
    c.publish_cells-published.new.sets c.self.inside.limits c.self.invariant c.publish_cells-published.ensures.world)
