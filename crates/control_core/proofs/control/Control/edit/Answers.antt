use Rattle.std.proofs.Common.{◌+◌, map, refl, sym, subst}
use Rattle.router_config.specs.Edits.{IsForConfigured}
use Rattle.control_core.specs.Controls.{ControlStandsFor}
use Rattle.control_core.specs.Kept.{IsKept}
use Rattle.control_core.specs.Peers.{peer_of}
use Rattle.control_core.specs.States.{ControlState}
use Rattle.control_core.proofs.Edited.{kept_edited, role_there}
use Rattle.control_core.proofs.Standing.{stands_edited}
use Rattle.control_core.proofs.control.Control.edit.Goals as goal

pub edit_sets-requires : goal.edit_sets-requires
edit_sets-requires g c =
    let inside = c.self.inside in
    let there : IsForConfigured inside.kinds c.args.edit.now =
    subst (λ (s : ControlState). IsForConfigured s.kinds c.args.edit.now) (sym c.self.view_is) c.requires.configured in
    λ iface role is.
    role_there c.args.edit.now inside.kinds inside.sets.world.roles iface role c.self.invariant.roles there is

pub invariant_of-self-2 : goal.invariant_of-self-2
invariant_of-self-2 g c =
    let inside = c.self.inside in
    subst (λ ks. IsKept (map peer_of inside.peers.items) ks c.edit_sets.new.sets inside.limits) (sym c.apply.ensures)
    (kept_edited (map peer_of inside.peers.items) inside.kinds c.args.edit.now inside.sets c.edit_sets.new.sets
    inside.limits c.self.invariant c.in-Ok.ensures.ok)

pub returns-clause-stands : goal.returns-clause-stands
returns-clause-stands g c opening edits courses stands =
    let inside = c.self.inside in
    let old : ControlState = record {
      peers = map peer_of inside.peers.items;
      kinds = inside.kinds;
      edits = inside.edits;
      engine = inside.sets;
      marks = inside.marks;
      limits = inside.limits;
      exhausted = inside.exhausted;
    } in
    let new : ControlState = record {
      peers = map peer_of inside.peers.items;
      kinds = c.apply.new.self;
      edits = inside.edits + 1;
      engine = c.edit_sets.new.sets;
      marks = inside.marks;
      limits = inside.limits;
      exhausted = inside.exhausted;
    } in
    let kept : IsKept new.peers new.kinds new.engine new.limits =
    subst (λ ks. IsKept (map peer_of inside.peers.items) ks c.edit_sets.new.sets inside.limits) (sym c.apply.ensures)
    (kept_edited (map peer_of inside.peers.items) inside.kinds c.args.edit.now inside.sets c.edit_sets.new.sets
    inside.limits c.self.invariant c.in-Ok.ensures.ok) in
    stands_edited opening edits courses c.args.edit.now old new
    (subst (λ (s : ControlState). ControlStandsFor opening edits courses s) (sym c.self.view_is) stands)
    (record {
      kinds = c.apply.ensures;
      edits = refl;
      peers = refl;
      marks = refl;
      pairs = c.in-Ok.ensures.ok.pairs;
      base = c.in-Ok.ensures.ok.base;
    })
    kept
