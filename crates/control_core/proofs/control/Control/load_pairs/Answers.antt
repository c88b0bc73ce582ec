use Rattle.std.proofs.Common.{◌≡◌, [], map, refl, sym, subst}
use Rattle.control_core.specs.Controls.{IsOpened, KeepsKinds, KeepsPublished, LoadsPairs, without_pairs}
use Rattle.control_core.specs.Kept.{IsKept}
use Rattle.control_core.specs.Peers.{peer_of}
use Rattle.control_core.specs.States.{ControlState}
use Rattle.control_core.proofs.Edited.{kept_loaded}
use Rattle.control_core.proofs.Opened.{no_pairs_yet, opened_loaded}
use Rattle.control_core.proofs.control.Control.load_pairs.Goals as goal

pub add_pairs-requires : goal.add_pairs-requires
add_pairs-requires g c =
    subst (λ (s : ControlState). s.engine.world.pairs ≡ []) (sym c.self.view_is)
    (no_pairs_yet c.args.self.now c.requires)

pub invariant_of-self : goal.invariant_of-self
invariant_of-self g c =
    let inside = c.self.inside in
    kept_loaded (map peer_of inside.peers.items) inside.kinds inside.sets c.add_pairs.new.sets inside.limits
    c.self.invariant c.add_pairs.ensures.grows

pub invariant_of-self-2 : goal.invariant_of-self-2
invariant_of-self-2 g c =
    let inside = c.self.inside in
    kept_loaded (map peer_of inside.peers.items) inside.kinds inside.sets c.add_pairs.new.sets inside.limits
    c.self.invariant c.add_pairs.ensures.grows

pub returns-clause-ok : goal.returns-clause-ok
returns-clause-ok g c =
    let inside = c.self.inside in
    let table = c.args.pairs.now.pairs in
    let old : ControlState = record {
      peers = map peer_of inside.peers.items;
      kinds = inside.kinds;
      edits = inside.edits;
      engine = inside.sets;
      marks = inside.marks;
      limits = inside.limits;
      exhausted = inside.exhausted;
    } in
    let new : ControlState = record {
      peers = map peer_of inside.peers.items;
      kinds = inside.kinds;
      edits = inside.edits;
      engine = c.add_pairs.new.sets;
      marks = inside.marks;
      limits = inside.limits;
      exhausted = inside.exhausted;
    } in
    let kinds : KeepsKinds old new = record { kinds = refl; edits = refl } in
    let published : KeepsPublished old new = record { marks = refl; base = c.add_pairs.ensures.grows.base; limits = refl } in
    let loads : LoadsPairs table old new c.pairs.result = record {
      pairs = c.in-Ok.ensures.ok;
      count = c.pairs.ensures;
      kinds = kinds;
      peers = refl;
      published = published;
    } in
    subst (λ (s : ControlState). LoadsPairs table s new c.pairs.result) c.self.view_is loads

pub returns-clause-opened : goal.returns-clause-opened
returns-clause-opened g c settings limits was =
    let inside = c.self.inside in
    let old : ControlState = record {
      peers = map peer_of inside.peers.items;
      kinds = inside.kinds;
      edits = inside.edits;
      engine = inside.sets;
      marks = inside.marks;
      limits = inside.limits;
      exhausted = inside.exhausted;
    } in
    let new : ControlState = record {
      peers = map peer_of inside.peers.items;
      kinds = inside.kinds;
      edits = inside.edits;
      engine = c.add_pairs.new.sets;
      marks = inside.marks;
      limits = inside.limits;
      exhausted = inside.exhausted;
    } in
    let kept : IsKept new.peers new.kinds new.engine new.limits =
    kept_loaded (map peer_of inside.peers.items) inside.kinds inside.sets c.add_pairs.new.sets inside.limits
    c.self.invariant c.add_pairs.ensures.grows in
    opened_loaded settings limits c.args.pairs.now.pairs old new
    (subst (λ (s : ControlState). IsOpened (without_pairs settings) limits s) (sym c.self.view_is) was)
    (record {
      peers = refl;
      kinds = refl;
      edits = refl;
      marks = refl;
      limits = refl;
      exhausted = refl;
      base = c.add_pairs.ensures.grows.base;
      pairs = c.in-Ok.ensures.ok;
    })
    kept
