-- A publication makes a mark of now, and its batch has the cells that differ between two worlds.
use Rattle.std.proofs.Common.{◌≡◌, ℕ, List, [], ◌∷◌, ◌++◌, map, take, refl, sym, ap, subst, ◌∙◌, arith}
use Rattle.urpf_base.specs.declared.kinds.Kind.{Kind}
use Rattle.cover_table.specs.declared.batch.Batch.{Batch}
use Rattle.origin_pairs.specs.Pairs.{IsPairSet}
use Rattle.router_config.specs.declared.edits.Edit.{Edit}
use Rattle.rpf_plain.proofs.Differing.{difference_is}
use Rattle.rpf_plain.specs.Cells.{IsTable}
use Rattle.rpf_plain.specs.World.{World, roles_of}
use Rattle.control_core.specs.Controls.{AllStand, AreAtMost, ControlStandsFor, KeepsKinds, Publishes}
use Rattle.control_core.specs.Controls.{PublishesDifference, PublishesParts, items_of, position_of}
use Rattle.control_core.specs.Kept.{IsKept}
use Rattle.control_core.specs.Peers.{peer_of}
use Rattle.control_core.specs.declared.peering.Peering.{Peering}
use Rattle.control_core.specs.States.{ControlState, PeerState}
use Rattle.control_core.specs.Worlds.{Course, IsWorldAt, Opening, Position, kinds_after, pairs_after}
use Rattle.control_core.proofs.Standing.{now_world}

pub at_most_self : (counts : List ℕ) → AreAtMost counts counts
at_most_self [] = tt
at_most_self (n ∷ counts) = (omega arith, at_most_self counts)

-- the parts of a publication
pub publishes : (items : List ℕ) (old new : ControlState) (batch : Batch)
    → PublishesParts items old.edits old.kinds old.engine new.engine old.marks new.marks batch
    → items ≡ items_of old.peers → new.peers ≡ old.peers → KeepsKinds old new → new.limits ≡ old.limits
    → Publishes old new batch
publishes items old new batch parts same_items peers kept limits =
    let mark : List ℕ → Position = λ ns. record { number = batch.number; edits = old.edits; items = ns } in
    record {
      number = parts.number;
      interfaces = parts.interfaces;
      changed = parts.changed;
      drained = parts.drained;
      marks = parts.marks ∙ ap (λ (ns : List ℕ). old.marks ++ mark ns ∷ []) same_items;
      peers = peers;
      limits = limits;
      kept = kept;
    }

-- the world of the mark that is made is that of now
pub world_marked : (opening : Opening) (edits : List Edit) (courses : List Course) (old new : ControlState)
    (batch : Batch) → ControlStandsFor opening edits courses old → Publishes old new batch
    → IsWorldAt opening edits courses (position_of old batch.number) batch.kinds old.engine.world
world_marked opening edits courses old new batch stands is = record {
  edited = is.interfaces ∙ stands.now.edited;
  roles = subst (λ (ks : List (ℕ × Kind)). old.engine.world.roles ≡ roles_of ks) (sym is.interfaces) stands.now.roles;
  pairs = stands.now.pairs;
  rows = stands.now.rows;
}

-- the changes of a batch are the cells that differ
pub published_difference : (opening : Opening) (edits : List Edit) (courses : List Course) (old new : ControlState)
    (batch : Batch) → ControlStandsFor opening edits courses old → Publishes old new batch
    → PublishesDifference opening edits courses old batch
published_difference opening edits courses old new batch stands is = record {
  earlier = stands.earlier;
  last = stands.last;
  marks = stands.marks;
  kinds_before = stands.marked_kinds;
  before = stands.marked;
  was = stands.is_marked;
  after = old.engine.world;
  is = world_marked opening edits courses old new batch stands is;
  difference = difference_is stands.marked old.engine.world old.engine.base batch.changes stands.base is.changed;
}

-- after a publication the control stands for the same
pub stands_published : (opening : Opening) (edits : List Edit) (courses : List Course) (old new : ControlState)
    (batch : Batch) → ControlStandsFor opening edits courses old → Publishes old new batch
    → IsKept new.peers new.kinds new.engine new.limits → ControlStandsFor opening edits courses new
stands_published opening edits courses old new batch stands is kept =
    let stand : AllStand courses new.peers = subst (AllStand courses) (sym is.peers) stands.stand in
    let same_edits : new.edits ≡ old.edits = is.kept.edits in
    let kinds : new.kinds ≡ kinds_after (take new.edits edits) opening.settings.interfaces =
    is.kept.kinds ∙ stands.now.edited
    ∙ ap (λ (n : ℕ). kinds_after (take n edits) opening.settings.interfaces) (sym same_edits) in
    let pairs : IsPairSet (pairs_after (take new.edits edits) opening.pairs) new.engine.world.pairs =
    subst (λ (w : World). IsPairSet (pairs_after (take new.edits edits) opening.pairs) w.pairs) (sym is.drained.world)
    (subst (λ (n : ℕ). IsPairSet (pairs_after (take n edits) opening.pairs) old.engine.world.pairs) (sym same_edits)
    stands.now.pairs) in
    record {
      sessions = stands.sessions;
      stand = stand;
      counted = same_edits ∙ stands.counted;
      earlier = old.marks;
      last = position_of old batch.number;
      marks = is.marks;
      reached = record {
        edits = omega (arith, same_edits);
        items = subst (λ (ps : List PeerState). AreAtMost (items_of old.peers) (items_of ps)) (sym is.peers)
            (at_most_self (items_of old.peers));
      };
      now = now_world opening edits courses batch.number new stand kept kinds pairs;
      marked_kinds = batch.kinds;
      marked = old.engine.world;
      is_marked = world_marked opening edits courses old new batch stands is;
      base = subst (λ (w : World). IsTable w new.engine.base) is.drained.world is.drained.base;
    }

-- how many items each session took
pub peer_items : (peers : List Peering) → map (λ p. p.session.items) peers ≡ items_of (map peer_of peers)
peer_items [] = refl
peer_items (p ∷ peers) = ap (λ (ns : List ℕ). p.session.items ∷ ns) (peer_items peers)
