use Rattle.std.proofs.Common.{◌≡◌, ◌∙◌, ◌<◌, ℕ, List, Err, Some, ap, get_or, length, map, refl, sym, subst}
use Rattle.std.proofs.Common.{arith, zero-add}
use Rattle.std.specs.Prelude.{slice_get}
use Rattle.std.specs.Option.{option_map}
use Rattle.std.proofs.lemmas.List.{map-set}
use Rattle.std.proofs.lemmas.Option.{slice_get-map, slice_get_read}
use Rattle.urpf_base.specs.declared.kinds.Kind.{Kind}
use Rattle.rpf_plain.specs.Engine.{EngineState}
use Rattle.control_core.specs.declared.limits.Limits.{Limits}
use Rattle.control_core.specs.declared.limits.RunFault.TheVariants.{ReadFault}
use Rattle.control_core.specs.declared.peering.Peering.{Peering}
use Rattle.control_core.specs.Kept.{IsKept}
use Rattle.control_core.specs.Peers.{peer_of}
use Rattle.control_core.specs.Slots.{CountsSlot}
use Rattle.control_core.specs.States.{PeerState}
use Rattle.control_core.proofs.Many.{kept_set, number_at, ready_at}
use Rattle.control_core.proofs.Places.{set_same, some_at}
use Rattle.control_core.proofs.Slots.{counts_slot, keeps_session, slot_at_end}
use Rattle.control_core.proofs.pulling.pull_one.Goals as goal

-- a session of several, as contracts see it
peer_at : (peers : List Peering) (n s : ℕ) (peer : Peering) → n ≡ length peers → s < n → peer ≡ get_or peers s peer
    → slice_get (map peer_of peers) s ≡ Some (peer_of peer)
peer_at peers n s peer all within is =
    slice_get-map peer_of peers s ∙ ap (option_map peer_of) (slice_get_read peers n s peer all within is)

-- its number
number_is : (peers : List PeerState) (kinds : List (ℕ × Kind)) (sets : EngineState) (limits : Limits) (s : ℕ)
    (peer : PeerState) → IsKept peers kinds sets limits → slice_get peers s ≡ Some peer → peer.number ≡ s
number_is peers kinds sets limits s peer kept there = number_at 0 peers s peer kept.numbered there ∙ zero-add s

pub returns-then-index-clause-pull : goal.returns-then-index-clause-pull
returns-then-index-clause-pull g c =
    let there = peer_at c.args.peers.now.items _ c.args.session c.index.result.now c.args.peers.now.ok.0
    c.requires.session c.index.ensures in
    let slot = some_at c.args.slots.now.items c.args.session
    (omega (arith, c.requires.session, c.requires.slots, c.args.slots.now.ok.0)) in
    record {
      peer = peer_of c.index.result.now;
      was = there;
      number = number_is (map peer_of c.args.peers.now.items) c.requires.kept.0 c.args.sets.now c.args.limits.now
          c.args.session (peer_of c.index.result.now) c.requires.kept.1 there;
      later = peer_of c.index.result.now;
      is = set_same (map peer_of c.args.peers.now.items) c.args.session (peer_of c.index.result.now) there;
      slot = slot.0;
      had = slot.1;
      next = slot.0;
      has = set_same c.args.slots.now.items c.args.session slot.0 slot.1;
      pull = slot_at_end g.F.Feed.left c.args.count c.args.limits.now slot.0 _ (peer_of c.index.result.now)
          c.if-index.true;
    }

pub returns-then-index-clause-feed : goal.returns-then-index-clause-feed
returns-then-index-clause-feed g c =
    let slot = some_at c.args.slots.now.items c.args.session
    (omega (arith, c.requires.session, c.requires.slots, c.args.slots.now.ok.0)) in
    record {
      slot = slot.0;
      had = slot.1;
      next = slot.0;
      has = set_same c.args.slots.now.items c.args.session slot.0 slot.1;
      counts = counts_slot g.F.Feed.faults slot.0 (λ clash. cc);
    }

pub pull_slot-requires-clause-ready : goal.pull_slot-requires-clause-ready
pull_slot-requires-clause-ready g c =
    ready_at (map peer_of c.args.peers.now.items) c.requires.kept.0 c.args.sets.now c.args.limits.now c.args.session
    (peer_of c.index_mut.result.now) c.requires.kept.1
    (peer_at c.args.peers.now.items _ c.args.session c.index_mut.result.now c.args.peers.now.ok.0 c.requires.session
    c.index_mut.ensures.value)

pub returns-clause-pull : goal.returns-clause-pull
returns-clause-pull g c =
    let there = peer_at c.args.peers.now.items _ c.args.session c.index_mut.result.now c.args.peers.now.ok.0
    c.requires.session c.index_mut.ensures.value in
    record {
      peer = peer_of c.index_mut.result.now;
      was = there;
      number = number_is (map peer_of c.args.peers.now.items) c.requires.kept.0 c.args.sets.now c.args.limits.now
          c.args.session (peer_of c.index_mut.result.now) c.requires.kept.1 there;
      later = peer_of c.pull_slot.new.peering;
      is = map-set peer_of c.args.peers.now.items c.args.session c.pull_slot.new.peering;
      slot = c.index_mut-2.result.now;
      had = slice_get_read c.args.slots.now.items _ c.args.session c.index_mut-2.result.now c.args.slots.now.ok.0
          (omega (arith, c.requires.session, c.requires.slots)) c.index_mut-2.ensures.value;
      next = c.pull_slot.new.slot;
      has = refl;
      pull = c.pull_slot.ensures.pull;
    }

pub returns-clause-feed : goal.returns-clause-feed
returns-clause-feed g c =
    let there = peer_at c.args.peers.now.items _ c.args.session c.index_mut.result.now c.args.peers.now.ok.0
    c.requires.session c.index_mut.ensures.value in
    let number : c.index_mut.result.now.number ≡ c.args.session =
    number_is (map peer_of c.args.peers.now.items) c.requires.kept.0 c.args.sets.now c.args.limits.now c.args.session
    (peer_of c.index_mut.result.now) c.requires.kept.1 there in
    record {
      slot = c.index_mut-2.result.now;
      had = slice_get_read c.args.slots.now.items _ c.args.session c.index_mut-2.result.now c.args.slots.now.ok.0
          (omega (arith, c.requires.session, c.requires.slots)) c.index_mut-2.ensures.value;
      next = c.pull_slot.new.slot;
      has = refl;
      counts = subst (λ (n : ℕ). CountsSlot g.F.Feed.faults (c.pull_slot.result ≡ Err (ReadFault n))
          c.index_mut-2.result.now c.pull_slot.new.slot) number c.pull_slot.ensures.feed;
    }

pub returns-clause-kept : goal.returns-clause-kept
returns-clause-kept g c = λ kinds kept.
    let there = peer_at c.args.peers.now.items _ c.args.session c.index_mut.result.now c.args.peers.now.ok.0
    c.requires.session c.index_mut.ensures.value in
    let keeps = keeps_session _ _ _ c.index_mut-2.result.now c.pull_slot.new.slot _ _ _
    (peer_of c.index_mut.result.now) (peer_of c.pull_slot.new.peering) c.pull_slot.ensures.pull in
    subst (λ (ps : List PeerState). IsKept ps kinds c.pull_slot.new.sets c.args.limits.now)
    (sym (map-set peer_of c.args.peers.now.items c.args.session c.pull_slot.new.peering))
    (kept_set (map peer_of c.args.peers.now.items) kinds c.args.sets.now c.pull_slot.new.sets c.args.limits.now
    c.args.session (peer_of c.index_mut.result.now) (peer_of c.pull_slot.new.peering) kept there
    keeps.config keeps.number c.pull_slot.ensures.rows)
