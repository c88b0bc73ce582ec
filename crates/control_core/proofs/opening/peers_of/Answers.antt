use Rattle.std.proofs.Common.{◌≡◌, ◌+◌, ◌++◌, ◌∷◌, [], List, map, take, length, ap, sym, subst, ◌∙◌, arith, add-one}
use Rattle.std.proofs.lemmas.List.{map-append, length-map}
use Rattle.urpf_base.specs.declared.sessions.SessionConfig.{SessionConfig}
use Rattle.control_core.specs.Openings.{AreNew}
use Rattle.control_core.specs.Peers.{peer_of}
use Rattle.control_core.specs.States.{PeerState}
use Rattle.control_core.proofs.Opened.{new_push, no_pairs}
use Rattle.control_core.proofs.Places.{take_next}
use Rattle.control_core.proofs.opening.peers_of.Goals as goal

pub loop-number-preserved : goal.loop-number-preserved
loop-number-preserved c =
    let l = c.loop-number in
    let interfaces = c.args.config.now.interfaces in
    let sessions = c.args.config.now.sessions in
    let session = c.session.result in
    let peers : List PeerState = map peer_of l.peers.items in
    let peer : PeerState = peer_of c.new-peering.result in
    let more : take (l.number + 1) sessions ≡ take l.number sessions ++ session ∷ [] =
    ap (λ n. take n sessions) (add-one l.number) ∙ take_next sessions l.number session c.session.ensures.value in
    let pushed : map peer_of c.push.new.self.items ≡ peers ++ peer ∷ [] =
    ap (map peer_of) c.in-Ok.ensures.items ∙ map-append peer_of l.peers.items (c.new-peering.result ∷ []) in
    let count : peer.number ≡ length peers =
    omega (arith, length-map l.peers.items peer_of, c.new-peering.ensures.number, l.invariant.count) in
    record {
      new = subst (λ (ss : List SessionConfig). AreNew interfaces ss (map peer_of c.push.new.self.items)) (sym more)
          (subst (AreNew interfaces (take l.number sessions ++ session ∷ [])) (sym pushed)
          (new_push interfaces (take l.number sessions) peers session peer l.invariant.new c.new-peering.ensures.config
          c.new-peering.ensures.stands (no_pairs peer.routes c.new-peering.ensures.stands.routes) count
          c.session.ensures.configured.interface c.new-peering.ensures.ended));
      count = omega (arith, c.in-Ok.ensures.len, l.invariant.count);
    }
