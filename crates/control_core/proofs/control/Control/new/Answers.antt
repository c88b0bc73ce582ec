use Rattle.std.proofs.Common.{◌≡◌, ℕ, false, List, [], ◌∷◌, ◌++◌, map, refl, sym, ap, subst, ◌∙◌}
use Rattle.origin_pairs.specs.Pairs.{IsPairSet}
use Rattle.rpf_plain.specs.Engine.{EngineState, new_engine}
use Rattle.rpf_plain.specs.World.{roles_of}
use Rattle.control_core.specs.Controls.{first_mark, without_pairs}
use Rattle.control_core.specs.Kept.{IsKept}
use Rattle.control_core.specs.Openings.{zeros}
use Rattle.control_core.specs.Peers.{peer_of}
use Rattle.control_core.specs.States.{ControlState}
use Rattle.control_core.specs.Worlds.{Position}
use Rattle.control_core.proofs.Opened.{kept_new, opened, zeros_are}
use Rattle.control_core.proofs.PairEdits.{own_set}
use Rattle.control_core.proofs.control.Control.new.Goals as goal

pub invariant_of-result : goal.invariant_of-result
invariant_of-result g c =
    let interfaces = c.args.config.interfaces in
    let peers = map peer_of c.in_ok-peers.peers.items in
    subst (λ ks. IsKept peers ks c.new.result c.args.limits) (sym c.in_ok-kinds.ensures.value)
    (kept_new interfaces c.args.config.sessions peers c.new.result c.args.limits c.in_ok-peers.ensures
    (c.new.ensures ∙ c.requires.engine) c.requires.items)

pub returns : goal.returns
returns g c =
    let interfaces = c.args.config.interfaces in
    let sessions = c.args.config.sessions in
    let control : ControlState = record {
      peers = map peer_of c.in_ok-peers.peers.items;
      kinds = c.in_ok-kinds.kinds;
      edits = 0;
      engine = c.new.result;
      marks = c.push.new.self;
      limits = c.args.limits;
      exhausted = false;
    } in
    let mark : List ℕ → Position = λ ns. record { number = 0; edits = 0; items = ns } in
    let none : zeros c.sessions.result ≡ map (λ s. 0) sessions =
    ap zeros c.sessions.ensures.value ∙ zeros_are sessions in
    let marks : c.push.new.self ≡ first_mark sessions ∷ [] =
    c.in_ok-push.ensures.ok
    ∙ ap (λ (ms : List Position). ms ++ c.in_ok-first_mark.field-0 ∷ []) c.new-marks.ensures
    ∙ ap (λ (m : Position). m ∷ []) (c.in_ok-first_mark.ensures ∙ ap mark none) in
    let engine : c.new.result ≡ new_engine (roles_of interfaces) = c.new.ensures ∙ c.requires.engine in
    opened (without_pairs c.args.config) c.args.limits control c.in_ok-peers.ensures.stand c.in_ok-peers.ensures.unmet
    c.in_ok-kinds.ensures.value refl (ap (λ (e : EngineState). e.base) engine)
    (subst (λ (e : EngineState). IsPairSet [] e.world.pairs) (sym engine) (own_set [] tt)) marks
    refl refl
    (subst (λ ks. IsKept control.peers ks c.new.result c.args.limits) (sym c.in_ok-kinds.ensures.value)
    (kept_new interfaces sessions control.peers c.new.result c.args.limits c.in_ok-peers.ensures engine
    c.requires.items))
