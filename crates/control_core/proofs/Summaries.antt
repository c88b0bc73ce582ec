-- How many rows the engine of a control has.
use Rattle.std.proofs.Common.{◌≡◌, ℕ, ◌+◌, List, [], ◌∷◌, length, map, refl, arith, length-append}
use Rattle.std.proofs.lemmas.List.{length-map}
use Rattle.std.proofs.lemmas.List.Sums.{sum_by-cons}
use Rattle.urpf_base.specs.declared.kinds.Kind.{Kind}
use Rattle.adj_rib.specs.Routes.{pairs_of, prefixes_of}
use Rattle.rpf_plain.proofs.Counted.{same_length}
use Rattle.rpf_plain.specs.Engine.{EngineState}
use Rattle.rpf_plain.specs.declared.rows.Row.{Row}
use Rattle.rpf_plain.specs.Rows.{row_of}
use Rattle.control_core.specs.Controls.{route_count}
use Rattle.control_core.specs.EngineRows.{session_rows}
use Rattle.control_core.specs.Kept.{IsKept, all_rows}
use Rattle.control_core.specs.States.{PeerState}
use Rattle.control_core.specs.declared.limits.Limits.{Limits}

-- a row for each route of each session
all_counted : (peers : List PeerState) → length (all_rows peers) ≡ route_count peers
all_counted [] = refl
all_counted (p ∷ peers) =
    let own : List Row = session_rows p.session.config.iface p.routes in
    let rows = length-map (pairs_of p.routes) (λ pair. row_of p.session.config.iface pair.0 pair.1) in
    let prefixes = length-map (pairs_of p.routes) (λ pair. pair.0) in
    let counts : List ℕ = map (λ (q : PeerState). length (prefixes_of q.routes)) peers in
    let more : route_count (p ∷ peers) ≡ length (prefixes_of p.routes) + route_count peers =
    sum_by-cons (λ x. x) (length (prefixes_of p.routes)) counts in
    omega (arith, length-append own (all_rows peers), rows, prefixes, more, all_counted peers)

pub rows_counted : (peers : List PeerState) (kinds : List (ℕ × Kind)) (engine : EngineState) (limits : Limits)
    → IsKept peers kinds engine limits → length engine.world.rows ≡ route_count peers
rows_counted peers kinds engine limits kept =
    omega (arith, same_length engine.world.rows (all_rows peers) kept.rows, all_counted peers)
