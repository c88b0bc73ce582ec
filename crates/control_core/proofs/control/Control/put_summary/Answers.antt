use Rattle.std.proofs.Common.{length, map, ap, ◌∙◌}
use Rattle.report_text.specs.Lines.{summary_line}
use Rattle.control_core.specs.Controls.{route_count}
use Rattle.control_core.specs.Peers.{peer_of}
use Rattle.control_core.specs.States.{ControlState}
use Rattle.control_core.proofs.Summaries.{rows_counted}
use Rattle.control_core.proofs.control.Control.put_summary.Goals as goal

pub returns : goal.returns
returns g c =
    let inside = c.self.inside in
    let rows = c.rows.ensures
    ∙ rows_counted (map peer_of inside.peers.items) inside.kinds inside.sets inside.limits c.self.invariant
    ∙ ap (λ (s : ControlState). route_count s.peers) c.self.view_is in
    let pairs = c.pairs.ensures ∙ ap (λ (s : ControlState). length s.engine.world.pairs) c.self.view_is in
    c.put_summary.ensures ∙ (λ i. summary_line (rows i) (pairs i))
