use Rattle.std.proofs.Common.{map, sym, ◌∙◌}
use Rattle.toml.specs.View.{view}
use Rattle.router_config.proofs.Walk.{by_place, told_by_place, fault_here, fault_behind}
use Rattle.router_config.proofs.sessions.sessions_fault.Goals as goal

pub returns-then-is_some : goal.returns-then-is_some
returns-then-is_some c =
    let here = c.index-sessions-index in
    let interfaces = map view c.args.interfaces.now in
    let told =
    told_by_place interfaces c.args.sessions.now c.loop-index.index here.result _ c.loop-index-test.true
    c.session_fault-fault.ensures in
    fault_here (by_place interfaces) c.args.sessions.now c.loop-index.index here.result _ c.loop-index-test.true here.is
    told (sym c.is_some.ensures ∙ c.if-is_some.true)
    ∙ sym c.loop-index.invariant

pub loop-index-preserved : goal.loop-index-preserved
loop-index-preserved c =
    let here = c.index-sessions-index in
    let interfaces = map view c.args.interfaces.now in
    let told =
    told_by_place interfaces c.args.sessions.now c.loop-index.index here.result _ c.loop-index-test.true
    c.session_fault-fault.ensures in
    c.loop-index.invariant
    ∙ fault_behind (by_place interfaces) c.args.sessions.now c.loop-index.index here.result _ c.loop-index-test.true
    here.is told (sym c.is_some.ensures ∙ c.if-is_some.false)
