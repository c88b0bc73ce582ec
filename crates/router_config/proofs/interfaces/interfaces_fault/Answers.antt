use Rattle.std.proofs.Common.{sym, ◌∙◌}
use Rattle.router_config.specs.Rules.{interface_rules}
use Rattle.router_config.proofs.Walk.{fault_here, fault_behind}
use Rattle.router_config.proofs.interfaces.interfaces_fault.Goals as goal

pub returns-then-is_some : goal.returns-then-is_some
returns-then-is_some c =
    let here = c.index-interfaces-index in
    let some = sym c.is_some.ensures ∙ c.if-is_some.true in
    fault_here interface_rules c.args.interfaces.now c.loop-index.index here.result _ c.loop-index-test.true here.is
    c.interface_fault-fault.ensures some
    ∙ sym c.loop-index.invariant

pub loop-index-preserved : goal.loop-index-preserved
loop-index-preserved c =
    let here = c.index-interfaces-index in
    let none = sym c.is_some.ensures ∙ c.if-is_some.false in
    c.loop-index.invariant
    ∙ fault_behind interface_rules c.args.interfaces.now c.loop-index.index here.result _ c.loop-index-test.true here.is
    c.interface_fault-fault.ensures none
