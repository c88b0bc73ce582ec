use Rattle.std.proofs.Common.{ap, sym, ◌∙◌}
use Rattle.toml.specs.View.{view}
use Rattle.router_config.specs.Rules.{first_broken, interfaces_rules, sessions_rules}
use Rattle.router_config.proofs.Walk.{fault_of_interfaces, fault_of_sessions}
use Rattle.router_config.proofs.rules.first_fault.Goals as goal

pub returns-then-is_some : goal.returns-then-is_some
returns-then-is_some c =
    let known = sym c.has_known_keys.ensures ∙ c.if-not-has_known_keys.false in
    let told =
    c.fault_of_interfaces-fault.ensures
    ∙ ap (λ ts. first_broken (interfaces_rules ts)) c.interfaces_of-interfaces.ensures in
    fault_of_interfaces (view c.args.document.now) _ known told (sym c.is_some.ensures ∙ c.if-is_some.true)

pub returns : goal.returns
returns c =
    let same = c.interfaces_of-interfaces.ensures in
    let document = view c.args.document.now in
    let known = sym c.has_known_keys.ensures ∙ c.if-not-has_known_keys.false in
    let told = c.fault_of_interfaces-fault.ensures ∙ ap (λ ts. first_broken (interfaces_rules ts)) same in
    let last = c.fault_of_sessions.ensures ∙ ap (λ ts. first_broken (sessions_rules ts document)) same in
    fault_of_sessions document _ _ known told (sym c.is_some.ensures ∙ c.if-is_some.false) last
