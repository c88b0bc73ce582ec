use Rattle.std.proofs.Common.{◌≡◌, [], ◌∷◌, ◌++◌, Some, false, sym, ap, subst, ◌∙◌}
use Rattle.std.specs.Prelude.{IsTrue}
use Rattle.adj_rib.specs.Routes.{routes_at}
use Rattle.control_core.specs.EngineRows.{IsLogged, Log}
use Rattle.control_core.proofs.Logs.{logged_more}
use Rattle.control_core.proofs.row_updates.announce_one.Goals as goal

pub returns-clause-logged : goal.returns-clause-logged
returns-clause-logged g c = λ before engine is.
    let other : ¬ (routes_at c.args.rib.now c.args.prefix ≡ Some c.args.origin) = λ same.
    let clash : IsTrue false =
    subst IsTrue c.if-has_origin.false (c.has_origin.ensures.1 (c.get-old.ensures ∙ same)) in cc in
    let longer : c.push.new.self.items
    ≡ c.args.log.now.items ++ (c.args.prefix, routes_at c.args.rib.now c.args.prefix) ∷ [] =
    c.in-Ok.ensures.items ∙ ap (λ o. c.args.log.now.items ++ (c.args.prefix, o) ∷ []) c.get-old.ensures in
    subst (λ (l : Log). IsLogged c.args.iface c.args.origin l before c.add_route.new.rib engine c.add_route.new.sets)
    (sym longer)
    (logged_more c.args.iface c.args.origin c.args.log.now.items c.args.prefix before c.args.rib.now
    c.add_route.new.rib engine c.args.sets.now c.add_route.new.sets is other c.in_default-add_route.ensures.ok
    c.in_default-add_route.ensures.added)
