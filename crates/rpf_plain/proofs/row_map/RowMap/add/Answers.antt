use Rattle.std.proofs.Common.{◌≡◌, ◌^◌, ◌≤◌, ◌⊎◌, ℕ, ap, subst, sym, ◌∙◌}
use Rattle.std.specs.FinMap.{put}
use Rattle.prefix_map.proofs.Outcomes.{on_err, on_ok}
use Rattle.rpf_plain.specs.Kept.{how_often}
use Rattle.rpf_plain.specs.Rows.{row_order}
use Rattle.rpf_plain.proofs.Repeats.{adds, counted}
use Rattle.rpf_plain.proofs.RowKeys.{ascending, ascends, found_long, found_short, left_long, left_short, puts_long}
use Rattle.rpf_plain.proofs.RowKeys.{puts_short}
use Rattle.rpf_plain.proofs.row_map.RowMap.add.Goals as goal

pub invariant_of-self : goal.invariant_of-self
invariant_of-self c =
    left_short c.add_once.result c.add_once.new.rows.entries c.self.invariant c.add_once.ensures.ordered
    c.add_once.ensures.err

pub invariant_of-self-in-Long : goal.invariant_of-self-in-Long
invariant_of-self-in-Long c =
    let call = c.add_once-in-Long in
    left_long call.result call.new.rows.entries c.self.invariant call.ensures.ordered call.ensures.err

pub returns-in-Short-clause-ok : goal.returns-in-Short-clause-ok
returns-in-Short-clause-ok c =
    let key = c.in-Short.key in
    on_ok c.add_once.result c.add_once.ensures.ok (λ is.
    adds c.args.row c.args.self.now _ (ascends c.self.invariant c.self.view_is)
    (ascending _ _ (invariant_of-self c))
    (puts_short key _ c.self.invariant c.self.view_is c.in-Short.ensures is
    ∙ ap (λ o. put row_order c.args.row (how_often o) c.args.self.now)
    (sym (found_short key c.self.invariant c.self.view_is c.in-Short.ensures))))

pub returns-in-Long-clause-ok : goal.returns-in-Long-clause-ok
returns-in-Long-clause-ok c =
    let key = c.in-Long.key in
    on_ok c.add_once-in-Long.result c.add_once-in-Long.ensures.ok (λ is.
    adds c.args.row c.args.self.now _ (ascends c.self.invariant c.self.view_is)
    (ascending _ _ (invariant_of-self-in-Long c))
    (puts_long key _ c.self.invariant c.self.view_is c.in-Long.ensures is
    ∙ ap (λ o. put row_order c.args.row (how_often o) c.args.self.now)
    (sym (found_long key c.self.invariant c.self.view_is c.in-Long.ensures))))

pub returns-in-Short-clause-absent : goal.returns-in-Short-clause-absent
returns-in-Short-clause-absent c =
    on_err c.add_once.result c.add_once.ensures.absent
    (subst (λ (n : ℕ). (n ≡ 0) ⊎ (2 ^ 32 ≤ n))
    (ap how_often (sym (found_short c.in-Short.key c.self.invariant c.self.view_is c.in-Short.ensures))
    ∙ sym (counted c.args.row c.args.self.now (ascends c.self.invariant c.self.view_is))))

pub returns-in-Long-clause-absent : goal.returns-in-Long-clause-absent
returns-in-Long-clause-absent c =
    on_err c.add_once-in-Long.result c.add_once-in-Long.ensures.absent
    (subst (λ (n : ℕ). (n ≡ 0) ⊎ (2 ^ 32 ≤ n))
    (ap how_often (sym (found_long c.in-Long.key c.self.invariant c.self.view_is c.in-Long.ensures))
    ∙ sym (counted c.args.row c.args.self.now (ascends c.self.invariant c.self.view_is))))
