use Rattle.std.proofs.Common.{sym, ◌∙◌}
use Rattle.urpf_base.proofs.Order.{compares}
use Rattle.cover_tests.proofs.Listed.{is_less, next_before, none_left}
use Rattle.cover_tests.proofs.tests.made.comes_last.Goals as goal

pub loop-change-preserved : goal.loop-change-preserved
loop-change-preserved c =
    let change = c.change-item.result in
    let prefix = c.args.prefix.now in
    next_before c.args.changes.now c.loop-change.change-index change prefix c.loop-change-test.true c.change-item.is
    (sym (compares change.prefix prefix) ∙ sym c.cmp.ensures
    ∙ is_less c.cmp.result (sym c.is_lt.ensures ∙ c.if-not-is_lt.false))
    c.loop-change.invariant

pub returns : goal.returns
returns c = λ yes. none_left c.args.changes.now c.loop-change.change-index c.args.prefix.now c.loop-change-test.false
    c.loop-change.invariant
