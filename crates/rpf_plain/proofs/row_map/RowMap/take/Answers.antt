use Rattle.std.proofs.Common.{sym, ◌∙◌}
use Rattle.rpf_plain.proofs.Repeats.{takes}
use Rattle.rpf_plain.proofs.RowKeys.{ascending, ascends, drops_long, drops_short, found_long, found_short, kept_long}
use Rattle.rpf_plain.proofs.RowKeys.{kept_short, puts_long, puts_short}
use Rattle.rpf_plain.proofs.row_map.RowMap.take.Goals as goal

pub invariant_of-self : goal.invariant_of-self
invariant_of-self c = kept_short c.take_once.new.rows.entries c.self.invariant c.take_once.ensures.ordered

pub invariant_of-self-in-Long : goal.invariant_of-self-in-Long
invariant_of-self-in-Long c =
    kept_long c.take_once-in-Long.new.rows.entries c.self.invariant c.take_once-in-Long.ensures.ordered

pub returns-in-Short : goal.returns-in-Short
returns-in-Short c =
    let key = c.in-Short.key in
    let there = sym (found_short key c.self.invariant c.self.view_is c.in-Short.ensures) in
    takes c.args.row.now c.args.self.now _ (ascends c.self.invariant c.self.view_is)
    (ascending _ _ (invariant_of-self c)) c.requires
    (λ last. drops_short key c.self.invariant c.self.view_is c.in-Short.ensures
    (c.take_once.ensures.last (there ∙ last)))
    (λ n more. puts_short key n c.self.invariant c.self.view_is c.in-Short.ensures
    (c.take_once.ensures.fewer n (there ∙ more)))

pub returns-in-Long : goal.returns-in-Long
returns-in-Long c =
    let key = c.in-Long.key in
    let there = sym (found_long key c.self.invariant c.self.view_is c.in-Long.ensures) in
    takes c.args.row.now c.args.self.now _ (ascends c.self.invariant c.self.view_is)
    (ascending _ _ (invariant_of-self-in-Long c)) c.requires
    (λ last. drops_long key c.self.invariant c.self.view_is c.in-Long.ensures
    (c.take_once-in-Long.ensures.last (there ∙ last)))
    (λ n more. puts_long key n c.self.invariant c.self.view_is c.in-Long.ensures
    (c.take_once-in-Long.ensures.fewer n (there ∙ more)))
