use Rattle.std.proofs.Common.{◌↔◌, ap, sym, subst, IsTrue, rules}
use Rattle.rpf_plain.specs.Ahead.{Found}
use Rattle.rpf_plain.specs.Walks.{Hears}
use Rattle.rpf_plain.proofs.Leading.{goes_on, is_behind}
use Rattle.rpf_plain.proofs.Turns.{both}
use Rattle.rpf_plain.proofs.ahead.Ahead.ifaces.Goals as goal

pub returns-clause-over : goal.returns-clause-over
returns-clause-over c rows over =
    let old = c.args.self.now in
    let prefix = c.args.prefix.now in
    let behind =
    is_behind old.at prefix c.requires
    (λ e. let yes : IsTrue c.is_at.result = c.is_at.ensures.1 e in let no = c.if-is_at.false in absurd cc) in
    goes_on rows old _ prefix over c.requires behind (search rules) c.pass-self-inside.ensures.heard
    (λ p more i. subst (λ l. Hears l i p ↔ Hears old.left i p) (sym (ap (λ (f : Found). f.left) c.self-2.view_is))
    (c.pass-self-inside.ensures.left p more i))

pub returns-clause-heard : goal.returns-clause-heard
returns-clause-heard c rows over i =
    let old = c.args.self.now in
    let prefix = c.args.prefix.now in
    let behind =
    is_behind old.at prefix c.requires
    (λ e. let yes : IsTrue c.is_at.result = c.is_at.ensures.1 e in let no = c.if-is_at.false in absurd cc) in
    both (c.pass-self-inside.ensures.heard i) (over.left prefix behind i)
