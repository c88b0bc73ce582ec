use Rattle.std.proofs.Common.{ap, sym, subst, ◌∙◌, List, ℕ}
use Rattle.urpf_base.specs.Address.{Block}
use Rattle.bgp_nlri.specs.Nlri.{SpellsPrefixes}
use Rattle.bgp_nlri.specs.declared.family.Family.TheVariants as family
use Rattle.bgp_attr.specs.Slots.{AreFit, Values, values_of}
use Rattle.bgp_attr.specs.Told.{TellsValues}
use Rattle.bgp_attr.proofs.FaultLaws.{no_fault, one_fault, one_list}
use Rattle.bgp_attr.proofs.ValueLaws.{values_fit, reach_in-prefixes, unreach_in-prefixes}
use Rattle.bgp_attr.proofs.walking.walk.Goals as goal
use Rattle.bgp_attr.proofs.walking.walk.Goals.{In-Ok}

abbrev ArePrefixes : List ℕ → Type 0
ArePrefixes field = (prefixes : List Block) × SpellsPrefixes family.V6 field prefixes

are_fit : (c : In-Ok) → AreFit c.args.width c.args.v6 c.in-Ok.slots
are_fit c =
    let good = c.in-Ok.ensures.good in
    subst (λ (v : Values). AreFit c.args.width c.args.v6 v) (sym good.2)
    (values_fit c.args.width c.args.v6 good.0 good.1.proper)

pub attrs_from-requires : goal.attrs_from-requires
attrs_from-requires c = are_fit (goal.at.attrs_from-requires c).In-Ok

pub returns-in-Ok-clause-only : goal.returns-in-Ok-clause-only
returns-in-Ok-clause-only c attributes are =
    let good = c.in-Ok.ensures.good in
    let same = good.2 ∙ ap values_of (one_list c.args.width c.args.v6 c.args.field.now good.0 attributes good.1 are) in
    subst (λ (v : Values). TellsValues c.args.width c.args.v6 v c.attrs_from.result) same c.attrs_from.ensures

pub returns-in-Ok-clause-only_fault : goal.returns-in-Ok-clause-only_fault
returns-in-Ok-clause-only_fault c sub fault =
    no_fault c.args.width c.args.v6 c.args.field.now c.in-Ok.ensures.good.0 sub c.in-Ok.ensures.good.1 fault

pub returns-in-Ok-clause-reach : goal.returns-in-Ok-clause-reach
returns-in-Ok-clause-reach c =
    let fit = are_fit (goal.at.returns-in-Ok-clause-reach c).In-Ok in
    subst ArePrefixes (sym c.attrs_from.ensures.reach) (reach_in-prefixes c.args.v6 c.in-Ok.slots.reach fit.reach)

pub returns-in-Ok-clause-unreach : goal.returns-in-Ok-clause-unreach
returns-in-Ok-clause-unreach c =
    let fit = are_fit (goal.at.returns-in-Ok-clause-unreach c).In-Ok in
    subst ArePrefixes (sym c.attrs_from.ensures.unreach)
    (unreach_in-prefixes c.args.v6 c.in-Ok.slots.unreach fit.unreach)

pub returns-in-Err-clause-only : goal.returns-in-Err-clause-only
returns-in-Err-clause-only c attributes are =
    no_fault c.args.width c.args.v6 c.args.field.now attributes c.in-Err.fault.sub are c.in-Err.ensures.fault

pub returns-in-Err-clause-only_fault : goal.returns-in-Err-clause-only_fault
returns-in-Err-clause-only_fault c sub fault =
    one_fault c.args.width c.args.v6 c.args.field.now c.in-Err.fault.sub sub c.in-Err.ensures.fault fault
