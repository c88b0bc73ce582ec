use Rattle.std.proofs.Common.{ap, sym, ◌∙◌, eqb-true, option_copied}
use Rattle.bgp_attr.proofs.ValueLaws.{empty_tells}
use Rattle.bgp_attr.proofs.attrs.as4_of.Goals as goal

pub returns-then-is_empty : goal.returns-then-is_empty
returns-then-is_empty c =
    empty_tells c.args.width (option_copied c.args.value) c.in-Some.value.now (ap option_copied c.in-Some.is)
    (eqb-true _ 0 (sym c.is_empty.ensures ∙ c.if-is_empty.true))
