use Rattle.std.proofs.Common.{ap, sym, ◌∙◌}
use Rattle.urpf_base.specs.Address.{width_of}
use Rattle.roa_irr.specs.Lines.{trimmed}
use Rattle.roa_irr.specs.Steps.{width}
use Rattle.roa_irr.proofs.Spelled.{no_block, none_block, one_block, other_block}
use Rattle.roa_irr.proofs.values.prefix_of.Goals as goal

pub returns-in_default : goal.returns-in_default
returns-in_default c joined is = no_block (trimmed joined) (width c.args.v6) (rw c.in_default.is at is)

pub returns-in_default-read_prefix : goal.returns-in_default-read_prefix
returns-in_default-read_prefix c joined is =
    none_block (trimmed joined) c.in-One.text.now (width c.args.v6) (rw c.in-One.is at is)
    c.in_default-read_prefix.ensures.only

pub returns-then-not-is_of : goal.returns-then-not-is_of
returns-then-not-is_of c joined is =
    other_block (trimmed joined) c.in-One.text.now (width c.args.v6) c.in-Some.prefix (rw c.in-One.is at is)
    c.in-Some.ensures.only (λ e.
    let of = c.is_of.ensures.1 (ap width_of c.addr.ensures.value ∙ e) in cc)

pub returns : goal.returns
returns c joined is =
    one_block (trimmed joined) c.in-One.text.now (width c.args.v6) c.in-Some.prefix (rw c.in-One.is at is)
    c.in-Some.ensures.found c.in-Some.ensures.only
    (ap width_of (sym c.addr.ensures.value) ∙ c.is_of.ensures.0 c.if-not-is_of.false)
