use Rattle.std.proofs.Common.{sym, ◌∙◌}
use Rattle.std.specs.List.{join_with_byte}
use Rattle.roa_irr.proofs.Seen.{attribute, sees-behind, sees-first, sees-more, sees-origin, sees-other}
use Rattle.roa_irr.proofs.objects.with_attribute.Goals as goal

pub returns-in-New : goal.returns-in-New
returns-in-New c attributes parts sees is =
    sees-first attributes (attribute c.args.name.now parts) c.begun.result (rw c.in-New.is at sees)
    (c.begun.ensures parts is)

pub returns-in-Other : goal.returns-in-Other
returns-in-Other c attributes parts sees is =
    sees-other attributes (attribute c.args.name.now parts) (rw c.in-Other.is at sees)

pub returns-then-is_named : goal.returns-then-is_named
returns-then-is_named c attributes parts sees is =
    sees-origin attributes (attribute c.args.name.now parts) c.in-Route.prefix c.asn_of.result
    (rw c.in-Route.is at sees) (sym c.is_named.ensures ∙ c.if-is_named.true)
    (c.asn_of.ensures (join_with_byte 32 parts) is)

pub returns-else-is_named : goal.returns-else-is_named
returns-else-is_named c attributes parts sees is =
    sees-more attributes (attribute c.args.name.now parts) c.in-Route.prefix (rw c.in-Route.is at sees)
    (sym c.is_named.ensures ∙ c.if-is_named.false)

pub returns-in-Held : goal.returns-in-Held
returns-in-Held c attributes parts sees is =
    sees-behind attributes (attribute c.args.name.now parts) c.in-Held.prefix c.in-Held.origin
    (rw c.in-Held.is at sees)
