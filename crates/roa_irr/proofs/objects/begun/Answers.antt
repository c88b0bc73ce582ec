use Rattle.std.proofs.Common.{sym, ◌∙◌}
use Rattle.std.specs.List.{join_with_byte}
use Rattle.roa_irr.proofs.Seen.{attribute, sees-route, sees-route6}
use Rattle.roa_irr.proofs.objects.begun.Goals as goal

pub returns-then-is_named : goal.returns-then-is_named
returns-then-is_named c parts is =
    sees-route (attribute c.args.name.now parts) c.prefix_of.result (sym c.is_named.ensures ∙ c.if-is_named.true)
    (c.prefix_of.ensures (join_with_byte 32 parts) is)

pub returns-then-is_named-2 : goal.returns-then-is_named-2
returns-then-is_named-2 c parts is =
    sees-route6 (attribute c.args.name.now parts) c.prefix_of-then-is_named-2.result
    (sym c.is_named.ensures ∙ c.if-is_named.false) (sym c.is_named-2.ensures ∙ c.if-is_named-2.true)
    (c.prefix_of-then-is_named-2.ensures (join_with_byte 32 parts) is)
