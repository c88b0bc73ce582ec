use Rattle.std.proofs.Common.{sym, ◌∙◌}
use Rattle.router_config.proofs.Views.{has_only-Table}
use Rattle.router_config.proofs.documents.has_known_keys.Goals as goal

pub returns : goal.returns
returns c = rw c.in-Table.is (c.are_known.ensures ∙ sym (has_only-Table _ c.in-Table.table))
