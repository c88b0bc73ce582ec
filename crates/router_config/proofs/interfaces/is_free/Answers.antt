use Rattle.std.proofs.Common.{not, ap, sym, ◌∙◌}
use Rattle.toml.specs.View.{view}
use Rattle.router_config.specs.Rules.{has_number}
use Rattle.router_config.proofs.Views.{list_any-map}
use Rattle.router_config.proofs.interfaces.is_free.Goals as goal

pub returns : goal.returns
returns c = ap not (c.is_used.ensures ∙ sym (list_any-map (has_number c.args.number) view c.args.interfaces.now))
