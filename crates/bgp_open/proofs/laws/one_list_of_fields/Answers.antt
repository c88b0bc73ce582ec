use Rattle.bgp_open.proofs.Walks.{spells_fields, spelled_fields}
use Rattle.bgp_open.proofs.laws.one_list_of_fields.Goals as goal

pub returns-clause-found : goal.returns-clause-found
returns-clause-found c = spells_fields

pub returns-clause-only : goal.returns-clause-only
returns-clause-only c = spelled_fields
