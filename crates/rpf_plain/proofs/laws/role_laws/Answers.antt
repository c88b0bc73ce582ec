use Rattle.rpf_plain.proofs.Listed.{configured, mode_edited, pair_edited, role_kept, roles_edited}
use Rattle.rpf_plain.proofs.laws.role_laws.Goals as goal

pub returns-clause-configured : goal.returns-clause-configured
returns-clause-configured c = configured

pub returns-clause-role : goal.returns-clause-role
returns-clause-role c kinds iface role = roles_edited iface role kinds

pub returns-clause-mode : goal.returns-clause-mode
returns-clause-mode c = mode_edited

pub returns-clause-pair : goal.returns-clause-pair
returns-clause-pair c = pair_edited

pub returns-clause-kept : goal.returns-clause-kept
returns-clause-kept c = role_kept
