use Rattle.bgp_wire.proofs.Headers.{header_fault-append, length_field-append, type_field-append, fits_kind}
use Rattle.bgp_wire.proofs.laws.header_decides.Goals as goal

pub returns-clause-fault : goal.returns-clause-fault
returns-clause-fault c = header_fault-append

pub returns-clause-count : goal.returns-clause-count
returns-clause-count c = length_field-append

pub returns-clause-fits : goal.returns-clause-fits
returns-clause-fits c = fits_kind

pub returns-clause-code : goal.returns-clause-code
returns-clause-code c = type_field-append
