use Rattle.std.proofs.Common.{Result, Ok, Err, OnErr}
use Rattle.pcap_packets.proofs.part.Part.finish.Goals as goal

-- what holds anyway holds of an error
on_err : {T E : Type 0} (r : Result T E) (P : Type 0) → P → OnErr r P
on_err (Ok value) P holds = tt
on_err (Err fault) P holds = holds

pub returns-in_err-end_file_header-in-FileHeader-clause-off : goal.returns-in_err-end_file_header-in-FileHeader-clause-off
returns-in_err-end_file_header-in-FileHeader-clause-off c =
    on_err c.from_residual.result _
    (λ text. c.in_err-end_file_header-in-FileHeader.ensures.off c.args.iface text)
