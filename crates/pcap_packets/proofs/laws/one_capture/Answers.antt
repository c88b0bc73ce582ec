use Rattle.pcap_packets.proofs.Written.{capture_read, file_spelled, either_order, frame_is_on}
use Rattle.pcap_packets.proofs.laws.one_capture.Goals as goal

pub returns-clause-whole : goal.returns-clause-whole
returns-clause-whole c = capture_read

pub returns-clause-spelled : goal.returns-clause-spelled
returns-clause-spelled c = file_spelled

pub returns-clause-either_order : goal.returns-clause-either_order
returns-clause-either_order c = either_order

pub returns-clause-off : goal.returns-clause-off
returns-clause-off c = frame_is_on
