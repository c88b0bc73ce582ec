use Rattle.pcap_packets.proofs.FramePackets.{packet_given, nothing_given, records_given}
use Rattle.pcap_packets.proofs.laws.one_packet_each.Goals as goal

pub returns-clause-ethernet : goal.returns-clause-ethernet
returns-clause-ethernet c = packet_given

pub returns-clause-other : goal.returns-clause-other
returns-clause-other c = nothing_given

pub returns-clause-records : goal.returns-clause-records
returns-clause-records c = records_given
