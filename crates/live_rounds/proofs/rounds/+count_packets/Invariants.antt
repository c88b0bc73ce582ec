use Rattle.std.proofs.Common.{length}
use Rattle.live_rounds.proofs.rounds.+count_packets.Given as goal

abbrev pub decreases-count_packets : goal.decreases-count_packets
decreases-count_packets g l = length l.workers.now
