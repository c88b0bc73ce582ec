use Rattle.std.proofs.Common.{◌∙◌, refl, slice_index}
use Rattle.feed_io.specs.Packets.{coded_front, record_front}
use Rattle.forward_worker.proofs.Records.{one_then, read_on}
use Rattle.forward_worker.proofs.record_reader.read_record.Goals as goal

pub returns-in-Whole-clause-read : goal.returns-in-Whole-clause-read
returns-in-Whole-clause-read g c =
    let read = c.in-Whole.ensures.read in
    let code = slice_index c.octets.result.now 0 in
    read_on record_front (coded_front code) read.0 _ _ _ _
    (one_then read.0 c.octets.result.now code read.2 (c.octets.ensures.octets ∙ read.3) refl)
    read.1 c.read_coded.ensures.more c.read_coded.ensures.read
