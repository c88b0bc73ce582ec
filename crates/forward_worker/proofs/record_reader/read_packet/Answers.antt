use Rattle.std.proofs.Common.{◌≡◌, ◌∙◌, ap, drop, arith}
use Rattle.byteorder.specs.Endian.{big_number}
use Rattle.feed_io.specs.Packets.{octets_front, packet_front}
use Rattle.forward_worker.proofs.Records.{numbers_then, read_on, rest_from, take_whole}
use Rattle.forward_worker.proofs.record_reader.read_packet.Goals as goal

pub returns-in-Whole-clause-read : goal.returns-in-Whole-clause-read
returns-in-Whole-clause-read g c =
    let read = c.in-Whole.ensures.read in
    let all : c.in-Whole.front ≡ read.0 = read.3 ∙ take_whole 60 read.0 (omega (arith, read.2)) in
    read_on packet_front (octets_front c.read_u16-iface.result c.read_u16-count.result) read.0 _ _ _ _
    (numbers_then read.0 c.read_u16-iface.result c.read_u16-count.result read.2
    (c.read_u16-iface.ensures ∙ ap (big_number 2) (c.octets.ensures.octets ∙ all))
    (c.read_u16-count.ensures ∙ ap (big_number 2) (rest_from 2 c.octets-in-Whole.result.now)
    ∙ ap (λ l. big_number 2 (drop 2 l)) (c.octets-in-Whole.ensures.octets ∙ all)))
    read.1 c.read_octets.ensures.more c.read_octets.ensures.read
