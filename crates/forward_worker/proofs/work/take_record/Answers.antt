use Rattle.std.proofs.Common.{◌∷◌, [], ◌∙◌, refl, sym, subst, append-nil, arith}
use Rattle.feed_io.specs.Packets.{packet, marker}
use Rattle.forward_worker.specs.Rows.{NamesSource}
use Rattle.forward_worker.proofs.Passing.{over-packet, rows-then}
use Rattle.forward_worker.proofs.Records.{first_read}
use Rattle.forward_worker.proofs.work.take_record.Goals as goal

pub returns-in-Packet-clause-over : goal.returns-in-Packet-clause-over
returns-in-Packet-clause-over g c =
    let read = c.in-Packet.ensures.read in
    let row = c.check_packet.result in
    let e = c.check_packet.ensures in
    record {
      records = packet c.in-Packet.iface read.0 ∷ [];
      further = row ∷ [];
      over = over-packet c.args.stop c.in-Packet.iface read.0;
      read = first_read (packet c.in-Packet.iface read.0) _ _ read.2;
      rows_are = (
        row,
        [],
        refl,
        record {
          worker_is = e.worker.0;
          place_is = e.place.0;
          iface_is = e.packet.0;
          source_is = subst (λ s. NamesSource read.0 s) (sym e.packet.1) read.1;
        },
        refl,
      );
      joined = rows-then row c.args.rows.now.items _ _ c.push_reserved.ensures.items c.reserve.ensures.items;
      worker = e.worker.1;
      place = omega (arith, e.place.1);
      taken = omega (arith, e.taken);
      limit = e.desk.0;
      ended = e.desk.1;
    }

pub returns-in-End-stop-clause-over : goal.returns-in-End-stop-clause-over
returns-in-End-stop-clause-over g c = record {
  records = marker ∷ [];
  further = [];
  over = rw c.in-End-stop.is tt;
  read = first_read marker _ _ c.in-Marker.ensures.read;
  rows_are = refl;
  joined = c.reserve.ensures.items ∙ sym (append-nil _);
  worker = refl;
  place = omega arith;
  taken = omega arith;
  limit = refl;
  ended = refl;
}
