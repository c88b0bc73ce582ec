use Rattle.std.proofs.Common.{◌+◌, refl}
use Rattle.forward_worker.proofs.Answering.{asks_on, row_answered}
use Rattle.forward_worker.proofs.work.check_packet.Goals as goal

pub returns-clause-answered : goal.returns-clause-answered
returns-clause-answered g c lowest first rows asked answered =
    let e = c.check-answer.ensures in
    row_answered _ _ _ _
    (record {
      worker = c.args.desk.now.worker;
      place = c.args.desk.now.place + 1;
      iface = c.args.iface;
      source = c.args.source;
      answer = c.check-answer.result;
    })
    lowest first _ rows c.args.asks.now c.check-answer.result e.kept.1 e.grows refl e.unasked e.number e.verdict asked answered

pub returns-clause-asks : goal.returns-clause-asks
returns-clause-asks g c first rows asked =
    let e = c.check-answer.ensures in
    asks_on
    (record {
      worker = c.args.desk.now.worker;
      place = c.args.desk.now.place + 1;
      iface = c.args.iface;
      source = c.args.source;
      answer = c.check-answer.result;
    })
    first _ _ rows c.args.asks.now c.is_some.result c.check-answer.result refl c.is_some.ensures e.unasked e.refused e.left
    e.answered asked
