use Rattle.std.proofs.Common.{◌-◌, ◌≡◌, ◌≤◌, [], length, false}
use mathlib.Core.List.{IsPrefix}
use Rattle.forward_worker.specs.Answers.{AreAnswered, Asks}
use Rattle.forward_worker.specs.Rounds.{PassesOver}
use Rattle.forward_worker.proofs.work.take_records.Given as goal

abbrev pub invariant-loop-desk : goal.invariant-loop-desk
invariant-loop-desk g l = record {
  within : l.desk.taken ≤ l.desk.limit;
  place : l.desk.place ≤ l.desk.taken;
  ended : l.desk.ended ≡ false;
  over : PassesOver l.stop l.initial.desk l.desk (g.P.PacketSource.left l.initial.packets) (g.P.PacketSource.left l.packets)
      [] l.rows.items;
  answered : AreAnswered (g.C.Checker.opening l.pass) (g.C.Checker.list l.pass) (length (g.C.Checker.list l.initial.pass))
      l.rows.items;
  asks : Asks l.asks (g.C.Checker.count l.initial.pass) (g.C.Checker.count l.pass) l.rows.items;
  kept : (g.C.Checker.identity l.pass ≡ g.C.Checker.identity l.initial.pass)
      × (g.C.Checker.opening l.pass ≡ g.C.Checker.opening l.initial.pass);
  grows : IsPrefix (g.C.Checker.list l.initial.pass) (g.C.Checker.list l.pass);
  faults : g.P.PacketSource.faults l.packets ≡ g.P.PacketSource.faults l.initial.packets;
}

abbrev pub decreases-loop-desk : goal.decreases-loop-desk
decreases-loop-desk g l = l.desk.limit - l.desk.taken
