use Rattle.std.proofs.Common.{subst, sym}
use Rattle.std.specs.List.{AllByRecursion}
use Rattle.run_lines.specs.RunText.{head_text}
use Rattle.run_lines.proofs.Heads.{head_of}
use Rattle.live_rounds.specs.Seats as seats
use Rattle.live_rounds.specs.Stations as stations
use Rattle.live_run.proofs.AtFirst.{at_first, begun_text}
use Rattle.live_run.proofs.run.run_begun.Goals as goal

pub run_rounds-requires-clause-workers : goal.run_rounds-requires-clause-workers
run_rounds-requires-clause-workers g c κs within =
    subst (λ batches. AllByRecursion (stations.IsReady seats.identity_of seats.opening_of seats.list_of
    g.P.PacketSource.left g.J.Naming.opening batches) c.args.workers.now) (sym c.requires.few.1.batches) c.requires.workers

pub returns-clause-ran : goal.returns-clause-ran
returns-clause-ran g c run streams begun is totals slots told =
    begun_text run c.args.book.now streams g.J.Naming.opening c.args.control.now _ _ _
    (head_text c.args.totals.now run.config.sessions) (g.K.Sink.held c.args.out.now) (g.K.Sink.held c.open.new.out)
    c.run_rounds.result begun is slots c.requires.kinds
    (at_first g.P.PacketSource.left 0 c.args.workers.now streams c.requires.new told)
    (head_of run c.args.totals.now totals) (c.in_default.ensures.ok run.config.sessions begun.opened.marks)
    c.run_rounds.ensures.ran
