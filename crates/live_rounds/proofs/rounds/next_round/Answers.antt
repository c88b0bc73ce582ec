use Rattle.std.proofs.Common.{arith}
use Rattle.live_rounds.proofs.Joining.{others_next, others_none}
use Rattle.live_rounds.proofs.rounds.next_round.Goals as goal

pub loop-k-init : goal.loop-k-init
loop-k-init c = record {
  from = omega arith;
  within = c.requires;
  others = others_none c.args.book.now c.args.from;
}

pub loop-k-preserved : goal.loop-k-preserved
loop-k-preserved c =
    let i = c.loop-k.invariant in
    let row = c.ends_round.ensures.other c.if-ends_round.false in
    record {
      from = omega arith;
      within = omega arith;
      others = others_next c.args.book.now c.args.from c.loop-k.k i.from i.others row;
    }
