use Rattle.std.proofs.Common.{Some}
use Rattle.control_core.proofs.Logs.{sets-trans}
use Rattle.control_core.proofs.Walks.{walk_goes_on}
use Rattle.control_core.proofs.row_updates.announce.Goals as goal

pub loop-prefix-preserved : goal.loop-prefix-preserved
loop-prefix-preserved g c =
    let step = rw c.in-Some.is at c.next.ensures.steps in
    let walk = rw step at c.loop-prefix.invariant.walk in
    record {
      walk = walk_goes_on c.args.prefixes c.next.new.self c.in-Some.prefix (Some c.args.origin) c.args.rib.now
          c.loop-prefix.rib c.announce_one.new.rib walk c.in_ok-announce_one.ensures.ok;
      logged = λ before engine is.
          c.announce_one.ensures.logged before engine (c.loop-prefix.invariant.logged before engine is);
      sets = sets-trans c.args.sets.now c.loop-prefix.sets c.announce_one.new.sets c.loop-prefix.invariant.sets
          c.announce_one.ensures.sets;
    }

pub returns-in_err-announce_one-clause-logged : goal.returns-in_err-announce_one-clause-logged
returns-in_err-announce_one-clause-logged g c = λ before engine is.
    c.announce_one.ensures.logged before engine (c.loop-prefix.invariant.logged before engine is)
