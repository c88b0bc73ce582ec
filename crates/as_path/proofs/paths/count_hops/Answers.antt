use Rattle.std.proofs.Common.{◌≡◌, ◌+◌, length, arith, sym}
use Rattle.as_path.specs.Hops.{hops}
use Rattle.as_path.specs.Front.{numbers_in, segments_in}
use Rattle.as_path.proofs.NumberLaws.{counted_in}
use Rattle.as_path.proofs.HopLaws.{hops_counted, hops-within}
use Rattle.as_path.proofs.paths.count_hops.Goals as goal
use Rattle.as_path.proofs.paths.count_hops.Goals.{After-hop_count-count}

still_counted : (c : After-hop_count-count)
    → (c.loop-segment.count + c.hop_count-count.result)
    + length (hops (segments_in c.args.width c.in-Some.segment.rest.now))
    ≡ length (hops (segments_in c.args.width c.args.value.now))
still_counted c =
    let numbers = c.in-Some.segment.numbers.now in
    let hop =
    c.hop_count-count.ensures (numbers_in c.args.width numbers)
    (sym (counted_in c.args.width c.in-Some.segment.count numbers c.in-Some.ensures.whole)) in
    hops_counted c.args.width c.loop-segment.rest.now c.in-Some.segment.rest.now _ c.loop-segment.count
    c.hop_count-count.result _ (sym c.in-Some.ensures.segment) hop c.loop-segment.invariant

pub overflow_add-count : goal.overflow_add-count
overflow_add-count c =
    omega (arith, still_counted c, hops-within c.args.width c.args.value.now _ c.requires.path, c.requires.within)

pub loop-segment-preserved : goal.loop-segment-preserved
loop-segment-preserved c = still_counted (goal.at.loop-segment-preserved c).After-hop_count-count
