use Rattle.std.proofs.Common.{◌≡◌, ◌+◌, ◌≤◌, length, take, ap, length-append, arith}
use Rattle.feed_io.specs.Generated.{block_count}
use Rattle.feed_io.proofs.Generated.{nothing_left}
use Rattle.feed_io.proofs.generator.GenFeedFeed.next.Goals as goal

pub returns-then-begun-block_count-clause-events : goal.returns-then-begun-block_count-clause-events
returns-then-begun-block_count-clause-events c =
    let inside = c.self.inside in
    let given = c.give-given in
    let past : 3 + block_count inside.count ≤ inside.begun =
    omega (arith, c.if-begun-block_count.true, c.block_count.ensures) in
    let none : length inside.unsent ≡ 0 = omega (arith, given.ensures.count, c.if-given-gt0.false, c.requires) in
    let none_now : length given.new.self ≡ 0 =
    omega (arith, none, ap length given.ensures.octets, length-append (take given.result given.new.buf) given.new.self)
    in (
      rw (← c.self.view_is) (nothing_left inside.seed inside.count inside.begun inside.unsent none past),
      nothing_left inside.seed inside.count inside.begun given.new.self none_now past,
    )
