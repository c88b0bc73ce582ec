use Rattle.std.proofs.Common.{◌≡◌, ◌+◌, ◌<◌, subst, arith}
use Rattle.urpf_base.specs.Address.{cleared}
use Rattle.cover_table.specs.Trees.{IsWithin, size}
use Rattle.cover_table.proofs.Blocks.{fork_fits, fork_left, fork_longer, fork_lower, fork_right, fork_upper, half_is, in_lower, in_upper}
use Rattle.cover_table.proofs.forks.+fork_of.Goals as goal

pub half-requires-clause-some : goal.half-requires-clause-some
half-requires-clause-some t c =
    let r = c.requires in
    let longer = fork_longer c.args.width c.args.low c.args.depth c.args.lower.now c.args.upper.now r.lower r.upper r.apart in
    omega (arith, longer)

pub overflow_add-middle : goal.overflow_add-middle
overflow_add-middle t c =
    let r = c.requires in
    let longer = fork_longer c.args.width c.args.low c.args.depth c.args.lower.now c.args.upper.now r.lower r.upper r.apart in
    let fits = fork_fits c.args.width c.args.depth c.args.low longer r.width r.whole (omega arith) in
    omega (arith, fits, c.half.ensures)

pub fork_of-requires : goal.fork_of-requires
fork_of-requires t c =
    let r = c.requires in
    let w = c.args.width in
    let longer = fork_longer w c.args.low c.args.depth c.args.lower.now c.args.upper.now r.lower r.upper r.apart in
    let below : c.args.upper.now.bits < c.args.low + size w (c.args.depth + 1) =
    let is = half_is w c.args.depth in omega (arith, c.half.ensures, c.if-upper-middle.true) in
    let sides = fork_left w c.args.low c.args.depth c.args.lower.now c.args.upper.now r.lower r.upper r.whole r.apart below in
    (omega (arith, longer), (r.width, (sides.0, (sides.1, (sides.2, r.apart)))))

pub returns-then-upper-middle-clause-within : goal.returns-then-upper-middle-clause-within
returns-then-upper-middle-clause-within t c =
    let r = c.requires in
    in_lower c.args.width c.args.low c.args.depth c.fork_of.result
    (fork_longer c.args.width c.args.low c.args.depth c.args.lower.now c.args.upper.now r.lower r.upper r.apart)
    c.fork_of.ensures.within

pub fork_of-requires-then-lower-middle : goal.fork_of-requires-then-lower-middle
fork_of-requires-then-lower-middle t c =
    let r = c.requires in
    let w = c.args.width in
    let longer = fork_longer w c.args.low c.args.depth c.args.lower.now c.args.upper.now r.lower r.upper r.apart in
    let mid : c.args.low + size w (c.args.depth + 1) ≡ c.args.low + c.half.result =
    let is = half_is w c.args.depth in omega (arith, c.half.ensures) in
    let sides = fork_right w c.args.low c.args.depth c.args.lower.now c.args.upper.now r.lower r.upper r.whole r.apart
    (omega (arith, c.if-lower-middle.true)) in (
      omega (arith, longer),
      (
        r.width,
        (
          subst (λ m. IsWithin w m (c.args.depth + 1) c.args.lower.now) mid sides.0,
          (
            subst (λ m. IsWithin w m (c.args.depth + 1) c.args.upper.now) mid sides.1,
            (subst (λ m. cleared w (c.args.depth + 1) m ≡ m) mid sides.2, r.apart),
          ),
        ),
      ),
    )

pub returns-then-lower-middle-clause-within : goal.returns-then-lower-middle-clause-within
returns-then-lower-middle-clause-within t c =
    let r = c.requires in
    let w = c.args.width in
    let mid : c.args.low + c.half.result ≡ c.args.low + size w (c.args.depth + 1) =
    let is = half_is w c.args.depth in omega (arith, c.half.ensures) in
    in_upper w c.args.low c.args.depth c.fork_of-then-lower-middle.result
    (fork_longer w c.args.low c.args.depth c.args.lower.now c.args.upper.now r.lower r.upper r.apart)
    (subst (λ m. IsWithin w m (c.args.depth + 1) c.fork_of-then-lower-middle.result) mid
    c.fork_of-then-lower-middle.ensures.within)

pub returns-clause-lower : goal.returns-clause-lower
returns-clause-lower t c =
    let r = c.requires in
    let is = half_is c.args.width c.args.depth in
    fork_lower c.args.width c.args.low c.args.depth c.args.lower.now c.args.upper.now r.lower r.upper r.whole r.apart
    (omega (arith, c.half.ensures, c.if-lower-middle.false))

pub returns-clause-upper : goal.returns-clause-upper
returns-clause-upper t c =
    let r = c.requires in
    let is = half_is c.args.width c.args.depth in
    fork_upper c.args.width c.args.low c.args.depth c.args.lower.now c.args.upper.now r.lower r.upper r.whole r.apart
    (omega (arith, c.half.ensures, c.if-upper-middle.false))
