use Rattle.std.proofs.Common.{refl, take, length-take, arith}
use Rattle.mrt_feed.proofs.Runs.{ran_kept, gives_failed, owed_stops, gives_owed, owed_goes_on, counts_read}
use Rattle.mrt_feed.proofs.feed.give_owed.Goals as goal

pub returns-in-Err-clause-events : goal.returns-in-Err-clause-events
returns-in-Err-clause-events g c =
    let i = c.args.input.now.taken in
    gives_failed (record {}) c.args.peer _ _ i i c.args.place.now c.args.place.now c.read_piece.new.buf
    (ran_kept c.args.peer _ _ i i c.args.place.now c.in-Err.ensures.rest refl)

pub returns-in-Err-clause-failed : goal.returns-in-Err-clause-failed
returns-in-Err-clause-failed g c =
    owed_stops c.args.peer c.args.place.now _ _ c.args.input.now.taken c.requires.unsent c.requires.some
    c.in-Err.ensures.rest c.in-Err.ensures.failed

pub returns-in-Ok-clause-events : goal.returns-in-Ok-clause-events
returns-in-Ok-clause-events g c =
    gives_owed _ c.args.peer _ _ c.args.place.now c.in-Ok.given c.read_piece.new.buf c.requires.unsent
    c.in-Ok.ensures.octets (omega (arith, c.in-Ok.ensures.bound)) c.in-Ok.ensures.bound.1 c.in-Ok.ensures.bound.2

pub returns-in-Ok-clause-stops : goal.returns-in-Ok-clause-stops
returns-in-Ok-clause-stops g c =
    let piece = take c.in-Ok.given c.read_piece.new.buf in
    owed_goes_on c.args.peer _ _ c.args.input.now.taken c.args.place.now piece c.requires.unsent c.requires.some
    c.in-Ok.ensures.octets (omega (arith, c.in-Ok.ensures.bound, length-take c.in-Ok.given c.read_piece.new.buf))
    c.in-Ok.ensures.more

pub returns-in-Ok-clause-counted : goal.returns-in-Ok-clause-counted
returns-in-Ok-clause-counted g c =
    let piece = take c.in-Ok.given c.read_piece.new.buf in
    counts_read _ _ _ _ piece c.in-Ok.ensures.octets
    (omega (arith, c.in-Ok.ensures.taken, c.in-Ok.ensures.bound, length-take c.in-Ok.given c.read_piece.new.buf))
