use Rattle.std.proofs.Common.{◌≤◌, ℕ, [], take, length, length-take, arith}
use Rattle.mrt_feed.proofs.Runs.{ran_kept, ran_read, piece_fits, goes_piece, head_stops}
use Rattle.mrt_feed.proofs.feed.fill_piece.Goals as goal

pub returns-in-Err-clause-ran : goal.returns-in-Err-clause-ran
returns-in-Err-clause-ran g c peer = ran_kept peer _ _ _ _ c.args.place.now c.in-Err.ensures.octets c.in-Err.ensures.kept

pub returns-in-Err-clause-failed : goal.returns-in-Err-clause-failed
returns-in-Err-clause-failed g c =
    head_stops c.args.place.now _ _ _ c.in-Err.ensures.kept c.requires.start c.requires.short c.in-Err.ensures.failed

pub append-requires : goal.append-requires
append-requires g c =
    piece_fits c.args.place.now.head c.read.new.buf _ c.in-Ok.count c.missing-missing.result
    c.in-Ok.ensures.bound.0 (omega (arith, c.read.auto.buf, length-take {A = ℕ}))
    c.missing-missing.ensures.missing c.requires.short

pub returns-in-Ok-clause-ran : goal.returns-in-Ok-clause-ran
returns-in-Ok-clause-ran g c peer =
    let n = c.in-Ok.count in
    let buf = c.read.new.buf in
    let some : n ≤ length buf = c.in-Ok.ensures.bound.0 in
    ran_read peer _ _ _ _ c.args.place.now _ (take n buf) [] c.in-Ok.ensures.octets.0
    (omega (arith, c.in-Ok.ensures.taken, some, length-take n buf)) c.in-Ok.ensures.within
    (goes_piece peer c.args.place.now c.append.new.self buf _ n c.requires.start some c.append.ensures)
