use Rattle.std.proofs.Common.{◌≡◌, [], take, length, length-take, arith}
use Rattle.mrt_feed.proofs.Runs.{ran_kept, ran_read, goes_skipped, skip_stops}
use Rattle.mrt_feed.proofs.feed.skip_piece.Goals as goal

pub returns-in-Err-clause-ran : goal.returns-in-Err-clause-ran
returns-in-Err-clause-ran g c peer = ran_kept peer _ _ _ _ c.args.place.now c.in-Err.ensures.rest c.in-Err.ensures.unread

pub returns-in-Err-clause-failed : goal.returns-in-Err-clause-failed
returns-in-Err-clause-failed g c =
    skip_stops c.args.place.now _ _ _ c.in-Err.ensures.unread c.requires.between c.requires.some c.in-Err.ensures.failed

pub returns-in-Ok-clause-ran : goal.returns-in-Ok-clause-ran
returns-in-Ok-clause-ran g c peer =
    let n = c.in-Ok.count in
    let buf = c.read_piece.new.buf in
    let long : length (take n buf) ≡ n = omega (arith, c.in-Ok.ensures.bound, length-take n buf) in
    ran_read peer _ _ _ _ c.args.place.now _ (take n buf) [] c.in-Ok.ensures.octets
    (omega (arith, c.in-Ok.ensures.taken, long)) c.in-Ok.ensures.within
    (goes_skipped peer c.args.place.now (take n buf) n c.requires.between long
    (omega (arith, c.in-Ok.ensures.bound)))
