use Rattle.std.proofs.Common.{◌++◌, arith, length-append}
use Rattle.mrt_feed.specs.Records.{IsHead}
use Rattle.mrt_feed.proofs.Heads.{head_length-high}
use Rattle.mrt_feed.proofs.head.Head.append.Goals as goal

pub append-requires : goal.append-requires
append-requires c =
    let held = c.self.inside.buffer in
    let piece = c.args.piece.now in
    let fits : IsHead (held ++ piece) = rw c.self.view_is c.requires in
    omega (arith, fits, head_length-high (held ++ piece), length-append held piece)
