use Rattle.std.proofs.Common.{◌-◌, ◌*◌, arith}
use Rattle.std.proofs.lemmas.Nat.{shl_whole}
use Rattle.ip_text.proofs.groups.raised.Goals as goal

pub returns : goal.returns
returns c = shl_whole c.args.value (16 * c.args.count) (16 * (8 - c.args.count)) 128 c.requires.fits (omega arith)
