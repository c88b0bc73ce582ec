use Rattle.std.proofs.Common.{append_assoc}
use Rattle.feed_io.proofs.messages.append_attributes.Goals as goal

pub returns : goal.returns
returns c =
    rw (c.append-4.ensures, c.append-3.ensures, c.append-2.ensures, c.append.ensures)
    (simp append_assoc (rw (c.to_be_bytes.ensures, c.to_be_bytes-2.ensures)))
