use Rattle.feed_io.proofs.Generated.{block_update_is}
use Rattle.feed_io.proofs.messages.block_update.Goals as goal

pub returns : goal.returns
returns c =
    rw (c.append_prefixes.ensures, c.append_attributes.ensures, c.header-message.ensures, c.block_origin.ensures)
    (rw c.min-prefixes.ensures (block_update_is c.args.seed c.args.count c.args.block))
