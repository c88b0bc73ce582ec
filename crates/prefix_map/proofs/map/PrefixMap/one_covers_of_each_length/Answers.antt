use Rattle.prefix_map.proofs.Covering.{own_there}
use Rattle.prefix_map.proofs.Held.{has_held}
use Rattle.prefix_map.proofs.map.PrefixMap.one_covers_of_each_length.Goals as goal

pub returns : goal.returns
returns g c = λ p there covers.
    own_there _ _ c.args.self.now c.args.addr.now c.self.invariant c.self.view_is c.bits_of.ensures.fits p
    ((has_held c.args.self.now p).1 there) covers
