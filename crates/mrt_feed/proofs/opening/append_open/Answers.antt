use Rattle.std.proofs.Common.{◌≡◌, ap, sym, ◌∙◌}
use Rattle.as_path.specs.declared.widths.Width.{Width}
use Rattle.as_path.specs.declared.widths.Width.TheVariants.{Two, Four}
use Rattle.mrt_feed.specs.Openings.{open_message}
use Rattle.mrt_feed.specs.declared.record_head.Sender.{Sender}
use Rattle.mrt_feed.proofs.opening.append_open.Goals as goal

open_at : (s : Sender) (w : Width) → s.width ≡ w
    → open_message (record { addr = s.addr; width = w; asn = s.asn }) ≡ open_message s
open_at s w is = ap (λ v. open_message (record { addr = s.addr; width = v; asn = s.asn })) (sym is)

pub returns-in-Two-clause-octets : goal.returns-in-Two-clause-octets
returns-in-Two-clause-octets c =
    c.append_narrow.ensures.octets c.args.sender.now.addr ∙ open_at c.args.sender.now Two c.in-Two.is

pub returns-in-Four-clause-octets : goal.returns-in-Four-clause-octets
returns-in-Four-clause-octets c =
    c.append_wide.ensures.octets c.args.sender.now.addr ∙ open_at c.args.sender.now Four c.in-Four.is
