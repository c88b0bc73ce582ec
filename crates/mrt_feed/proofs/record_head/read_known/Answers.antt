use Rattle.std.proofs.Common.{ap, ◌∙◌}
use Rattle.byteorder.specs.Endian.{big_number}
use Rattle.ip_text.proofs.Marks.{rest_whole}
use Rattle.mrt_feed.specs.Records.{number_at, family_says}
use Rattle.mrt_feed.proofs.record_head.read_known.Goals as goal

pub returns : goal.returns
returns c =
    let head = c.args.head.now in
    c.read_family.ensures
    ∙ ap (λ f. family_says c.args.layout.now f c.args.count head)
    (c.read_u16-family.ensures ∙ ap (big_number 2) (rest_whole head c.family_place.result)
    ∙ ap (λ n. number_at n 2 head) c.family_place.ensures.place)
