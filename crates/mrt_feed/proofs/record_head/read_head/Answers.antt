use Rattle.std.proofs.Common.{◌≡◌, ap, sym, ◌∙◌, Some}
use Rattle.byteorder.specs.Endian.{big_number}
use Rattle.ip_text.proofs.Marks.{rest_whole}
use Rattle.mrt_feed.specs.Records.{layout_of, type_of, subtype_of, layout_says, length_of}
use Rattle.mrt_feed.proofs.Heads.{head_known}
use Rattle.mrt_feed.proofs.record_head.read_head.Goals as goal

pub read_known-requires : goal.read_known-requires
read_known-requires c =
    let head = c.args.head.now in
    let type_is : c.read_u16-kind.result ≡ type_of head = c.read_u16-kind.ensures ∙ ap (big_number 2) (rest_whole head 4) in
    let subtype_is : c.read_u16-subkind.result ≡ subtype_of head =
    c.read_u16-subkind.ensures ∙ ap (big_number 2) (rest_whole head 6) in
    head_known head c.in-Some.layout c.requires
    (sym
    (c.layout_of.ensures ∙ ap (λ t. layout_of t c.read_u16-subkind.result) type_is
    ∙ ap (layout_of (type_of head)) subtype_is) ∙ c.in-Some.is)

pub returns-in-Some : goal.returns-in-Some
returns-in-Some c =
    let head = c.args.head.now in
    let type_is : c.read_u16-kind.result ≡ type_of head = c.read_u16-kind.ensures ∙ ap (big_number 2) (rest_whole head 4) in
    let subtype_is : c.read_u16-subkind.result ≡ subtype_of head =
    c.read_u16-subkind.ensures ∙ ap (big_number 2) (rest_whole head 6) in
    let length_is : c.read_u32-count.result ≡ length_of head =
    c.read_u32-count.ensures ∙ ap (big_number 4) (rest_whole head 8) in
    let layout_is : Some c.in-Some.layout ≡ layout_of (type_of head) (subtype_of head) =
    sym c.in-Some.is ∙ c.layout_of.ensures ∙ ap (λ t. layout_of t c.read_u16-subkind.result) type_is
    ∙ ap (layout_of (type_of head)) subtype_is in
    c.read_known.ensures
    ∙ ap (λ n. layout_says (Some c.in-Some.layout) n head) length_is
    ∙ ap (λ o. layout_says o (length_of head) head) layout_is
