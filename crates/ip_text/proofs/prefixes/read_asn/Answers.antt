use Rattle.std.proofs.Common.{refl, ◌∙◌, arith}
use Rattle.ip_text.proofs.Marks.{rest_whole}
use Rattle.ip_text.proofs.PrefixTexts.{behind_letters}
use Rattle.ip_text.proofs.prefixes.read_asn.Goals as goal

pub returns-in-len2-up-clause-only : goal.returns-in-len2-up-clause-only
returns-in-len2-up-clause-only c number is =
    let letters = c.are_as.ensures.0 c.if-are_as.true in
    c.read_number.ensures.only number (omega (arith, is.0))
    (rest_whole c.args.text.now 2 ∙ behind_letters c.args.text.now number _ _ refl letters is)
