use Rattle.std.proofs.Common.{◌≡◌, Some, None, sym, subst}
use Rattle.ip_text.specs.Prefixes.{SpellsAsn, SpellsPrefix}
use Rattle.runbook.specs.declared.saying.Said.TheVariants as said
use Rattle.runbook.specs.Says.{pair_word}
use Rattle.runbook.proofs.Sayings.{tail}
use Rattle.runbook.proofs.saying.read_pair.Goals as goal

pub returns-in_default-read_prefix-clause-only : goal.returns-in_default-read_prefix-clause-only
returns-in_default-read_prefix-clause-only c act prefix asn h =
    let same = c.in-Some.ensures.only (pair_word act) h.0 h.1 (tail h.4) in
    let read : None ≡ Some prefix =
    c.in_default-read_prefix.ensures.only prefix (subst (λ t. SpellsPrefix t prefix) (sym same.1) h.2) in
    cc

pub returns-clause-only : goal.returns-clause-only
returns-clause-only c act prefix asn h =
    let same = c.in-Some.ensures.only (pair_word act) h.0 h.1 (tail h.4) in
    let way : Some c.in-Some-read_pair_act.act ≡ Some act = c.in-Some-read_pair_act.ensures.only act same.0 in
    let block : Some c.in-Some-read_prefix.prefix ≡ Some prefix =
    c.in-Some-read_prefix.ensures.only prefix (subst (λ t. SpellsPrefix t prefix) (sym same.1) h.2) in
    let number : Some c.in-Some-read_asn.asn ≡ Some asn =
    c.in-Some-read_asn.ensures.only asn (subst (λ t. SpellsAsn t asn) (sym same.2) h.3) in
    let same_way : c.in-Some-read_pair_act.act ≡ act = cc in
    let same_block : c.in-Some-read_prefix.prefix ≡ prefix = cc in
    let same_number : c.in-Some-read_asn.asn ≡ asn = cc in
    λ i. Some (said.Pair (same_way i) (same_block i) (same_number i))
