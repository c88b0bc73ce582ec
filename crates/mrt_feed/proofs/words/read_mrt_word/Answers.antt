use Rattle.std.proofs.Common.{◌≡◌, ◌∷◌, ◌+◌, length, None, Some, ap, sym, ◌∙◌, refl, subst}
use Rattle.ip_text.specs.Texts.{SpellsAddr}
use Rattle.mrt_feed.proofs.Cuts.{same_spec, some_octets}
use Rattle.mrt_feed.proofs.words.read_mrt_word.Goals as goal

pub returns-in_default-cut_last-clause-only : goal.returns-in_default-cut_last-clause-only
returns-in_default-cut_last-clause-only c spec is =
    absurd (c.in_default-cut_last.ensures.only is.file is.peer (c.in-Some.ensures.only _ is.parts) is.last)

pub returns-in_default-read_addr-clause-only : goal.returns-in_default-read_addr-clause-only
returns-in_default-read_addr-clause-only c spec is =
    let cut = c.in-Some-cut_last.ensures.only is.file is.peer (c.in-Some.ensures.only _ is.parts) is.last in
    let read : None ≡ Some spec.peer =
    c.in_default-read_addr.ensures.only spec.peer (subst (λ t. SpellsAddr t spec.peer) (sym cut.1) is.spelled) in
    cc

pub returns-clause-found : goal.returns-clause-found
returns-clause-found c = record {
  file = c.in-Some-cut_last.file.now;
  peer = c.in-Some-cut_last.addr.now;
  parts = c.in-Some.ensures.found ∙ ap (λ xs. 109 ∷ 114 ∷ 116 ∷ 58 ∷ xs) c.in-Some-cut_last.ensures.found.0;
  last = c.in-Some-cut_last.ensures.found.1;
  some = some_octets (length c.in-Some-cut_last.file.now) (sym c.is_empty.ensures ∙ c.if-is_empty.false);
  spelled = c.in-Some-read_addr.ensures.found;
  from_is = refl;
  to_is = refl;
}

pub returns-clause-only : goal.returns-clause-only
returns-clause-only c spec is =
    let cut = c.in-Some-cut_last.ensures.only is.file is.peer (c.in-Some.ensures.only _ is.parts) is.last in
    same_spec spec c.in-Some-read_addr.peer (4 + length c.in-Some-cut_last.file.now) is.from_is
    (c.in-Some-read_addr.ensures.only spec.peer (subst (λ t. SpellsAddr t spec.peer) (sym cut.1) is.spelled))
    (ap (λ f. 4 + length f) cut.0 ∙ sym is.to_is)
