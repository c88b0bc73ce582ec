use Rattle.std.proofs.Common.{◌+◌, refl, sym, subst}
use Rattle.std.specs.Str.Iter.{LacksByte}
use Rattle.ip_text.proofs.Marks.{rest_whole}
use Rattle.mrt_feed.proofs.Cuts.{last_found, last_only, last_never}
use Rattle.mrt_feed.proofs.words.cut_last.Goals as goal

pub returns-in_default-clause-only : goal.returns-in_default-clause-only
returns-in_default-clause-only c file peer parts lacks =
    absurd (last_never 64 c.args.text.now file peer (c.in_default.ensures.none refl) parts)

pub returns-clause-found : goal.returns-clause-found
returns-clause-found c = (
  last_found 64 c.in-Some.place c.args.text.now c.in-Some.ensures.bound c.in-Some.ensures.found.0,
  subst (LacksByte 64) (sym (rest_whole c.args.text.now (c.in-Some.place + 1))) c.in-Some.ensures.found.1,
)

pub returns-clause-only : goal.returns-clause-only
returns-clause-only c file peer parts lacks =
    last_only 64 c.in-Some.place c.args.text.now file peer c.in-Some.ensures.bound c.in-Some.ensures.found.0
    c.in-Some.ensures.found.1 parts lacks
