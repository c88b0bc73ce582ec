use Rattle.std.proofs.Common.{subst, ◌∙◌}
use Rattle.std.specs.Prelude.{IfOk}
use Rattle.std.specs.BTreeMap.{IsFromIterResult}
use Rattle.std.proofs.lemmas.Iterator.Adapters.{YieldsList-from_vec, fact_from_collect}
use Rattle.prefix_map.proofs.builder.map_of.Goals as goal

pub returns : goal.returns
returns g c =
    subst (λ r. IfOk r (IsFromIterResult g.K.Ord.cmp c.args.pairs.items)) c.in-Ok.is
    (fact_from_collect (IsFromIterResult g.K.Ord.cmp) c.collect.result c.collect.ensures.ran
    (YieldsList-from_vec c.args.pairs.items c.into_iter.ensures.rest (c.into_iter.ensures.len ∙ c.args.pairs.ok.0)))
