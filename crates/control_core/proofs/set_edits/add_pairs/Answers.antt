use Rattle.std.proofs.Common.{◌≡◌, [], List, refl, sym, subst, arith, take}
use Rattle.std.proofs.lemmas.List.{take_all}
use Rattle.origin_pairs.specs.Pairs.{IsPairSet, Pair}
use Rattle.control_core.specs.Loads.{GrowsPairs}
use Rattle.control_core.proofs.PairEdits.{AddsOrHas, added_or_there, grows_on, grows_one, grows_still, one_loaded, own_set}
use Rattle.control_core.proofs.set_edits.add_pairs.Goals as goal

pub loop-k-init : goal.loop-k-init
loop-k-init g c = record {
  told = subst (λ (ps : List Pair). IsPairSet [] ps) (sym c.requires) (own_set [] tt);
  grows = grows_still c.args.sets.now c.args.sets.now refl;
}

pub loop-k-preserved : goal.loop-k-preserved
loop-k-preserved g c =
    let l = c.loop-k in
    let pair : Pair = c.pair-prefix.result in
    let adds : AddsOrHas pair l.sets c.add_pair.new.self =
    added_or_there c.add_pair.result c.in_ok-add_pair.field-0 pair l.sets c.add_pair.new.self c.in_ok-add_pair.was
    c.add_pair.ensures.added c.add_pair.ensures.there in
    record {
      told = one_loaded c.args.pairs.now.pairs l.k pair l.sets c.add_pair.new.self c.pair-prefix.ensures adds
          l.invariant.told;
      grows = grows_on c.args.sets.now l.sets c.add_pair.new.self l.invariant.grows
          (grows_one pair l.sets c.add_pair.new.self adds);
    }

pub returns-in_err-add_pair-clause-grows : goal.returns-in_err-add_pair-clause-grows
returns-in_err-add_pair-clause-grows g c =
    subst (GrowsPairs c.args.sets.now) (sym c.in_err-add_pair.ensures.err) c.loop-k.invariant.grows

pub returns-clause-ok : goal.returns-clause-ok
returns-clause-ok g c =
    let table = c.args.pairs.now.pairs in
    let all : take c.loop-k.k table ≡ table = take_all c.loop-k.k table (omega (arith, c.len-k-end.ensures)) in
    subst (λ (ps : List Pair). IsPairSet ps c.loop-k.sets.world.pairs) all c.loop-k.invariant.told

pub returns-clause-grows : goal.returns-clause-grows
returns-clause-grows g c = c.loop-k.invariant.grows
