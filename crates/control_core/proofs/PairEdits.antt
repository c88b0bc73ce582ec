-- Pairs that come and go, beside the lists that they are told by.
use Rattle.std.proofs.Common.{◌≡◌, ◌⊎◌, ◌↔◌, ℕ, ◌+◌, Bool, true, false, cond, List, [], ◌∷◌, ◌++◌, take, Some}
use Rattle.std.proofs.Common.{Result, Ok, refl, sym, ap, subst, ◌∙◌, inl, inr, add-one}
use Rattle.std.specs.Prelude.{not, slice_get}
use Rattle.std.specs.List.{filter}
use Rattle.urpf_base.specs.Address.{Block}
use Rattle.urpf_base.specs.Lists.{AreDistinct, Has}
use Rattle.urpf_base.specs.declared.kinds.Kind.{Kind}
use Rattle.origin_pairs.proofs.Members.{equal_from_same, same, same_from_equal}
use Rattle.origin_pairs.specs.Pairs.{HasOneMore, IsPairSet, Pair}
use Rattle.router_config.specs.Edits.{edited}
use Rattle.router_config.specs.declared.edits.Edit.{Edit}
use Rattle.router_config.specs.declared.edits.Edit.TheVariants as edit
use Rattle.rpf_plain.proofs.Listed.{pair_edited}
use Rattle.rpf_plain.specs.Engine.{AddsPair, EngineState, RemovesPair}
use Rattle.rpf_plain.specs.World.{roles_of}
use Rattle.control_core.specs.Controls.{EditsSets}
use Rattle.control_core.specs.Loads.{GrowsPairs}
use Rattle.control_core.specs.Worlds.{is_same_pair, pairs_edited}
use Rattle.control_core.proofs.NowWorld.{has_either, has_left, has_right}
use Rattle.control_core.proofs.Places.{take_next}

-- a list is told by itself
pub own_set : (pairs : List Pair) → AreDistinct pairs → IsPairSet pairs pairs
own_set pairs distinct = record { members = λ p. (λ has. has, λ has. has); distinct = distinct }

-- an empty set has no pair
pub none_set : (set : List Pair) → IsPairSet [] set → set ≡ []
none_set [] is = refl
none_set (p ∷ set) is = absurd ((is.members p).0 (inl refl))

-- where the set has one pair more, so has the list
pair_added : (pair : Pair) (pairs old new : List Pair) → IsPairSet pairs old → HasOneMore pair old new
    → IsPairSet (pair ∷ pairs) new
pair_added pair pairs old new is more = record {
  members = λ other. (
    λ has. elim ((more.members other).0 has) [
      | inl here ↦ inl here
      | inr there ↦ inr ((is.members other).0 there)
    ],
    λ has. (more.members other).1
        (elim has [ inl here ↦ inl here | inr later ↦ inr ((is.members other).1 later) ]),
  );
  distinct = more.distinct.1 is.distinct;
}

-- a pair that is there may be told twice
pair_there : (pair : Pair) (pairs old : List Pair) → IsPairSet pairs old → Has old pair → IsPairSet (pair ∷ pairs) old
pair_there pair pairs old is there = record {
  members = λ other. (
    λ has. inr ((is.members other).0 has),
    λ has. elim has [ inl here ↦ subst (Has old) (sym here) there | inr later ↦ (is.members other).1 later ],
  );
  distinct = is.distinct;
}

abbrev without : Pair → List Pair → List Pair
without pair pairs = filter (λ p. not (is_same_pair p pair)) pairs

abbrev kept_if : Pair → List Pair → Bool → List Pair
kept_if p rest gone = cond (not gone) (p ∷ rest) rest

-- all but one pair of a list
in_without : (pair : Pair) (pairs : List Pair) (other : Pair)
    → Has (without pair pairs) other ↔ (Has pairs other × (other ≡ pair → ⊥))
in_without pair [] other = (λ never. absurd never, λ h. absurd h.0)
in_without pair (p ∷ pairs) other =
    by_test (same p pair) refl (in_without pair pairs other)
  where
    by_test : (gone : Bool) → same p pair ≡ gone
        → (Has (without pair pairs) other ↔ (Has pairs other × (other ≡ pair → ⊥)))
        → Has (kept_if p (without pair pairs) gone) other ↔ (Has (p ∷ pairs) other × (other ≡ pair → ⊥))
    by_test true e rest = (
      λ has. let h = rest.0 has in (inr h.0, h.1),
      λ h. elim h.0 [
        | inl here ↦ absurd (h.1 (here ∙ equal_from_same p pair e))
        | inr later ↦ rest.1 (later, h.1)
      ],
    )
    by_test false e rest = (
      λ has. elim has [
        | inl here ↦ (inl here, λ is. let tied = same_from_equal p pair (sym here ∙ is) in cc)
        | inr later ↦ let h = rest.0 later in (inr h.0, h.1)
      ],
      λ h. elim h.0 [ inl here ↦ inl here | inr later ↦ inr (rest.1 (later, h.1)) ],
    )

-- where the set has one pair less, so has the list
pair_removed : (pair : Pair) (pairs old new : List Pair) → IsPairSet pairs old → HasOneMore pair new old
    → IsPairSet (without pair pairs) new
pair_removed pair pairs old new is less = record {
  members = λ other. (
    λ has. (in_without pair pairs other).1
        ((is.members other).0 ((less.members other).1 (inr has)), λ here. less.fresh (subst (Has new) here has)),
    λ has.
        let h = (in_without pair pairs other).0 has in
        elim ((less.members other).0 ((is.members other).1 h.0)) [ inl here ↦ absurd (h.1 here) | inr there ↦ there ],
  );
  distinct = less.distinct.0 is.distinct;
}

-- a pair that is not there goes from no list
pair_absent : (pair : Pair) (pairs old : List Pair) → IsPairSet pairs old → (Has old pair → ⊥)
    → IsPairSet (without pair pairs) old
pair_absent pair pairs old is never = record {
  members = λ other. (
    λ has. (in_without pair pairs other).1 ((is.members other).0 has, λ here. never (subst (Has old) here has)),
    λ has. (is.members other).1 ((in_without pair pairs other).0 has).0,
  );
  distinct = is.distinct;
}

-- a pair was added, or was there
abbrev pub AddsOrHas : Pair → EngineState → EngineState → Type 0
AddsOrHas pair old new = AddsPair pair old new ⊎ (Has old.world.pairs pair × (new ≡ old))

pub added_or_there : {E : Type 0} (result : Result Bool E) (new_pair : Bool) (pair : Pair) (old new : EngineState)
    → result ≡ Ok new_pair → (result ≡ Ok true → AddsPair pair old new)
    → (result ≡ Ok false → Has old.world.pairs pair × (new ≡ old)) → AddsOrHas pair old new
added_or_there result true pair old new is added there = inl (added is)
added_or_there result false pair old new is added there = inr (there is)

-- a pair was removed, or was not there
abbrev pub RemovesOrLacks : Pair → EngineState → EngineState → Type 0
RemovesOrLacks pair old new = RemovesPair pair old new ⊎ ((Has old.world.pairs pair → ⊥) × (new ≡ old))

pub removed_or_absent : (result : Bool) (pair : Pair) (old new : EngineState)
    → (result ≡ true → RemovesPair pair old new)
    → (result ≡ false → (Has old.world.pairs pair → ⊥) × (new ≡ old)) → RemovesOrLacks pair old new
removed_or_absent true pair old new removed absent = inl (removed refl)
removed_or_absent false pair old new removed absent = inr (absent refl)

-- the list with the pair tells the set
set_added : (pair : Pair) (pairs : List Pair) (old new : EngineState) → AddsOrHas pair old new
    → IsPairSet pairs old.world.pairs → IsPairSet (pair ∷ pairs) new.world.pairs
set_added pair pairs old new (inl adds) is = pair_added pair pairs old.world.pairs new.world.pairs is adds.pairs
set_added pair pairs old new (inr (there, still)) is =
    subst (λ (e : EngineState). IsPairSet (pair ∷ pairs) e.world.pairs) (sym still)
    (pair_there pair pairs old.world.pairs is there)

set_removed : (pair : Pair) (pairs : List Pair) (old new : EngineState) → RemovesOrLacks pair old new
    → IsPairSet pairs old.world.pairs → IsPairSet (without pair pairs) new.world.pairs
set_removed pair pairs old new (inl removes) is =
    pair_removed pair pairs old.world.pairs new.world.pairs is removes.pairs
set_removed pair pairs old new (inr (never, still)) is =
    subst (λ (e : EngineState). IsPairSet (without pair pairs) e.world.pairs) (sym still)
    (pair_absent pair pairs old.world.pairs is never)

-- all of the engine but its pairs is as it was
pub grows_still : (old new : EngineState) → new ≡ old → GrowsPairs old new
grows_still old new still = record {
  rows = ap (λ (e : EngineState). e.world.rows) still;
  roles = ap (λ (e : EngineState). e.world.roles) still;
  distinct = subst (λ (e : EngineState). AreDistinct e.world.pairs) (sym still);
  base = ap (λ (e : EngineState). e.base) still;
}

pub grows_one : (pair : Pair) (old new : EngineState) → AddsOrHas pair old new → GrowsPairs old new
grows_one pair old new (inl adds) = record {
  rows = adds.rows;
  roles = adds.roles;
  distinct = adds.pairs.distinct.1;
  base = adds.base;
}
grows_one pair old new (inr (there, still)) = grows_still old new still

pub grows_on : (old mid new : EngineState) → GrowsPairs old mid → GrowsPairs mid new → GrowsPairs old new
grows_on old mid new first second = record {
  rows = second.rows ∙ first.rows;
  roles = second.roles ∙ first.roles;
  distinct = λ distinct. second.distinct (first.distinct distinct);
  base = second.base ∙ first.base;
}

-- the place of a pair in the list does not count
told_behind : (pair : Pair) (pairs set : List Pair) → IsPairSet (pair ∷ pairs) set → IsPairSet (pairs ++ pair ∷ []) set
told_behind pair pairs set is = record {
  members = λ other. (
    λ has. elim ((is.members other).0 has) [
      | inl here ↦ has_right pairs (pair ∷ []) other (inl here)
      | inr there ↦ has_left pairs (pair ∷ []) other there
    ],
    λ has. (is.members other).1
        (elim (has_either pairs (pair ∷ []) other has) [
          | inl there ↦ inr there
          | inr last ↦ elim last [ inl here ↦ inl here | inr never ↦ absurd never ]
        ]),
  );
  distinct = is.distinct;
}

-- one pair more of a table is there
pub one_loaded : (table : List Pair) (k : ℕ) (pair : Pair) (old new : EngineState) → slice_get table k ≡ Some pair
    → AddsOrHas pair old new → IsPairSet (take k table) old.world.pairs
    → IsPairSet (take (k + 1) table) new.world.pairs
one_loaded table k pair old new there adds is =
    let more : take (k + 1) table ≡ take k table ++ pair ∷ [] =
    ap (λ n. take n table) (add-one k) ∙ take_next table k pair there in
    subst (λ (ps : List Pair). IsPairSet ps new.world.pairs) (sym more)
    (told_behind pair (take k table) new.world.pairs (set_added pair (take k table) old new adds is))

-- an edit of a pair leaves all but the pairs
by_pair : (change : Edit) (old new : EngineState) → GrowsPairs old new
    → ((kinds : List (ℕ × Kind)) → roles_of (edited change kinds) ≡ roles_of kinds)
    → ((pairs : List Pair) → IsPairSet pairs old.world.pairs → IsPairSet (pairs_edited change pairs) new.world.pairs)
    → EditsSets change old new
by_pair change old new rest kinds pairs = record {
  rows = rest.rows;
  roles = λ ks were. rest.roles ∙ were ∙ sym (kinds ks);
  pairs = pairs;
  base = rest.base;
}

pub adds_edit : (prefix : Block) (asn : ℕ) (old new : EngineState) → AddsOrHas (prefix, asn) old new
    → EditsSets (edit.PairAdd prefix asn) old new
adds_edit prefix asn old new adds =
    by_pair (edit.PairAdd prefix asn) old new (grows_one (prefix, asn) old new adds)
    (λ kinds. (pair_edited kinds prefix asn).0) (λ pairs is. set_added (prefix, asn) pairs old new adds is)

shrinks : (pair : Pair) (old new : EngineState) → RemovesOrLacks pair old new → GrowsPairs old new
shrinks pair old new (inl removes) = record {
  rows = sym removes.rows;
  roles = sym removes.roles;
  distinct = removes.pairs.distinct.0;
  base = sym removes.base;
}
shrinks pair old new (inr (never, still)) = grows_still old new still

pub removes_edit : (prefix : Block) (asn : ℕ) (old new : EngineState) → RemovesOrLacks (prefix, asn) old new
    → EditsSets (edit.PairDel prefix asn) old new
removes_edit prefix asn old new removes =
    by_pair (edit.PairDel prefix asn) old new (shrinks (prefix, asn) old new removes)
    (λ kinds. (pair_edited kinds prefix asn).1) (λ pairs is. set_removed (prefix, asn) pairs old new removes is)
