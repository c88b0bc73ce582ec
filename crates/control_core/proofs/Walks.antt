-- A walk over prefixes that gives each of them one value in a table of routes.
use Rattle.std.proofs.Common.{◌≡◌, ◌⊎◌, ℕ, List, [], ◌∷◌, Option, inl, inr, sym, subst, ◌∙◌, refl}
use Rattle.urpf_base.specs.Address.{Block}
use Rattle.urpf_base.specs.Lists.{Has}
use Rattle.urpf_base.proofs.Membership.{same_block}
use Rattle.adj_rib.specs.Routes.{Routes, routes_at, ChangesAt}

-- of all prefixes, those that are not still to come have the value, and no other prefix was changed
pub record IsUnderWay (all left : List Block) (value : Option (Option ℕ)) (old now : Routes) : Type 0 where
  pub set : (p : Block) → Has all p → Has left p ⊎ (routes_at now p ≡ value)
  pub others : (p : Block) → (Has all p → ⊥) → routes_at now p ≡ routes_at old p
  pub part : (p : Block) → Has left p → Has all p

pub walk_begins : (all : List Block) (value : Option (Option ℕ)) (old : Routes) → IsUnderWay all all value old old
walk_begins all value old = record {
  set = λ p has. inl has;
  others = λ p never. refl;
  part = λ p has. has;
}

still_set : (x p : Block) (rest : List Block) (value : Option (Option ℕ)) (now next : Routes)
    → ChangesAt x value now next → Has (x ∷ rest) p ⊎ (routes_at now p ≡ value)
    → Has rest p ⊎ (routes_at next p ≡ value)
still_set x p rest value now next change (inl (inl same)) =
    inr (subst (λ (q : Block). routes_at next q ≡ value) (sym same) change.here)
still_set x p rest value now next change (inl (inr later)) = inl later
still_set x p rest value now next change (inr is) =
    elim (same_block p x) [
      | inl same ↦ inr (subst (λ (q : Block). routes_at next q ≡ value) (sym same) change.here)
      | inr other ↦ inr (change.others p other ∙ is)
    ]

pub walk_goes_on : (all rest : List Block) (x : Block) (value : Option (Option ℕ)) (old now next : Routes)
    → IsUnderWay all (x ∷ rest) value old now → ChangesAt x value now next → IsUnderWay all rest value old next
walk_goes_on all rest x value old now next walk change = record {
  set = λ p has. still_set x p rest value now next change (walk.set p has);
  others = λ p never. change.others p (λ same. never (walk.part p (inl same))) ∙ walk.others p never;
  part = λ p has. walk.part p (inr has);
}

none_left : (p : Block) (value : Option (Option ℕ)) (now : Routes) → Has [] p ⊎ (routes_at now p ≡ value)
    → routes_at now p ≡ value
none_left p value now (inl never) = absurd never
none_left p value now (inr is) = is

pub walk_ends : (all left : List Block) (value : Option (Option ℕ)) (old now : Routes) → left ≡ []
    → IsUnderWay all left value old now → (p : Block) → Has all p → routes_at now p ≡ value
walk_ends all left value old now end walk p has =
    none_left p value now (subst (λ (qs : List Block). Has qs p ⊎ (routes_at now p ≡ value)) end (walk.set p has))
