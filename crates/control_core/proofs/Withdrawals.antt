-- A walk over withdrawn prefixes that takes those out that are not announced too.
use Rattle.std.proofs.Common.{◌≡◌, ◌⊎◌, List, [], ◌∷◌, None, inl, inr, sym, ap, subst, ◌∙◌, refl}
use Rattle.urpf_base.specs.Address.{Block}
use Rattle.urpf_base.specs.Lists.{Has}
use Rattle.urpf_base.proofs.Membership.{has_or_not, same_block}
use Rattle.adj_rib.specs.Routes.{ChangesAt, Routes, routes_at}

-- of all prefixes, those that are neither announced nor still to come are gone, and no other prefix was changed
pub record IsWithdrawing (announced all left : List Block) (old now : Routes) : Type 0 where
  pub gone : (p : Block) → Has all p → (Has announced p → ⊥) → Has left p ⊎ (routes_at now p ≡ None)
  pub kept : (p : Block) → Has announced p → routes_at now p ≡ routes_at old p
  pub silent : (p : Block) → (Has all p → ⊥) → routes_at now p ≡ routes_at old p
  pub part : (p : Block) → Has left p → Has all p

pub withdrawing_begins : (announced all : List Block) (old : Routes) → IsWithdrawing announced all all old old
withdrawing_begins announced all old = record {
  gone = λ p has other. inl has;
  kept = λ p has. refl;
  silent = λ p never. refl;
  part = λ p has. has;
}

-- the next one is not announced, and is taken out
taken_out : (announced all rest : List Block) (x : Block) (old now next : Routes)
    → IsWithdrawing announced all (x ∷ rest) old now → (Has announced x → ⊥) → ChangesAt x None now next
    → IsWithdrawing announced all rest old next
taken_out announced all rest x old now next walk fresh change = record {
  gone = λ p has other.
      elim (same_block p x) [
        | inl same ↦ inr (ap (routes_at next) same ∙ change.here)
        | inr apart ↦ elim (walk.gone p has other) [
          | inl ahead ↦ elim ahead [ inl same ↦ absurd (apart same) | inr later ↦ inl later ]
          | inr none ↦ inr (change.others p apart ∙ none)
        ]
      ];
  kept = λ p has.
      change.others p (λ same. fresh (subst (Has announced) same has)) ∙ walk.kept p has;
  silent = λ p never.
      change.others p (λ same. never (walk.part p (inl same))) ∙ walk.silent p never;
  part = λ p has. walk.part p (inr has);
}

-- the next one is announced, and stays
passed_over : (announced all rest : List Block) (x : Block) (old now next : Routes)
    → IsWithdrawing announced all (x ∷ rest) old now → Has announced x → next ≡ now
    → IsWithdrawing announced all rest old next
passed_over announced all rest x old now next walk has_x same_routes =
    let on : IsWithdrawing announced all rest old now = record {
      gone = λ p has other.
          elim (walk.gone p has other) [
            | inl ahead ↦ elim ahead [
              | inl same ↦ absurd (other (subst (Has announced) (sym same) has_x))
              | inr later ↦ inl later
            ]
            | inr none ↦ inr none
          ];
      kept = walk.kept;
      silent = walk.silent;
      part = λ p has. walk.part p (inr has);
    } in
    subst (IsWithdrawing announced all rest old) (sym same_routes) on

pub withdrawing_goes_on : (announced all rest : List Block) (x : Block) (old now next : Routes)
    → IsWithdrawing announced all (x ∷ rest) old now
    → ((Has announced x → ⊥) → ChangesAt x None now next) → (Has announced x → next ≡ now)
    → IsWithdrawing announced all rest old next
withdrawing_goes_on announced all rest x old now next walk gone kept =
    elim (has_or_not announced x) [
      | inl has ↦ passed_over announced all rest x old now next walk has (kept has)
      | inr never ↦ taken_out announced all rest x old now next walk never (gone never)
    ]

none_left : (p : Block) (now : Routes) → Has [] p ⊎ (routes_at now p ≡ None) → routes_at now p ≡ None
none_left p now (inl never) = absurd never
none_left p now (inr none) = none

pub withdrawing_ends : (announced all left : List Block) (old now : Routes) → left ≡ []
    → IsWithdrawing announced all left old now → (p : Block) → Has all p → (Has announced p → ⊥)
    → routes_at now p ≡ None
withdrawing_ends announced all left old now end walk p has other =
    none_left p now (subst (λ (qs : List Block). Has qs p ⊎ (routes_at now p ≡ None)) end (walk.gone p has other))
