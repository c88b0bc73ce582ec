-- A walk over rows: what was found in the rows so far, and what is found in those to come, is all.
use Rattle.std.proofs.Common.{◌≡◌, ◌≢◌, ◌⊎◌, ◌↔◌, inl, inr, ℕ, List, [], ◌∷◌, refl, sym, subst, arith, IsTrue, true}
use Rattle.std.proofs.Common.{ap, false}
use Rattle.std.proofs.lemmas.Bool.{cases_eq}
use Rattle.urpf_base.specs.Masks.{InMask}
use Rattle.urpf_base.specs.declared.cells.Cell.{Cell}
use Rattle.rpf_plain.specs.Cells.{empty_cell}
use Rattle.rpf_plain.specs.declared.rows.Row.{Row}
use Rattle.rpf_plain.specs.Walks.{SomeRow}

-- no interface is a member of the empty set
pub no_member : (i : ℕ) → ¬ InMask 0 i
no_member i h = absurd (grind arith)

-- a set with a member is not empty
pub not_empty : (m i : ℕ) → InMask m i → ¬ (m ≡ 0)
not_empty m i h e = no_member i (subst (λ n. InMask n i) e h)

-- a cell whose set of interfaces has a member is not the empty one
pub some_cell : (c : Cell) (i : ℕ) → InMask c.f i → ¬ (c ≡ empty_cell)
some_cell c i h e = not_empty c.f i h (ap (λ x. x.f) e)

-- one more row was looked at
pub moved : {A H R T N : Type 0} → ((A ⊎ (H ⊎ R)) ↔ T) → (N ↔ (A ⊎ H)) → ((N ⊎ R) ↔ T)
moved all new = (
  λ h. elim h [
    | inl n ↦ elim (new.0 n) [ inl a ↦ all.0 (inl a) | inr b ↦ all.0 (inr (inl b)) ]
    | inr r ↦ all.0 (inr (inr r))
  ],
  λ t. elim (all.1 t) [
    | inl a ↦ inl (new.1 (inl a))
    | inr rest ↦ elim rest [ inl b ↦ inl (new.1 (inr b)) | inr r ↦ inr r ]
  ],
)

-- nothing was found yet
pub begun : {A R : Type 0} → (A → ⊥) → ((A ⊎ R) ↔ R)
begun none = (λ h. elim h [ inl a ↦ absurd (none a) | inr r ↦ r ], λ r. inr r)

-- no rows are to come
pub done : {A R T : Type 0} → ((A ⊎ R) ↔ T) → (R → ⊥) → (A ↔ T)
done all none = (
  λ a. all.0 (inl a),
  λ t. elim (all.1 t) [ inl a ↦ a | inr r ↦ absurd (none r) ],
)

pub no_row : (Is : Row → Type 0) (rows : List Row) → rows ≡ [] → ¬ SomeRow Is rows
no_row Is [] e h = h
no_row Is (row ∷ rows) e h = cc

-- a set with a member more
pub with_member : (m n id : ℕ) → InMask n id → ((i : ℕ) → i ≢ id → (InMask n i ↔ InMask m i)) → (i : ℕ)
    → (InMask n i ↔ (InMask m i ⊎ (id ≡ i)))
with_member m n id added others i =
    elim (cases_eq i id) [
      | inl same ↦ (λ h. inr (sym same), λ h. subst (λ k. InMask n k) (sym same) added)
      | inr other ↦ (
        λ h. inl ((others i other).0 h),
        λ h. elim h [ inl a ↦ (others i other).1 a | inr e ↦ absurd (other (sym e)) ],
      )
    ]

-- what is told of a row is told by other words
pub either_by : {A E G H N : Type 0} → (N ↔ (A ⊎ (E × G))) → (G ↔ H) → (N ↔ (A ⊎ (E × H)))
either_by told same = (
  λ n. elim (told.0 n) [ inl a ↦ inl a | inr (e, g) ↦ inr (e, same.0 g) ],
  λ h. told.1 (elim h [ inl a ↦ inl a | inr (e, g) ↦ inr (e, same.1 g) ]),
)

-- on either side by other words
pub sides : {A B C D : Type 0} → (A ↔ B) → (C ↔ D) → ((A ⊎ C) ↔ (B ⊎ D))
sides f g = (
  λ h. elim h [ inl a ↦ inl (f.0 a) | inr c ↦ inr (g.0 c) ],
  λ h. elim h [ inl b ↦ inl (f.1 b) | inr d ↦ inr (g.1 d) ],
)

-- one after the other
pub both : {A B C : Type 0} → (A ↔ B) → (B ↔ C) → (A ↔ C)
both f g = (λ a. g.0 (f.0 a), λ c. f.1 (g.1 c))

-- a row that is not so was passed over
pub passed : {H R T : Type 0} → ((H ⊎ R) ↔ T) → (H → ⊥) → (R ↔ T)
passed all none = (
  λ r. all.0 (inr r),
  λ t. elim (all.1 t) [ inl h ↦ absurd (none h) | inr r ↦ r ],
)

-- no row was so
pub never : {R T : Type 0} → (R ↔ T) → (R → ⊥) → (IsTrue false ↔ T)
never all none = (λ h. absurd cc, λ t. absurd (none (all.1 t)))

-- this row is so
pub one_is : {H R T : Type 0} → ((H ⊎ R) ↔ T) → H → (IsTrue true ↔ T)
one_is all is = (λ _. all.0 (inl is), λ _. refl)

-- what is known of all rows is known with what is to come
pub known : {A H R N T : Type 0} → ((A ⊎ (H ⊎ R)) ↔ T) → (N ↔ T) → ((N ⊎ R) ↔ T)
known all whole = (
  λ h. elim h [ inl n ↦ whole.0 n | inr r ↦ all.0 (inr (inr r)) ],
  λ t. inl (whole.1 t),
)

-- a row that is not so was passed over, and what was found before is as it was
pub passed_over : {A H R T : Type 0} → ((A ⊎ (H ⊎ R)) ↔ T) → (H → ⊥) → ((A ⊎ R) ↔ T)
passed_over all none = (
  λ h. elim h [ inl a ↦ all.0 (inl a) | inr r ↦ all.0 (inr (inr r)) ],
  λ t. elim (all.1 t) [
    | inl a ↦ inl a
    | inr rest ↦ elim rest [ inl h ↦ absurd (none h) | inr r ↦ inr r ]
  ],
)
