-- Prefixes whose cell is another in one of two tables side by side.
use Rattle.std.proofs.Common.{◌≡◌, ◌⊎◌, ◌↔◌, inl, inr, ℕ, Bool, true, false, List, [], ◌∷◌, ◌++◌, Option, Some, None}
use Rattle.std.proofs.Common.{refl, sym, ap, subst, ◌∙◌}
use Rattle.std.specs.FinMap.{entries, get}
use Rattle.std.proofs.lemmas.Bool.{cases_eq}
use Rattle.urpf_base.specs.Cells.{AllBefore, AreAscending}
use Rattle.urpf_base.specs.Lists.{Has}
use Rattle.urpf_base.specs.Order.{IsBefore}
use Rattle.urpf_base.proofs.Ascending.{AreAscending-push}
use Rattle.prefix_map.specs.Beside.{beside, either}
use Rattle.prefix_map.specs.Mapped.{Mapped}
use Rattle.prefix_map.proofs.Sides.{beside_pairs}
use Rattle.urpf_base.specs.Address.{Block}
use Rattle.urpf_base.specs.declared.cells.Cell.{Cell}
use Rattle.urpf_base.specs.declared.cells.CellChange.{CellChange}
use Rattle.rpf_plain.specs.Cells.{cell_at, cell_or_empty}
use Rattle.rpf_plain.proofs.Members.{has_append}

abbrev pub change : Block → Cell → CellChange
change p c = record { prefix = p; cell = c }

abbrev pub Pairs : Type 0
Pairs = List (Block × (Option Cell × Option Cell))

-- the prefix has this cell on the right, and another on the left
abbrev pub IsChange : Block → Cell → Block × (Option Cell × Option Cell) → Type 0
IsChange p c e = (e.0 ≡ p) × (cell_or_empty e.1.1 ≡ c) × ¬ (cell_or_empty e.1.0 ≡ c)

abbrev pub HasChange : Pairs → Block → Cell → Type 0
HasChange [] p c = ⊥
HasChange (e ∷ es) p c = IsChange p c e ⊎ HasChange es p c

same_number : (a b : ℕ) → (a ≡ b) ⊎ (¬ (a ≡ b))
same_number a b = cases_eq a b

same_bool : (a b : Bool) → (a ≡ b) ⊎ (¬ (a ≡ b))
same_bool true true = inl refl
same_bool true false = inr (λ e. cc)
same_bool false true = inr (λ e. cc)
same_bool false false = inl refl

-- two cells are one or they are not
pub same_or_other : (a b : Cell) → (a ≡ b) ⊎ (¬ (a ≡ b))
same_or_other a b =
    elim (same_number a.f b.f) [
      | inr other ↦ inr (λ e. other (ap (λ x. x.f) e))
      | inl f ↦ elim (same_number a.a b.a) [
        | inr other ↦ inr (λ e. other (ap (λ x. x.a) e))
        | inl m ↦ elim (same_bool a.z b.z) [
          | inr other ↦ inr (λ e. other (ap (λ x. x.z) e))
          | inl z ↦ inl (λ i. record { f = f i; a = m i; z = z i })
        ]
      ]
    ]

AllBefore-push : (xs : List CellChange) (x : CellChange) (q : Block) → AllBefore xs q → IsBefore x.prefix q
    → AllBefore (xs ++ x ∷ []) q
AllBefore-push [] x q all last = (last, tt)
AllBefore-push (y ∷ xs) x q all last = (all.0, AllBefore-push xs x q all.1 last)

-- what is known of the changes once a prefix was looked at
pub record AreNoted (old new : List CellChange) (prefix : Block) (before now : Cell) : Type 0 where
  pub ascending : AreAscending old → AreAscending new
  pub behind : (q : Block) → AllBefore old q → IsBefore prefix q → AllBefore new q
  pub each : (p : Block) (c : Cell)
      → (Has new (change p c) ↔ (Has old (change p c) ⊎ ((prefix ≡ p) × (now ≡ c) × ¬ (before ≡ c))))

pub noted : (old new : List CellChange) (prefix : Block) (before now : Cell) → AllBefore old prefix
    → (before ≡ now → new ≡ old) → (¬ (before ≡ now) → new ≡ old ++ change prefix now ∷ [])
    → AreNoted old new prefix before now
noted old new prefix before now first kept longer =
    elim (same_or_other before now) [
      | inl same ↦
          let is = kept same in
          record {
            ascending = subst AreAscending (sym is);
            behind = λ q all _. subst (λ l. AllBefore l q) (sym is) all;
            each = λ p c. (
              λ h. inl (subst (λ l. Has l (change p c)) is h),
              λ h. elim h [
                | inl there ↦ subst (λ l. Has l (change p c)) (sym is) there
                | inr one ↦ absurd (one.2 (same ∙ one.1))
              ],
            );
          }
      | inr other ↦
          let is = longer other in
          record {
            ascending = λ h. subst AreAscending (sym is) (AreAscending-push old (change prefix now) h first);
            behind = λ q all later. subst (λ l. AllBefore l q) (sym is)
                (AllBefore-push old (change prefix now) q all later);
            each = λ p c.
                let parts = has_append old (change prefix now ∷ []) (change p c) in (
                  λ h. elim (parts.0 (subst (λ l. Has l (change p c)) is h)) [
                    | inl there ↦ inl there
                    | inr last ↦ elim last [
                      | inl one ↦
                          let cell : c ≡ now = ap (λ x. x.cell) one in
                          inr (sym (ap (λ x. x.prefix) one), sym cell, λ e. other (e ∙ cell))
                      | inr none ↦ absurd none
                    ]
                  ],
                  λ h. subst (λ l. Has l (change p c)) (sym is) (parts.1 (elim h [
                    | inl there ↦ inl there
                    | inr one ↦ inr (inl (λ i. change (sym one.0 i) (sym one.1 i)))
                  ])),
                );
          }
    ]

abbrev left_of : Option (Option Cell × Option Cell) → Option Cell
left_of None = None
left_of (Some sides) = sides.0

abbrev right_of : Option (Option Cell × Option Cell) → Option Cell
right_of None = None
right_of (Some sides) = sides.1

by_either : (a b v w : Option Cell) → either a b ≡ Some (v, w) → (v ≡ a) × (w ≡ b)
by_either None None v w e = absurd cc
by_either None (Some y) v w e = (sym (ap left_of e), sym (ap right_of e))
by_either (Some x) b v w e = (sym (ap left_of e), sym (ap right_of e))

in_either : (a b : Option Cell) (c : Cell) → c ≡ cell_or_empty b → ¬ (c ≡ cell_or_empty a) → either a b ≡ Some (a, b)
in_either None None c here other = absurd (other here)
in_either None (Some y) c here other = refl
in_either (Some x) b c here other = refl

the_pair : (es : Pairs) (p : Block) (c : Cell) → HasChange es p c
    → (v : Option Cell) × (w : Option Cell) × Has es (p, (v, w)) × (cell_or_empty w ≡ c) × ¬ (cell_or_empty v ≡ c)
the_pair [] p c h = absurd h
the_pair (e ∷ es) p c (inl here) = (e.1.0, e.1.1, inl (λ i. (sym here.0 i, (e.1.0, e.1.1))), here.1, here.2)
the_pair (e ∷ es) p c (inr later) =
    let (v, w, has, is, other) = the_pair es p c later in (v, w, inr has, is, other)

some_pair : (es : Pairs) (p : Block) (c : Cell) (v w : Option Cell) → Has es (p, (v, w)) → cell_or_empty w ≡ c
    → ¬ (cell_or_empty v ≡ c) → HasChange es p c
some_pair [] p c v w none is other = absurd none
some_pair (e ∷ es) p c v w (inl same) is other =
    inl (subst (IsChange p c) same (refl, is, other))
some_pair (e ∷ es) p c v w (inr later) is other = inr (some_pair es p c v w later is other)

-- the changes of two tables side by side
pub in_tables : (m n : Mapped Cell) (p : Block) (c : Cell)
    → (HasChange (beside (entries m) (entries n)) p c ↔ ((c ≡ cell_at n p) × ¬ (c ≡ cell_at m p)))
in_tables m n p c = (
  λ h.
      let (v, w, has, is, other) = the_pair (beside (entries m) (entries n)) p c h in
      let sides = by_either (get m p) (get n p) v w ((beside_pairs m n p v w).0 has) in
      (sym is ∙ ap cell_or_empty sides.1, λ e. other (ap cell_or_empty sides.0 ∙ sym e)),
  λ h. some_pair (beside (entries m) (entries n)) p c (get m p) (get n p)
      ((beside_pairs m n p (get m p) (get n p)).1 (in_either (get m p) (get n p) c h.0 h.1)) (sym h.0)
      (λ e. h.1 (sym e)),
)

pub no_change : (es : Pairs) (p : Block) (c : Cell) → es ≡ [] → ¬ HasChange es p c
no_change [] p c e h = h
no_change (d ∷ es) p c e h = cc
