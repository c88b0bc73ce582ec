-- Lists of the same values, each once, are equally long.
use Rattle.std.proofs.Common.{◌≡◌, ◌⊎◌, suc, List, [], ◌∷◌, ◌++◌, length, refl, inl, inr, ap, sym, subst, ◌∙◌}
use Rattle.urpf_base.specs.Lists.{Has, AreDistinct}

-- a list that has a value, before and behind it
record Around {X : Type 0} (xs : List X) (x : X) : Type 0 where
  front : List X
  back : List X
  parts : xs ≡ front ++ x ∷ back

around : {X : Type 0} (xs : List X) (x : X) → Has xs x → Around xs x
around [] x has = absurd has
around (y ∷ ys) x (inl is) = record { front = []; back = ys; parts = ap (λ v. v ∷ ys) (sym is) }
around (y ∷ ys) x (inr has) =
    let rest = around ys x has in
    record { front = y ∷ rest.front; back = rest.back; parts = ap (λ vs. y ∷ vs) rest.parts }

-- a value is the one in the middle, or one of the others
middle : {X : Type 0} (front back : List X) (x z : X) → Has (front ++ x ∷ back) z → (z ≡ x) ⊎ Has (front ++ back) z
middle [] back x z has = has
middle (y ∷ front) back x z (inl is) = inr (inl is)
middle (y ∷ front) back x z (inr has) =
    elim (middle front back x z has) [ inl is ↦ inl is | inr other ↦ inr (inr other) ]

other : {X : Type 0} (front back : List X) (x z : X) → Has (front ++ back) z → Has (front ++ x ∷ back) z
other [] back x z has = inr has
other (y ∷ front) back x z (inl is) = inl is
other (y ∷ front) back x z (inr has) = inr (other front back x z has)

itself : {X : Type 0} (front back : List X) (x : X) → Has (front ++ x ∷ back) x
itself [] back x = inl refl
itself (y ∷ front) back x = inr (itself front back x)

-- the others are distinct, and the one in the middle is none of them
distinct_others : {X : Type 0} (front back : List X) (x : X) → AreDistinct (front ++ x ∷ back)
    → AreDistinct (front ++ back) × (Has (front ++ back) x → ⊥)
distinct_others [] back x distinct = (distinct.1, distinct.0)
distinct_others (y ∷ front) back x distinct =
    let rest = distinct_others front back x distinct.1 in
    ((λ has. distinct.0 (other front back x y has), rest.0), none front back x y distinct.0 rest.1)
  where
    none : {Z : Type 0} (front back : List Z) (x y : Z) → (Has (front ++ x ∷ back) y → ⊥) → (Has (front ++ back) x → ⊥)
        → Has (y ∷ (front ++ back)) x → ⊥
    none front back x y first rest (inl is) = first (subst (λ v. Has (front ++ x ∷ back) v) is (itself front back x))
    none front back x y first rest (inr has) = rest has

length_around : {X : Type 0} (front back : List X) (x : X) → length (front ++ x ∷ back) ≡ suc (length (front ++ back))
length_around [] back x = refl
length_around (y ∷ front) back x = ap (λ n. suc n) (length_around front back x)

-- a value of a list without another is not that other
not_it : {X : Type 0} (zs : List X) (x z : X) → (Has zs x → ⊥) → Has zs z → z ≡ x → ⊥
not_it zs x z never has is = never (subst (λ v. Has zs v) is has)

but : {P Q : Type 0} → P ⊎ Q → (P → ⊥) → Q
but (inl p) never = absurd (never p)
but (inr q) never = q

-- two lists of the same values, each once, are equally long
pub same_length : {X : Type 0} (xs ys : List X) → AreDistinct xs → AreDistinct ys → ((x : X) → Has xs x → Has ys x)
    → ((x : X) → Has ys x → Has xs x) → length xs ≡ length ys
same_length [] [] one two to from = refl
same_length [] (y ∷ ys) one two to from = absurd (from y (inl refl))
same_length (x ∷ xs) ys one two to from =
    let found = around ys x (to x (inl refl)) in
    let rest = found.front ++ found.back in
    let distinct = distinct_others found.front found.back x (subst AreDistinct found.parts two) in
    let shorter = same_length xs rest one.1 distinct.0
    (λ z has. but (middle found.front found.back x z (subst (λ vs. Has vs z) found.parts (to z (inr has))))
    (not_it xs x z one.0 has))
    (λ z has. but (from z (subst (λ vs. Has vs z) (sym found.parts) (other found.front found.back x z has)))
    (not_it rest x z distinct.1 has)) in
    ap (λ n. suc n) shorter ∙ sym (ap length found.parts ∙ length_around found.front found.back x)
