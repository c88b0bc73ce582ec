-- The set of the pairs of a list: there is one, and all are equally long.
use Rattle.std.proofs.Common.{◌≡◌, inl, inr, true, cond, List, [], ◌∷◌, length, refl, sym, subst, arith}
use Rattle.std.specs.List.{list_any}
use Rattle.std.specs.Set.{remove_key}
use Rattle.std.proofs.lemmas.Bool.{cases_Bool}
use Rattle.urpf_base.specs.Lists.{AreDistinct, Has}
use Rattle.origin_pairs.specs.Pairs.{AreSamePairs, IsPairSet, Pair}
use Rattle.origin_pairs.proofs.Members.{gone, has_found, in_removed, length-remove, not_found, same}

-- the pairs of the list, each as the last of its kind
abbrev set_of : List Pair → List Pair
set_of [] = []
set_of (p ∷ ps) = cond (list_any (same p) (set_of ps)) (set_of ps) (p ∷ set_of ps)

set_members : (ps : List Pair) → AreSamePairs (set_of ps) ps
set_members [] q = (λ h. h, λ h. h)
set_members (p ∷ ps) q =
    let more = set_members ps q in
    elim (cases_Bool (list_any (same p) (set_of ps))) [
      | inl e ↦ rw e (
        λ h. inr (more.0 h),
        λ h. elim h [
          | inl is ↦ subst (Has (set_of ps)) (sym is) (has_found p (set_of ps) e)
          | inr later ↦ more.1 later
        ],
      )
      | inr e ↦ rw e (
        λ h. elim h [ inl is ↦ inl is | inr later ↦ inr (more.0 later) ],
        λ h. elim h [ inl is ↦ inl is | inr later ↦ inr (more.1 later) ],
      )
    ]

set_distinct : (ps : List Pair) → AreDistinct (set_of ps)
set_distinct [] = tt
set_distinct (p ∷ ps) =
    elim (cases_Bool (list_any (same p) (set_of ps))) [
      | inl e ↦ rw e (set_distinct ps)
      | inr e ↦ rw e (not_found p (set_of ps) e, set_distinct ps)
    ]

-- the pairs of each list make a set
pub some_set : (ps : List Pair) → (set : List Pair) × IsPairSet ps set
some_set ps = (set_of ps, record { members = set_members ps; distinct = set_distinct ps })

-- a pair that stands in the list is found
pub found : (p : Pair) (xs : List Pair) → Has xs p → list_any (same p) xs ≡ true
found p xs has =
    elim (cases_Bool (list_any (same p) xs)) [ inl e ↦ e | inr e ↦ absurd (not_found p xs e has) ]

has_removed : (p : Pair) (xs : List Pair) (q : Pair) → Has (remove_key (same p) xs) q → Has xs q
has_removed p [] q h = h
has_removed p (x ∷ xs) q h =
    elim (cases_Bool (same p x)) [
      | inl e ↦ inr (rw e at h)
      | inr e ↦ elim (rw e at h) [ inl is ↦ inl is | inr later ↦ inr (has_removed p xs q later) ]
    ]

distinct_removed : (p : Pair) (xs : List Pair) → AreDistinct xs → AreDistinct (remove_key (same p) xs)
distinct_removed p [] h = tt
distinct_removed p (x ∷ xs) h =
    elim (cases_Bool (same p x)) [
      | inl e ↦ rw e h.1
      | inr e ↦ rw e (λ again. h.0 (has_removed p xs x again), distinct_removed p xs h.1)
    ]

-- distinct pairs without the first are those of the other list without it
rest_same : (x : Pair) (xs ys : List Pair) → AreDistinct (x ∷ xs) → AreDistinct ys → AreSamePairs (x ∷ xs) ys
    → AreSamePairs xs (remove_key (same x) ys)
rest_same x xs ys h k alike q =
    let split = in_removed x ys q (found x ys ((alike x).0 (inl refl))) in (
      λ has. elim (split.0 ((alike q).0 (inr has))) [
        | inl is ↦ absurd (h.0 (subst (Has xs) is has))
        | inr there ↦ there
      ],
      λ has. elim ((alike q).1 (split.1 (inr has))) [
        | inl is ↦ absurd (gone x ys k (subst (Has (remove_key (same x) ys)) is has))
        | inr there ↦ there
      ],
    )

-- distinct pairs that are the same are equally many
pub same_length : (xs ys : List Pair) → AreDistinct xs → AreDistinct ys → AreSamePairs xs ys → length xs ≡ length ys
same_length [] [] h k alike = refl
same_length [] (y ∷ ys) h k alike = absurd ((alike y).1 (inl refl))
same_length (x ∷ xs) ys h k alike =
    let fewer = length-remove x ys (found x ys ((alike x).0 (inl refl))) in
    let rest = same_length xs (remove_key (same x) ys) h.1 (distinct_removed x ys k) (rest_same x xs ys h k alike) in
    omega arith

-- all sets of the same pairs are equally long
pub sets_equally_long : (ps a b : List Pair) → IsPairSet ps a → IsPairSet ps b → length a ≡ length b
sets_equally_long ps a b is_a is_b = same_length a b is_a.distinct is_b.distinct (λ q. (
  λ has. (is_b.members q).1 ((is_a.members q).0 has),
  λ has. (is_a.members q).1 ((is_b.members q).0 has),
))
