-- Members of the source sets, told by which rows there are.
use Rattle.std.proofs.Common.{◌≡◌, ◌⊎◌, ◌↔◌, inl, inr, ℕ, Bool, true, ◌==◌, List, [], ◌∷◌, ◌++◌, map}
use Rattle.std.proofs.Common.{Option, Some, None, refl, sym, ap, subst}
use Rattle.std.specs.List.{cons_option, filter, list_any}
use Rattle.std.specs.Ordering.{is_eq}
use Rattle.std.proofs.lemmas.Bool.{cases_Bool, eqb-true, eq-eqb}
use Rattle.urpf_base.specs.Address.{Block}
use Rattle.urpf_base.specs.Lists.{Has}
use Rattle.urpf_base.specs.Order.{prefix_order}
use Rattle.origin_pairs.specs.Pairs.{Pair}
use Rattle.prefix_map.proofs.Order.{prefix_total, prefix_ties}
use Rattle.std.specs.Cmp.{tied_itself}
use Rattle.std.specs.declared.cmp.Ordering.{Ordering}
use Rattle.std.specs.declared.cmp.Ordering.TheVariants.{Less, Equal, Greater}
use Rattle.rpf_plain.specs.declared.rows.Row.{Row}
use Rattle.rpf_plain.specs.Sets.{has_as, has_origin, has_prefix, is_origin, origins_of, prefixes_of}
use Rattle.rpf_plain.specs.Sets.{paired, union}
use Rattle.rpf_plain.specs.Walks.{SomeRow}

-- some row is so by other words
pub some_by : (P Q : Row → Type 0) → ((r : Row) → P r → Q r) → (rows : List Row) → SomeRow P rows → SomeRow Q rows
some_by P Q by [] h = h
some_by P Q by (r ∷ rows) (inl here) = inl (by r here)
some_by P Q by (r ∷ rows) (inr later) = inr (some_by P Q by rows later)

-- a row of the list that is so
pub the_row : (P : Row → Type 0) (rows : List Row) → SomeRow P rows → (r : Row) × Has rows r × P r
the_row P [] h = absurd h
the_row P (r ∷ rows) (inl here) = (r, inl refl, here)
the_row P (r ∷ rows) (inr later) = let (q, has, is) = the_row P rows later in (q, inr has, is)

pub some_row : (P : Row → Type 0) (rows : List Row) (r : Row) → Has rows r → P r → SomeRow P rows
some_row P [] r none is = absurd none
some_row P (q ∷ rows) r (inl same) is = inl (subst P same is)
some_row P (q ∷ rows) r (inr later) is = inr (some_row P rows r later is)

in_cons : (o : Option ℕ) (ns : List ℕ) (a : ℕ) → (Has (cons_option o ns) a ↔ ((o ≡ Some a) ⊎ Has ns a))
in_cons None ns a = (λ h. inr h, λ h. elim h [ inl e ↦ absurd cc | inr later ↦ later ])
in_cons (Some b) ns a = (
  λ h. elim h [ inl e ↦ inl (ap (λ n. Some n) (sym e)) | inr later ↦ inr later ],
  λ h. elim h [ inl e ↦ inl (let same : a ≡ b = cc in same) | inr later ↦ inr later ],
)

module _ (t : Row → Bool) where
  -- the prefixes of the rows that pass a test
  pub picked : (rows : List Row) (p : Block)
      → (Has (prefixes_of (filter t rows)) p ↔ SomeRow (λ r. (r.prefix ≡ p) × (t r ≡ true)) rows)
  picked [] p = (λ h. h, λ h. h)
  picked (r ∷ rows) p =
      let more = picked rows p in
      elim (cases_Bool (t r)) [
        | inl e ↦ (
          λ h. elim (rw e at h) [ inl same ↦ inl (sym same, e) | inr later ↦ inr (more.0 later) ],
          λ h. rw e (elim h [ inl here ↦ inl (sym here.0) | inr later ↦ inr (more.1 later) ]),
        )
        | inr e ↦ (
          λ h. inr (more.0 (rw e at h)),
          λ h. rw e (elim h [ inl here ↦ let yes_r = here.1 in absurd cc | inr later ↦ more.1 later ]),
        )
      ]

  -- each is a prefix of the rows
  pub from_picked : (rows : List Row) (p : Block) → Has (prefixes_of (filter t rows)) p → Has (prefixes_of rows) p
  from_picked [] p h = h
  from_picked (r ∷ rows) p h =
      elim (cases_Bool (t r)) [
        | inl e ↦ elim (rw e at h) [ inl same ↦ inl same | inr later ↦ inr (from_picked rows p later) ]
        | inr e ↦ inr (from_picked rows p (rw e at h))
      ]

  -- the origins of the rows that pass a test
  pub named : (rows : List Row) (a : ℕ)
      → (Has (origins_of (filter t rows)) a ↔ SomeRow (λ r. (r.origin ≡ Some a) × (t r ≡ true)) rows)
  named [] a = (λ h. h, λ h. h)
  named (r ∷ rows) a =
      let more = named rows a in
      let one = in_cons r.origin (origins_of (filter t rows)) a in
      elim (cases_Bool (t r)) [
        | inl e ↦ (
          λ h. elim (one.0 (rw e at h)) [ inl same ↦ inl (same, e) | inr later ↦ inr (more.0 later) ],
          λ h. rw e (one.1 (elim h [ inl here ↦ inl here.0 | inr later ↦ inr (more.1 later) ])),
        )
        | inr e ↦ (
          λ h. inr (more.0 (rw e at h)),
          λ h. rw e (elim h [ inl here ↦ let yes_r = here.1 in absurd cc | inr later ↦ more.1 later ]),
        )
      ]

-- a test of the members of a list
pub any_by : {X : Type 0} (t : X → Bool) (xs : List X) → (list_any t xs ≡ true ↔ ((x : X) × Has xs x × (t x ≡ true)))
any_by t [] = (λ h. absurd cc, λ h. absurd h.1)
any_by t (x ∷ xs) =
    let more = any_by t xs in
    elim (cases_Bool (t x)) [
      | inl e ↦ (λ h. (x, inl refl, e), λ h. rw e refl)
      | inr e ↦ (
        λ h. let (y, has, is) = more.0 (rw e at h) in (y, inr has, is),
        λ (y, has, is). rw e (more.1 (elim has [
          | inl same ↦ let no_x : t x ≡ true = subst (λ z. t z ≡ true) same is in absurd cc
          | inr later ↦ (y, later, is)
        ])),
      )
    ]

is_tie : (o : Ordering) → is_eq o ≡ true → o ≡ Equal
is_tie Less e = cc
is_tie Equal e = refl
is_tie Greater e = cc

pub has_prefix_by : (ps : List Block) (p : Block) → (has_prefix ps p ≡ true ↔ Has ps p)
has_prefix_by ps p =
    let told = any_by (λ q. is_eq (prefix_order q p)) ps in (
      λ h. let (q, has, is) = told.0 h in subst (Has ps) (prefix_ties q p (is_tie _ is)) has,
      λ h. told.1 (p, h, ap is_eq (tied_itself prefix_total p)),
    )

pub has_as_by : (ns : List ℕ) (n : ℕ) → (has_as ns n ≡ true ↔ Has ns n)
has_as_by ns n =
    let told = any_by (λ m. m == n) ns in (
      λ h. let (m, has, is) = told.0 h in subst (Has ns) (eqb-true m n is) has,
      λ h. told.1 (n, h, eq-eqb n n refl),
    )

pub has_origin_by : (ns : List ℕ) (o : Option ℕ) → (has_origin ns o ≡ true ↔ ((a : ℕ) × (o ≡ Some a) × Has ns a))
has_origin_by ns None = (λ h. absurd cc, λ h. let no = h.1 in absurd cc)
has_origin_by ns (Some n) = (
  λ h. (n, refl, (has_as_by ns n).0 h),
  λ (a, is, has). let same : a ≡ n = cc in (has_as_by ns n).1 (subst (Has ns) same has),
)

pub is_origin_by : (n : ℕ) (o : Option ℕ) → (is_origin n o ≡ true ↔ (o ≡ Some n))
is_origin_by n None = (λ h. absurd cc, λ h. absurd cc)
is_origin_by n (Some m) = (
  λ h. ap (λ k. Some k) (eqb-true m n h),
  λ h. let same : m ≡ n = cc in eq-eqb m n same,
)

-- a member of either list
pub has_append : {X : Type 0} (xs ys : List X) (x : X) → (Has (xs ++ ys) x ↔ (Has xs x ⊎ Has ys x))
has_append [] ys x = (λ h. inr h, λ h. elim h [ inl none ↦ absurd none | inr there ↦ there ])
has_append (y ∷ xs) ys x =
    let more = has_append xs ys x in (
      λ h. elim h [
        | inl same ↦ inl (inl same)
        | inr later ↦ elim (more.0 later) [ inl left ↦ inl (inr left) | inr right ↦ inr right ]
      ],
      λ h. elim h [
        | inl left ↦ elim left [ inl same ↦ inl same | inr later ↦ inr (more.1 (inl later)) ]
        | inr right ↦ inr (more.1 (inr right))
      ],
    )

-- the members of the lists that pass a test
pub in_union : (f : ℕ → List Block) (t : ℕ → Bool) (ns : List ℕ) (p : Block)
    → (Has (union (map f (filter t ns))) p ↔ ((n : ℕ) × Has ns n × (t n ≡ true) × Has (f n) p))
in_union f t [] p = (λ h. absurd h, λ h. absurd h.1)
in_union f t (n ∷ ns) p =
    let more = in_union f t ns p in
    elim (cases_Bool (t n)) [
      | inl e ↦ (
        λ h. elim ((has_append (f n) (union (map f (filter t ns))) p).0 (rw e at h)) [
          | inl here ↦ (n, inl refl, e, here)
          | inr later ↦ let (m, has, is, there) = more.0 later in (m, inr has, is, there)
        ],
        λ (m, has, is, there). rw e ((has_append (f n) (union (map f (filter t ns))) p).1 (elim has [
          | inl same ↦ inl (subst (λ k. Has (f k) p) same there)
          | inr later ↦ inr (more.1 (m, later, is, there))
        ])),
      )
      | inr e ↦ (
        λ h. let (m, has, is, there) = more.0 (rw e at h) in (m, inr has, is, there),
        λ (m, has, is, there). rw e (more.1 (elim has [
          | inl same ↦ let yes_n : t n ≡ true = subst (λ k. t k ≡ true) same is in absurd cc
          | inr later ↦ (m, later, is, there)
        ])),
      )
    ]

-- the prefixes of the pairs whose AS is in a list
pub in_paired : (pairs : List Pair) (ns : List ℕ) (p : Block)
    → (Has (paired pairs ns) p ↔ ((n : ℕ) × Has pairs (p, n) × Has ns n))
in_paired [] ns p = (λ h. absurd h, λ h. absurd h.1)
in_paired (pair ∷ pairs) ns p =
    let more = in_paired pairs ns p in
    elim (cases_Bool (has_as ns pair.1)) [
      | inl e ↦ (
        λ h. elim (rw e at h) [
          | inl same ↦ (pair.1, inl (λ i. (same i, pair.1)), (has_as_by ns pair.1).0 e)
          | inr later ↦ let (n, has, there) = more.0 later in (n, inr has, there)
        ],
        λ (n, has, there). rw e (elim has [
          | inl same ↦ inl (ap (λ q. q.0) same)
          | inr later ↦ inr (more.1 (n, later, there))
        ]),
      )
      | inr e ↦ (
        λ h. let (n, has, there) = more.0 (rw e at h) in (n, inr has, there),
        λ (n, has, there). rw e (elim has [
          | inl same ↦
              let yes_n : has_as ns pair.1 ≡ true =
              (has_as_by ns pair.1).1 (subst (Has ns) (ap (λ q. q.1) same) there) in absurd cc
          | inr later ↦ more.1 (n, later, there)
        ]),
      )
    ]
