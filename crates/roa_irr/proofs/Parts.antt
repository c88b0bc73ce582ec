-- Values of several parts: which parts make the value, and when it has a space within.
use Rattle.std.proofs.Common.{◌≡◌, ℕ, Bool, true, false, List, [], ◌∷◌, ◌++◌, refl, sym, ap, ◌∙◌, append_assoc}
use Rattle.std.specs.List.{join_with_byte}
use Rattle.roa_irr.specs.Lines.{HasSpace, is_blank, kept_before, trimmed, trimmed_end, trimmed_front}

-- the parts and one more
pub join-more : (first : List ℕ) (parts : List (List ℕ)) (part : List ℕ)
    → join_with_byte 32 (first ∷ (parts ++ part ∷ [])) ≡ join_with_byte 32 (first ∷ parts) ++ (32 ∷ part)
join-more first [] part = refl
join-more first (next ∷ parts) part =
    ap (λ t. first ++ (32 ∷ t)) (join-more next parts part)
    ∙ sym (append_assoc first (32 ∷ join_with_byte 32 (next ∷ parts)) (32 ∷ part))

front_by-blank : (x : ℕ) (xs y : List ℕ) (b : Bool) → is_blank x ≡ b → trimmed_front (x ∷ xs) ≡ []
    → (trimmed_front xs ≡ [] → trimmed_front (xs ++ y) ≡ trimmed_front y)
    → trimmed_front (x ∷ (xs ++ y)) ≡ trimmed_front y
front_by-blank x xs y true is e go = rw is (go (rw is at e))
front_by-blank x xs y false is e go = absurd (let h = rw is at e in cc)

-- blanks in front do not count
front-blank : (xs y : List ℕ) → trimmed_front xs ≡ [] → trimmed_front (xs ++ y) ≡ trimmed_front y
front-blank [] y e = refl
front-blank (x ∷ xs) y e = front_by-blank x xs y (is_blank x) refl e (front-blank xs y)

front_by-some : (x : ℕ) (xs y : List ℕ) (c : ℕ) (u : List ℕ) (b : Bool) → is_blank x ≡ b
    → trimmed_front (x ∷ xs) ≡ c ∷ u → (trimmed_front xs ≡ c ∷ u → trimmed_front (xs ++ y) ≡ c ∷ (u ++ y))
    → trimmed_front (x ∷ (xs ++ y)) ≡ c ∷ (u ++ y)
front_by-some x xs y c u true is e go = rw is (go (rw is at e))
front_by-some x xs y c u false is e go = let h = rw is at e in rw is (ap (λ t. t ++ y) h)

-- and behind them all stays
front-some : (xs y : List ℕ) (c : ℕ) (u : List ℕ) → trimmed_front xs ≡ c ∷ u → trimmed_front (xs ++ y) ≡ c ∷ (u ++ y)
front-some [] y c u e = absurd cc
front-some (x ∷ xs) y c u e = front_by-some x xs y c u (is_blank x) refl e (front-some xs y c u)

-- blanks at the end do not count
end-blank : (xs y : List ℕ) → trimmed_end y ≡ [] → trimmed_end (xs ++ y) ≡ trimmed_end xs
end-blank [] y e = e
end-blank (x ∷ xs) y e = ap (kept_before x) (end-blank xs y e)

kept : (x : ℕ) (xs : List ℕ) (d : ℕ) (ds : List ℕ) → kept_before x (xs ++ (d ∷ ds)) ≡ x ∷ (xs ++ (d ∷ ds))
kept x [] d ds = refl
kept x (y ∷ ys) d ds = refl

-- and before what is no blank all stays
end-some : (xs y : List ℕ) (d : ℕ) (ds : List ℕ) → trimmed_end y ≡ d ∷ ds → trimmed_end (xs ++ y) ≡ xs ++ (d ∷ ds)
end-some [] y d ds e = e
end-some (x ∷ xs) y d ds e = ap (kept_before x) (end-some xs y d ds e) ∙ kept x xs d ds

end_of_blank_by : (x : ℕ) (xs : List ℕ) (b : Bool) → is_blank x ≡ b → trimmed_front (x ∷ xs) ≡ []
    → (trimmed_front xs ≡ [] → trimmed_end xs ≡ []) → trimmed_end (x ∷ xs) ≡ []
end_of_blank_by x xs true is e go = ap (kept_before x) (go (rw is at e)) ∙ rw is refl
end_of_blank_by x xs false is e go = absurd (let h = rw is at e in cc)

-- blanks alone are blank from either end
end_of_blank : (xs : List ℕ) → trimmed_front xs ≡ [] → trimmed_end xs ≡ []
end_of_blank [] e = refl
end_of_blank (x ∷ xs) e = end_of_blank_by x xs (is_blank x) refl e (end_of_blank xs)

front_of_blank_by : (x : ℕ) (xs t : List ℕ) (b : Bool) → is_blank x ≡ b → trimmed_end xs ≡ t → kept_before x t ≡ []
    → (trimmed_end xs ≡ [] → trimmed_front xs ≡ []) → trimmed_front (x ∷ xs) ≡ []
front_of_blank_by x xs [] true is e none go = rw is (go e)
front_of_blank_by x xs [] false is e none go = absurd (let h = rw is at none in cc)
front_of_blank_by x xs (y ∷ ys) b is e none go = absurd cc

front_of_blank : (xs : List ℕ) → trimmed_end xs ≡ [] → trimmed_front xs ≡ []
front_of_blank [] e = refl
front_of_blank (x ∷ xs) e = front_of_blank_by x xs (trimmed_end xs) (is_blank x) refl refl e (front_of_blank xs)

front_twice_by : (x : ℕ) (xs : List ℕ) (b : Bool) → is_blank x ≡ b
    → trimmed_front (trimmed_front xs) ≡ trimmed_front xs
    → trimmed_front (trimmed_front (x ∷ xs)) ≡ trimmed_front (x ∷ xs)
front_twice_by x xs true is go = rw is go
front_twice_by x xs false is go = rw (is, is) refl

front_twice : (xs : List ℕ) → trimmed_front (trimmed_front xs) ≡ trimmed_front xs
front_twice [] = refl
front_twice (x ∷ xs) = front_twice_by x xs (is_blank x) refl (front_twice xs)

-- where nothing is left, all is blank
all_blank : (xs : List ℕ) → trimmed xs ≡ [] → trimmed_front xs ≡ []
all_blank xs e = sym (front_twice xs) ∙ front_of_blank (trimmed_front xs) e

blank_by : (xs y f : List ℕ) → trimmed_front xs ≡ f → trimmed_front y ≡ [] → trimmed (xs ++ y) ≡ trimmed xs
blank_by xs y [] is e = ap trimmed_end (front-blank xs y is ∙ e ∙ sym is)
blank_by xs y (c ∷ u) is e =
    ap trimmed_end (front-some xs y c u is) ∙ end-blank (c ∷ u) y (end_of_blank y e) ∙ ap trimmed_end (sym is)

-- a blank part changes nothing
pub trimmed-blank : (joined part : List ℕ) → trimmed part ≡ [] → trimmed (joined ++ (32 ∷ part)) ≡ trimmed joined
trimmed-blank joined part none =
    blank_by joined (32 ∷ part) (trimmed_front joined) refl (all_blank part none)

-- behind blank ones a part is the value
pub trimmed-first : (joined part : List ℕ) → trimmed joined ≡ [] → trimmed (joined ++ (32 ∷ part)) ≡ trimmed part
trimmed-first joined part none = ap trimmed_end (front-blank joined (32 ∷ part) (all_blank joined none))

space_by : (joined part f e : List ℕ) (a b : ℕ) (xs ys : List ℕ) → trimmed_front joined ≡ f → trimmed_end part ≡ e
    → trimmed joined ≡ a ∷ xs → trimmed part ≡ b ∷ ys → HasSpace (trimmed (joined ++ (32 ∷ part)))
space_by joined part [] e a b xs ys front end some more = absurd (let h = ap trimmed_end front in cc)
space_by joined part (c ∷ u) [] a b xs ys front end some more =
    absurd (let h = ap trimmed_end (front_of_blank part end) in cc)
space_by joined part (c ∷ u) (d ∷ ds) a b xs ys front end some more = (
  c ∷ u,
  d ∷ ds,
  ap trimmed_end (front-some joined (32 ∷ part) c u front)
      ∙ end-some (c ∷ u) (32 ∷ part) 32 (d ∷ ds) (ap (kept_before 32) end),
)

-- two parts that are not blank have a space between them
pub trimmed-both : (joined part : List ℕ) (a b : ℕ) (xs ys : List ℕ) → trimmed joined ≡ a ∷ xs → trimmed part ≡ b ∷ ys
    → HasSpace (trimmed (joined ++ (32 ∷ part)))
trimmed-both joined part a b xs ys some more =
    space_by joined part (trimmed_front joined) (trimmed_end part) a b xs ys refl refl some more

end_begins_by : (x : ℕ) (xs t : List ℕ) (b : Bool) → is_blank x ≡ b → trimmed_end xs ≡ t
    → (rest : List ℕ) × (xs ≡ t ++ rest)
    → (rest : List ℕ) × (x ∷ xs ≡ kept_before x t ++ rest)
end_begins_by x xs [] true is e begins = (x ∷ xs, rw is refl)
end_begins_by x xs [] false is e begins = (xs, rw is refl)
end_begins_by x xs (y ∷ ys) b is e begins = (begins.0, ap (λ t. x ∷ t) begins.1)

-- what is left of a text is its beginning
end_begins : (xs : List ℕ) → (rest : List ℕ) × (xs ≡ trimmed_end xs ++ rest)
end_begins [] = ([], refl)
end_begins (x ∷ xs) = end_begins_by x xs (trimmed_end xs) (is_blank x) refl refl (end_begins xs)

none_before : (front rest : List ℕ) → [] ≡ front ++ (32 ∷ rest) → ⊥
none_before [] rest e = cc
none_before (x ∷ xs) rest e = cc

stays_by : (joined y f e : List ℕ) → trimmed_front joined ≡ f → trimmed_end y ≡ e → HasSpace (trimmed joined)
    → HasSpace (trimmed (joined ++ y))
stays_by joined y [] e front end (a, b, is) = absurd (none_before a b (sym (ap trimmed_end front) ∙ is))
stays_by joined y (c ∷ u) [] front end (a, b, is) = (
  a,
  b,
  ap trimmed_end (front-some joined y c u front) ∙ end-blank (c ∷ u) y end ∙ ap trimmed_end (sym front) ∙ is,
)
stays_by joined y (c ∷ u) (d ∷ ds) front end (a, b, is) =
    let begins = end_begins (c ∷ u) in (
      a,
      b ++ (begins.0 ++ (d ∷ ds)),
      ap trimmed_end (front-some joined y c u front) ∙ end-some (c ∷ u) y d ds end
          ∙ ap (λ t. t ++ (d ∷ ds)) (begins.1 ∙ ap (λ t. t ++ begins.0) (ap trimmed_end (sym front) ∙ is))
          ∙ append_assoc (a ++ (32 ∷ b)) begins.0 (d ∷ ds) ∙ append_assoc a (32 ∷ b) (begins.0 ++ (d ∷ ds)),
    )

-- a space within stays
pub trimmed-parted : (joined part : List ℕ) → HasSpace (trimmed joined) → HasSpace (trimmed (joined ++ (32 ∷ part)))
trimmed-parted joined part has =
    stays_by joined (32 ∷ part) (trimmed_front joined) (trimmed_end (32 ∷ part)) refl refl has
