-- Reading groups one after the other.
use Rattle.std.proofs.Common.{◌≡◌, ℕ, ◌+◌, ◌-◌, ◌*◌, ◌<◌, ◌≤◌, List, [], ◌∷◌, ◌++◌, length, get_or, take, drop, Option}
use Rattle.std.proofs.Common.{Some, None, unwrap_or, refl, ap, sym, subst, ◌∙◌, append_assoc, length-append, arith}
use Rattle.std.specs.Prelude.{Bool, true, false, IsTrue, ◌↔◌}
use Rattle.std.specs.Option.{IfSome, IsSomeAnd}
use Rattle.std.specs.Str.Iter.{LacksByte}
use Rattle.std.specs.Int.Digits.{number_from_digits_after}
use Rattle.std.proofs.lemmas.List.{append-nil}
use Rattle.std.proofs.Math.Seq.{get_or-append_seam, drop-append_seam}
use Rattle.ip_text.specs.Groups.{IsGroup}
use Rattle.ip_text.specs.Sides.{IsEndOrGap, Opens, IsSide, SideIs}
use Rattle.ip_text.proofs.Marks.{rest_whole}
use Rattle.ip_text.proofs.Spelling.{Start, ended, gap, goes_on, start_of, group_lacks, opens_start, no_colon_first}
use Rattle.ip_text.proofs.Spelling.{end_or_colon}

pub both_some : {S : Type 0} (o : Option S) (P Q R : S → Type 0) → ((s : S) → P s → Q s → R s) → IfSome o P → IfSome o Q
    → IfSome o R
both_some None P Q R join p q = tt
both_some (Some s) P Q R join p q = join s p q

pub some_more : {S : Type 0} (o : Option S) (P Q : S → Type 0) → ((s : S) → P s → Q s) → IsSomeAnd o P → IsSomeAnd o Q
some_more None P Q step p = p
some_more (Some s) P Q step p = step s p

pub no_gap_of : (text : List ℕ) (b : Bool) → IsTrue b ↔ ((r : List ℕ) × (text ≡ 58 ∷ r)) → b ≡ false → (r : List ℕ)
    → text ≡ 58 ∷ r → ⊥
no_gap_of text b tells off r e = let on : b ≡ true = tells.1 (r, e) in cc

pub lacks_not : {mark : ℕ} (text front others : List ℕ) → LacksByte mark text → text ≡ front ++ (mark ∷ others) → ⊥
lacks_not {mark = mark} text front others lacks parts =
    lacks (length front) (omega (arith, ap length parts, length-append front (mark ∷ others)))
    (ap (λ t. get_or t (length front) 0) parts ∙ get_or-append_seam front mark others 0)

-- the text has no colon
module _ (text : List ℕ) (no_cut : (front others : List ℕ) → LacksByte 58 front → text ≡ front ++ (58 ∷ others) → ⊥)
  where
    alone_never_at : (rest groups : List ℕ) → ((g : ℕ) → IsGroup text g → None ≡ Some g) → Start text rest groups → ⊥
    alone_never_at rest groups none (ended g is e) = let n = none g is in cc
    alone_never_at rest groups none (gap g front after is parts e) =
        no_cut front (58 ∷ after) (group_lacks front g is) parts
    alone_never_at rest groups none (goes_on g h gs one others is parts opens) =
        no_cut one others (group_lacks one g is) parts

    pub alone_never : (rest groups : List ℕ) → ((g : ℕ) → IsGroup text g → None ≡ Some g) → 0 < length groups
        → Opens text groups rest → ⊥
    alone_never rest groups none some opens = alone_never_at rest groups none (start_of text rest groups some opens)

    alone_only_at : (count value now found : ℕ) (rest groups : List ℕ)
        → ((g : ℕ) → IsGroup text g → Some found ≡ Some g)
        → now ≡ value * 65536 + found → Start text rest groups → SideIs count value groups (count + 1) now rest []
    alone_only_at count value now found rest groups one is (ended g group e) =
        let same : found ≡ g = ap (λ o. unwrap_or o 0) (one g group) in
        (refl, is ∙ ap (λ x. value * 65536 + x) same, sym e)
    alone_only_at count value now found rest groups one is (gap g front after group parts e) =
        absurd (no_cut front (58 ∷ after) (group_lacks front g group) parts)
    alone_only_at count value now found rest groups one is (goes_on g h gs first others group parts opens) =
        absurd (no_cut first others (group_lacks first g group) parts)

    pub alone_only : (count value now found : ℕ) (rest groups : List ℕ)
        → ((g : ℕ) → IsGroup text g → Some found ≡ Some g)
        → now ≡ value * 65536 + found → 0 < length groups → Opens text groups rest
        → SideIs count value groups (count + 1) now rest []
    alone_only count value now found rest groups one is some opens =
        alone_only_at count value now found rest groups one is (start_of text rest groups some opens)

pub alone_found : (count value now g : ℕ) (text : List ℕ) → IsGroup text g → now ≡ value * 65536 + g
    → IsSide count value text (count + 1) now []
alone_found count value now g text group is = record {
  groups = g ∷ [];
  counted = refl;
  number = is;
  opens = record { front = text; spelled = group; parts = sym (append-nil text); stops = tt };
}

-- the text is cut at its first colon
module _ (text front others : List ℕ) (parts : text ≡ front ++ (58 ∷ others))
    (cut : (f r : List ℕ) → LacksByte 58 f → text ≡ f ++ (58 ∷ r) → (front ≡ f) × (others ≡ r)) where
  front_never_at : (rest groups : List ℕ) → ((g : ℕ) → IsGroup front g → None ≡ Some g) → Start text rest groups → ⊥
  front_never_at rest groups none (ended g is e) = lacks_not text front others (group_lacks text g is) parts
  front_never_at rest groups none (gap g f after is at e) =
      let same = cut f (58 ∷ after) (group_lacks f g is) at in
      let n = none g (subst (λ (t : List ℕ). IsGroup t g) (sym same.0) is) in cc
  front_never_at rest groups none (goes_on g h gs one r is at opens) =
      let same = cut one r (group_lacks one g is) at in
      let n = none g (subst (λ (t : List ℕ). IsGroup t g) (sym same.0) is) in cc

  pub front_never : (rest groups : List ℕ) → ((g : ℕ) → IsGroup front g → None ≡ Some g) → 0 < length groups
      → Opens text groups rest → ⊥
  front_never rest groups none some opens = front_never_at rest groups none (start_of text rest groups some opens)

  pub gap_rest : take (length text - length front) (drop (length front) text) ≡ 58 ∷ others
  gap_rest = rest_whole text (length front) ∙ ap (drop (length front)) parts ∙ drop-append_seam front (58 ∷ others)

  pub gap_found : (count value now g : ℕ) → IsGroup front g → now ≡ value * 65536 + g
      → (after : List ℕ) × (others ≡ 58 ∷ after)
      → IsSide count value text (count + 1) now (take (length text - length front) (drop (length front) text))
  gap_found count value now g group is colon =
      subst (λ (r : List ℕ). IsSide count value text (count + 1) now r) (sym gap_rest) (record {
        groups = g ∷ [];
        counted = refl;
        number = is;
        opens = record {
          front = front;
          spelled = group;
          parts = parts;
          stops = subst (λ (t : List ℕ). IsEndOrGap (58 ∷ t)) (sym colon.1) (refl, refl);
        };
      })

  gap_only_at : (count value now found : ℕ) (rest groups : List ℕ) → ((g : ℕ) → IsGroup front g → Some found ≡ Some g)
      → now ≡ value * 65536 + found → (after : List ℕ) × (others ≡ 58 ∷ after) → Start text rest groups
      → SideIs count value groups (count + 1) now rest
      (take (length text - length front) (drop (length front) text))
  gap_only_at count value now found rest groups one is colon (ended g group e) =
      absurd (lacks_not text front others (group_lacks text g group) parts)
  gap_only_at count value now found rest groups one is colon (gap g f after group at e) =
      let same = cut f (58 ∷ after) (group_lacks f g group) at in
      let number : found ≡ g = ap (λ o. unwrap_or o 0) (one g (subst (λ (t : List ℕ). IsGroup t g) (sym same.0) group))
      in
      (refl, is ∙ ap (λ x. value * 65536 + x) number, gap_rest ∙ ap (λ t. 58 ∷ t) same.1 ∙ sym e)
  gap_only_at count value now found rest groups one is colon (goes_on g h gs first r group at opens) =
      let same = cut first r (group_lacks first g group) at in
      absurd (no_colon_first r colon.0 (opens_start r h gs rest opens) (sym same.1 ∙ colon.1))

  pub gap_only : (count value now found : ℕ) (rest groups : List ℕ) → ((g : ℕ) → IsGroup front g → Some found ≡ Some g)
      → now ≡ value * 65536 + found → (after : List ℕ) × (others ≡ 58 ∷ after) → 0 < length groups
      → Opens text groups rest
      → SideIs count value groups (count + 1) now rest
      (take (length text - length front) (drop (length front) text))
  gap_only count value now found rest groups one is colon some opens =
      gap_only_at count value now found rest groups one is colon (start_of text rest groups some opens)

  -- what comes behind the colon is no colon
  module _ (no_gap : (r : List ℕ) → others ≡ 58 ∷ r → ⊥) where
    full_never_at : (count : ℕ) (rest groups : List ℕ) → count + 1 ≡ 8 → count + length groups ≤ 8
        → Start text rest groups → ⊥
    full_never_at count rest groups full few (ended g is e) = lacks_not text front others (group_lacks text g is) parts
    full_never_at count rest groups full few (gap g f after is at e) =
        no_gap after (cut f (58 ∷ after) (group_lacks f g is) at).1
    full_never_at count rest groups full few (goes_on g h gs one r is at opens) = omega arith

    pub full_never : (count : ℕ) (rest groups : List ℕ) → count + 1 ≡ 8 → 0 < length groups → count + length groups ≤ 8
        → Opens text groups rest → ⊥
    full_never count rest groups full some few opens =
        full_never_at count rest groups full few (start_of text rest groups some opens)

    more_only_at : {S : Type 0} (o : Option S) (c : S → ℕ) (v : S → ℕ) (l : S → List ℕ) (count value now found : ℕ)
        (rest groups : List ℕ) → ((g : ℕ) → IsGroup front g → Some found ≡ Some g) → now ≡ value * 65536 + found
        → ((gs r : List ℕ) → 0 < length gs → count + 1 + length gs ≤ 8 → Opens others gs r
        → IsSomeAnd o (λ s. SideIs (count + 1) now gs (c s) (v s) r (l s))) → count + length groups ≤ 8
        → Start text rest groups → IsSomeAnd o (λ s. SideIs count value groups (c s) (v s) rest (l s))
    more_only_at o c v l count value now found rest groups one is go few (ended g group e) =
        absurd (lacks_not text front others (group_lacks text g group) parts)
    more_only_at o c v l count value now found rest groups one is go few (gap g f after group at e) =
        absurd (no_gap after (cut f (58 ∷ after) (group_lacks f g group) at).1)
    more_only_at o c v l count value now found rest groups one is go few (goes_on g h gs first r group at opens) =
        let same = cut first r (group_lacks first g group) at in
        let number : found
        ≡ g = ap (λ x. unwrap_or x 0) (one g (subst (λ (t : List ℕ). IsGroup t g) (sym same.0) group)) in
        let next : now ≡ value * 65536 + g = is ∙ ap (λ x. value * 65536 + x) number in
        some_more o _ _ (λ s side. (
          omega (arith, side.0),
          side.1 ∙ ap (λ n. number_from_digits_after 65536 n (h ∷ gs)) next,
          side.2,
        )) (go (h ∷ gs) rest (omega arith) (omega arith)
        (subst (λ (t : List ℕ). Opens t (h ∷ gs) rest) (sym same.1) opens))

    pub more_only : {S : Type 0} (o : Option S) (c : S → ℕ) (v : S → ℕ) (l : S → List ℕ) (count value now found : ℕ)
        (rest groups : List ℕ) → ((g : ℕ) → IsGroup front g → Some found ≡ Some g) → now ≡ value * 65536 + found
        → ((gs r : List ℕ) → 0 < length gs → count + 1 + length gs ≤ 8 → Opens others gs r
        → IsSomeAnd o (λ s. SideIs (count + 1) now gs (c s) (v s) r (l s))) → 0 < length groups
        → count + length groups ≤ 8 → Opens text groups rest
        → IsSomeAnd o (λ s. SideIs count value groups (c s) (v s) rest (l s))
    more_only o c v l count value now found rest groups one is go some few opens =
        more_only_at o c v l count value now found rest groups one is go few (start_of text rest groups some opens)

more_groups : (count value g c v : ℕ) (text front others groups r : List ℕ) → text ≡ front ++ (58 ∷ others)
    → IsGroup front g → count + 1 < c → c ≡ count + 1 + length groups
    → v ≡ number_from_digits_after 65536 (value * 65536 + g) groups → Opens others groups r
    → IsSide count value text c v r
more_groups count value g c v text front others [] r parts group grows counted number opens = absurd (omega arith)
more_groups count value g c v text front others (h ∷ gs) r parts group grows counted number opens = record {
  groups = g ∷ h ∷ gs;
  counted = omega (arith, counted);
  number = number;
  opens = record {
    front = front ++ (58 ∷ opens.front);
    spelled = (front, opens.front, group, refl, opens.spelled);
    parts = parts ∙ ap (λ t. front ++ (58 ∷ t)) opens.parts ∙ sym (append_assoc front (58 ∷ opens.front) r);
    stops = opens.stops;
  };
}

-- the groups behind the colon, and the one before it
pub more_found : (count value now g c v : ℕ) (text front others r : List ℕ) → text ≡ front ++ (58 ∷ others)
    → IsGroup front g → now ≡ value * 65536 + g → IsSide (count + 1) now others c v r → count + 1 < c
    → IsSide count value text c v r
more_found count value now g c v text front others r parts group is side grows =
    more_groups count value g c v text front others side.groups r parts group grows side.counted
    (side.number ∙ ap (λ n. number_from_digits_after 65536 n side.groups) is) side.opens

pub at_end : (text groups rest : List ℕ) → IsEndOrGap text → Opens text groups rest → SideIs 0 0 groups 0 0 rest text
at_end text [] rest ends opens = (refl, refl, opens.parts ∙ ap (λ f. f ++ rest) opens.spelled)
at_end text (g ∷ gs) rest ends opens = absurd (end_or_colon text (opens_start text g gs rest opens) ends)
