-- A text spells an address or spells none.
use Rattle.std.proofs.Common.{◌≡◌, ℕ, zero, suc, ◌+◌, ◌*◌, ◌-◌, ◌^◌, ◌<◌, ◌≤◌, ◌⊎◌, inl, inr, List, [], ◌∷◌, ◌++◌}
use Rattle.std.proofs.Common.{length, drop}
use Rattle.std.proofs.Common.{Some, refl, ap, sym, subst, ◌∙◌, append_assoc, length-append, arith}
use Rattle.std.proofs.lemmas.List.{append-nil}
use Rattle.std.specs.Char.{digit_value}
use Rattle.std.specs.Str.Iter.{LacksByte}
use Rattle.std.specs.Str.Parse.{AllDigits, digits_value}
use Rattle.std.specs.Int.Digits.{number_from_digits_after}
use Rattle.urpf_base.specs.declared.address.Addr.{Addr}
use Rattle.urpf_base.specs.declared.address.Addr.TheVariants.{V4, V6}
use Rattle.ip_text.specs.Groups.{IsGroup}
use Rattle.ip_text.specs.Sides.{IsEndOrGap, Opens}
use Rattle.ip_text.specs.Texts.{IsV6, SpellsAddr, dotted}
use Rattle.ip_text.proofs.Forms.{forms, all_of, joined_found, no_gap_at_end}
use Rattle.ip_text.proofs.Known.{Known, known_both, known_like, known_same, known_less, known_text, known_below}
use Rattle.ip_text.proofs.Once.{cut_once, ends_here, opens_once}
use Rattle.ip_text.proofs.Sides.{lacks_not}
use Rattle.ip_text.proofs.Slashes.{lacks_cons}
use Rattle.ip_text.proofs.Spelling.{Start, ended, gap, goes_on, start_of, group_lacks, gap_is}

known_digits : (text : List ℕ) → Known (AllDigits 16 text)
known_digits [] = inl tt
known_digits (c ∷ cs) = known_both _ _ (known_less (digit_value c) 16) (known_digits cs)

known_group : (text : List ℕ) → Known ((g : ℕ) × IsGroup text g)
known_group text =
    known_like ((0 < length text) × ((length text < 5) × AllDigits 16 text)) ((g : ℕ) × IsGroup text g)
    (λ h. (
      digits_value 16 text,
      record { some = h.0; few = let few = h.1.0 in omega arith; digits = h.1.1; value = refl },
    ))
    (λ h. (h.1.some, (let few = h.1.few in omega arith, h.1.digits)))
    (known_both _ _ (known_less 0 (length text)) (known_both _ _ (known_less (length text) 5) (known_digits text)))

-- the text lacks the mark, or is cut at its first one
abbrev pub Cut : ℕ → List ℕ → Type 0
Cut mark text = LacksByte mark text
    ⊎ ((front : List ℕ) × (others : List ℕ) × LacksByte mark front × (text ≡ front ++ (mark ∷ others)))

cut_more : (mark c : ℕ) (cs : List ℕ) → Known (c ≡ mark) → Cut mark cs → Cut mark (c ∷ cs)
cut_more mark c cs (inl is) rest = inr ([], cs, (λ k less. absurd (omega (arith, less))), ap (λ x. x ∷ cs) is)
cut_more mark c cs (inr never) (inl lacks) = inl (lacks_cons mark c cs never lacks)
cut_more mark c cs (inr never) (inr r) =
    inr (c ∷ r.0, r.1, lacks_cons mark c r.0 never r.2, ap (λ t. c ∷ t) r.3)

pub cut_of : (mark : ℕ) (text : List ℕ) → Cut mark text
cut_of mark [] = inl (λ k less. absurd (omega (arith, less)))
cut_of mark (c ∷ cs) = cut_more mark c cs (known_same c mark) (cut_of mark cs)

known_end : (text : List ℕ) → Known (IsEndOrGap text)
known_end [] = inl tt
known_end (a ∷ []) = inr (λ h. h)
known_end (a ∷ b ∷ cs) = known_both _ _ (known_same a 58) (known_same b 58)

abbrev OpensSome : List ℕ → Type 0
OpensSome text = (gs : List ℕ) × (rest : List ℕ) × Opens text gs rest

start_in : (text gs rest : List ℕ) → (IsEndOrGap text → ⊥) → Opens text gs rest → Start text rest gs
start_in text [] rest never opens = absurd (never (ends_here text rest opens))
start_in text (g ∷ gs) rest never opens = start_of text rest (g ∷ gs) (omega arith) opens

alone_never : (text rest gs : List ℕ) → LacksByte 58 text → (((g : ℕ) × IsGroup text g) → ⊥) → Start text rest gs → ⊥
alone_never text rest gs lacks none (ended g is e) = none (g, is)
alone_never text rest gs lacks none (gap g front after is parts e) = lacks_not text front (58 ∷ after) lacks parts
alone_never text rest gs lacks none (goes_on g h more one others is parts opens) =
    lacks_not text one others lacks parts

alone : (text : List ℕ) → (IsEndOrGap text → ⊥) → LacksByte 58 text → Known ((g : ℕ) × IsGroup text g)
    → Known (OpensSome text)
alone text never lacks (inl g) =
    inl (g.0 ∷ [], [], record { front = text; spelled = g.1; parts = sym (append-nil text); stops = tt })
alone text never lacks (inr none) =
    inr (λ o. alone_never text o.1 o.0 lacks none (start_in text o.0 o.1 never o.2))

module _ (text front others : List ℕ) (lacks : LacksByte 58 front) (parts : text ≡ front ++ (58 ∷ others)) where
  first_never : (rest gs : List ℕ) → (((g : ℕ) × IsGroup front g) → ⊥) → Start text rest gs → ⊥
  first_never rest gs none (ended g is e) = lacks_not text front others (group_lacks text g is) parts
  first_never rest gs none (gap g f after is p e) =
      let same = cut_once 58 f front (58 ∷ after) others (group_lacks f g is) lacks (sym p ∙ parts) in
      none (g, subst (λ (t : List ℕ). IsGroup t g) same.0 is)
  first_never rest gs none (goes_on g h more one behind is p opens) =
      let same = cut_once 58 one front behind others (group_lacks one g is) lacks (sym p ∙ parts) in
      none (g, subst (λ (t : List ℕ). IsGroup t g) same.0 is)

  more_never : (rest gs : List ℕ) → (((after : List ℕ) × (others ≡ 58 ∷ after)) → ⊥)
      → ((h : ℕ) (hs left : List ℕ) → Opens others (h ∷ hs) left → ⊥) → Start text rest gs → ⊥
  more_never rest gs never next (ended g is e) = lacks_not text front others (group_lacks text g is) parts
  more_never rest gs never next (gap g f after is p e) =
      let same = cut_once 58 f front (58 ∷ after) others (group_lacks f g is) lacks (sym p ∙ parts) in
      never (after, sym same.1)
  more_never rest gs never next (goes_on g h more one behind is p opens) =
      let same = cut_once 58 one front behind others (group_lacks one g is) lacks (sym p ∙ parts) in
      next h more rest (subst (λ (t : List ℕ). Opens t (h ∷ more) rest) same.1 opens)

  more_by : (IsEndOrGap text → ⊥) → ((g : ℕ) × IsGroup front g) → (((after : List ℕ) × (others ≡ 58 ∷ after)) → ⊥)
      → (gs rest : List ℕ) → Opens others gs rest → Known (OpensSome text)
  more_by never g colon [] rest o =
      inr (λ p. more_never p.1 p.0 colon
      (λ h hs left q. let e = (opens_once others rest left [] (h ∷ hs) o q).0 in omega (arith, ap length e))
      (start_in text p.0 p.1 never p.2))
  more_by never g colon (h ∷ hs) rest o = inl (
    g.0 ∷ h ∷ hs,
    rest,
    record {
      front = front ++ (58 ∷ o.front);
      spelled = (front, o.front, g.1, refl, o.spelled);
      parts = parts ∙ ap (λ t. front ++ (58 ∷ t)) o.parts ∙ sym (append_assoc front (58 ∷ o.front) rest);
      stops = o.stops;
    },
  )

  cut_by : (IsEndOrGap text → ⊥) → Known ((g : ℕ) × IsGroup front g) → Known ((after : List ℕ) × (others ≡ 58 ∷ after))
      → Known (OpensSome others) → Known (OpensSome text)
  cut_by never (inr none) colon go = inr (λ p. first_never p.1 p.0 none (start_in text p.0 p.1 never p.2))
  cut_by never (inl g) (inl after) go = inl (
    g.0 ∷ [],
    58 ∷ 58 ∷ after.0,
    record {
      front = front;
      spelled = g.1;
      parts = parts ∙ ap (λ t. front ++ (58 ∷ t)) after.1;
      stops = (refl, refl);
    },
  )
  cut_by never (inl g) (inr colon) (inl o) = more_by never g colon o.0 o.1 o.2
  cut_by never (inl g) (inr colon) (inr none) =
      inr (λ p. more_never p.1 p.0 colon (λ h hs left q. none (h ∷ hs, left, q)) (start_in text p.0 p.1 never p.2))

known_colon : (text : List ℕ) → Known ((after : List ℕ) × (text ≡ 58 ∷ after))
known_colon [] = inr (λ h. omega (arith, ap length h.1))
known_colon (c ∷ cs) =
    known_like (c ≡ 58) _ (λ is. (cs, ap (λ x. x ∷ cs) is)) (λ h. let e = h.1 in cc) (known_same c 58)

opens_by : (text : List ℕ) → Known (IsEndOrGap text) → Cut 58 text
    → ((others : List ℕ) → length others < length text → Known (OpensSome others)) → Known (OpensSome text)
opens_by text (inl ends) cut go = inl ([], text, record { front = []; spelled = refl; parts = refl; stops = ends })
opens_by text (inr never) (inl lacks) go = alone text never lacks (known_group text)
opens_by text (inr never) (inr c) go =
    cut_by text c.0 c.1 c.2 c.3 never (known_group c.0) (known_colon c.1)
    (go c.1 (omega (arith, ap length c.3, length-append c.0 (58 ∷ c.1))))

opens_within : (n : ℕ) (text : List ℕ) → length text ≤ n → Known (OpensSome text)
opens_within zero text few = opens_by text (known_end text) (cut_of 58 text) (λ others less. absurd (omega arith))
opens_within (suc n) text few =
    opens_by text (known_end text) (cut_of 58 text) (λ others less. opens_within n others (omega arith))

known_opens : (text : List ℕ) → Known (OpensSome text)
known_opens text = opens_within (length text) text (omega arith)

abbrev SomeV6 : List ℕ → Type 0
SomeV6 text = (n : ℕ) × IsV6 text n

module _ (text gs rest : List ℕ) (o : Opens text gs rest) where
  whole_by : rest ≡ [] → Known (length gs ≡ 8) → Known (SomeV6 text)
  whole_by e (inl eight) = inl (
    number_from_digits_after 65536 0 gs,
    record {
      groups = gs;
      eight = eight;
      number = refl;
      spelled = inl (all_of text gs rest o e);
    },
  )
  whole_by e (inr never) = inr (λ v. elim (forms text v.0 v.1) [
    | inl f ↦ never (ap length (opens_once text rest [] gs f.groups o f.opens).0 ∙ f.eight)
    | inr f ↦ no_gap_at_end f.after (sym e ∙ (opens_once text rest (58 ∷ 58 ∷ f.after) gs f.left o f.first).1)
  ])

  module _ (after : List ℕ) (e : rest ≡ 58 ∷ 58 ∷ after) where
    after_none : ((hs left : List ℕ) → length gs + length hs ≤ 7 → left ≡ [] → Opens after hs left → ⊥)
        → SomeV6 text → ⊥
    after_none none v = elim (forms text v.0 v.1) [
      | inl f ↦ no_gap_at_end after (sym (opens_once text rest [] gs f.groups o f.opens).1 ∙ e)
      | inr f ↦
          let first = opens_once text rest (58 ∷ 58 ∷ f.after) gs f.left o f.first in
          none f.right [] (omega (arith, ap length first.0, f.fewer)) refl
          (subst (λ (t : List ℕ). Opens t f.right []) (ap (drop 2) (sym first.1 ∙ e)) f.last)
    ]

    short_by : (hs left : List ℕ) → Opens after hs left → Known ((length gs + length hs < 8) × (left ≡ []))
        → Known (SomeV6 text)
    short_by hs left p (inl h) =
        let v : ℕ = number_from_digits_after 65536 0 gs * 2 ^ (16 * (8 - length gs))
        + number_from_digits_after 65536 0 hs in
        inl (
          v,
          joined_found text after rest left (length gs) (number_from_digits_after 65536 0 gs) (length hs)
              (number_from_digits_after 65536 0 hs) (Some v)
              (record { groups = gs; counted = omega arith; number = refl; opens = o }) e
              (record { groups = hs; counted = omega arith; number = refl; opens = p })
              ((let few = h.0 in omega arith, h.1), refl),
        )
    short_by hs left p (inr never) =
        inr (after_none (λ is end few none q.
        let same = opens_once after left end hs is p q in
        never (omega (arith, ap length same.0, few), same.1 ∙ none)))

    gap_by : Known (OpensSome after) → Known (SomeV6 text)
    gap_by (inl p) = short_by p.0 p.1 p.2 (known_both _ _ (known_less (length gs + length p.0) 8) (known_text p.1 []))
    gap_by (inr none) = inr (after_none (λ is end few nothing q. none (is, end, q)))

  v6_on : (rest ≡ []) ⊎ ((after : List ℕ) × (rest ≡ 58 ∷ 58 ∷ after)) → Known (SomeV6 text)
  v6_on (inl e) = whole_by e (known_same (length gs) 8)
  v6_on (inr a) = gap_by a.0 a.1 (known_opens a.0)

v6_by : (text : List ℕ) → Known (OpensSome text) → Known (SomeV6 text)
v6_by text (inl p) = v6_on text p.0 p.1 p.2 (gap_is p.1 p.2.stops)
v6_by text (inr none) = inr (λ v. elim (forms text v.0 v.1) [
  | inl f ↦ none (f.groups, [], f.opens)
  | inr f ↦ none (f.left, 58 ∷ 58 ∷ f.after, f.first)
])

no_addr : (text : List ℕ) → ((n : ℕ) × (n < 2 ^ 32) × (text ≡ dotted n) → ⊥) → (SomeV6 text → ⊥) → (a : Addr)
    → SpellsAddr text a → ⊥
no_addr text never none (V4 n) is = never (n, is.0, is.1)
no_addr text never none (V6 n) is = none (n, is)

addr_by : (text : List ℕ) → Known ((n : ℕ) × (n < 2 ^ 32) × (text ≡ dotted n)) → Known (SomeV6 text)
    → Known ((a : Addr) × SpellsAddr text a)
addr_by text (inl four) six = inl (V4 four.0, (four.1, four.2))
addr_by text (inr never) (inl six) = inl (V6 six.0, six.1)
addr_by text (inr never) (inr none) = inr (λ a. no_addr text never none a.0 a.1)

pub known_addr : (text : List ℕ) → Known ((a : Addr) × SpellsAddr text a)
known_addr text =
    addr_by text (known_below (λ n. text ≡ dotted n) (λ n. known_text text (dotted n)) (2 ^ 32))
    (v6_by text (known_opens text))
