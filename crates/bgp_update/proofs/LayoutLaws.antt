-- A body has one layout, and none exactly where its lengths say too much.
use Rattle.std.proofs.Common.{◌≡◌, ◌⊎◌, inl, inr, ℕ, ◌+◌, ◌-◌, ◌*◌, ◌≤◌, List, ◌++◌, length, take, drop, slice_index}
use Rattle.std.proofs.Common.{refl, ap, sym, ◌∙◌, length-append, arith}
use Rattle.std.proofs.lemmas.Bool.{cases_lt}
use Rattle.std.proofs.lemmas.List.{take-append-drop, length-take-le, length-drop, drop-drop}
use Rattle.std.proofs.Math.Seq.{take-append_seam, drop-append_seam}
use Rattle.byteorder.specs.Endian.{big_number}
use Rattle.byteorder.specs.Numbers.{big_from-append, big_from-take}
use Rattle.bgp_update.specs.Layout.{IsCounted, IsLaidOut}
use Rattle.bgp_update.specs.Faults.{withdrawn_length, attributes_length, AreTooLong}

-- what the two first octets say is how long the field is
counted-length : (text field rest : List ℕ) → IsCounted text field rest → big_number 2 text ≡ length field
counted-length text field rest c =
    ap (big_number 2) c.parts ∙ big_from-append 2 c.size (field ++ rest) (omega (arith, c.sized)) ∙ sym c.counted

-- what comes after the two first octets
counted-drop : (text field rest : List ℕ) → IsCounted text field rest → drop 2 text ≡ field ++ rest
counted-drop text field rest c =
    ap (drop 2) c.parts ∙ ap (λ n. drop n (c.size ++ (field ++ rest))) (sym c.sized)
    ∙ drop-append_seam c.size (field ++ rest)

-- a text that begins with a counted field has just this field
pub counted-field : (text field rest : List ℕ) → IsCounted text field rest
    → take (big_number 2 text) (drop 2 text) ≡ field
counted-field text field rest c =
    ap (λ n. take n (drop 2 text)) (counted-length text field rest c)
    ∙ ap (take (length field)) (counted-drop text field rest c) ∙ take-append_seam field rest

-- and just this rest
pub counted-rest : (text field rest : List ℕ) → IsCounted text field rest
    → drop (big_number 2 text) (drop 2 text) ≡ rest
counted-rest text field rest c =
    ap (λ n. drop n (drop 2 text)) (counted-length text field rest c)
    ∙ ap (drop (length field)) (counted-drop text field rest c) ∙ drop-append_seam field rest

-- the text is as long as its parts
counted-whole : (text field rest : List ℕ) → IsCounted text field rest
    → length text ≡ 2 + (big_number 2 text + length rest)
counted-whole text field rest c =
    omega (
      arith,
      ap length c.parts,
      length-append c.size (field ++ rest),
      length-append field rest,
      c.sized,
      counted-length text field rest c,
    )

-- a text that is long enough begins with a counted field
counted_at : (text : List ℕ) → 2 + big_number 2 text ≤ length text
    → IsCounted text (take (big_number 2 text) (drop 2 text)) (drop (big_number 2 text) (drop 2 text))
counted_at text enough =
    let count = big_number 2 text in
    let left : length (drop 2 text) ≡ length text - 2 = length-drop 2 text in
    record {
      size = take 2 text;
      parts = sym (take-append-drop 2 text) ∙ ap (λ t. take 2 text ++ t) (sym (take-append-drop count (drop 2 text)));
      sized = length-take-le 2 text (omega (arith, enough));
      counted =
          length-take-le count (drop 2 text) (omega (arith, enough, left))
          ∙ sym (big_from-take 0 2 2 text (omega arith));
    }

same_rest : (text field rest other more : List ℕ) → text ≡ other → IsCounted text field rest → (next : List ℕ)
    → IsCounted other more next → (field ≡ more) × (rest ≡ next)
same_rest text field rest other more same first next second = (
  sym (counted-field text field rest first) ∙ ap (λ t. take (big_number 2 t) (drop 2 t)) same
      ∙ counted-field other more next second,
  sym (counted-rest text field rest first) ∙ ap (λ t. drop (big_number 2 t) (drop 2 t)) same
      ∙ counted-rest other more next second,
)

-- the fields of two layouts are the same
pub record AreSame (withdrawn field nlri withdrawn_too field_too nlri_too : List ℕ) : Type 0 where
  pub same_withdrawn : withdrawn ≡ withdrawn_too
  pub same_field : field ≡ field_too
  pub same_nlri : nlri ≡ nlri_too

-- a body has one layout
pub one_layout : (body w f n x g m : List ℕ) → IsLaidOut body w f n → IsLaidOut body x g m → AreSame w f n x g m
one_layout body w f n x g m a b =
    let front = same_rest body w a.rest body x refl a.first b.rest b.first in
    let back = same_rest a.rest f n b.rest g front.1 a.second m b.second in
    record { same_withdrawn = front.0; same_field = back.0; same_nlri = back.1 }

after_withdrawn : (body w f n : List ℕ) (a : IsLaidOut body w f n) → attributes_length body ≡ big_number 2 a.rest
after_withdrawn body w f n a =
    ap (big_number 2) (sym (drop-drop (withdrawn_length body) 2 body) ∙ counted-rest body w a.rest a.first)

-- the lengths of a body that is laid out do not say too much
pub fits : (body w f n : List ℕ) → IsLaidOut body w f n → AreTooLong body → ⊥
fits body w f n a (inl past) =
    omega (arith, past, counted-whole body w a.rest a.first, counted-whole a.rest f n a.second)
fits body w f n a (inr past) =
    omega (
      arith,
      past,
      counted-whole body w a.rest a.first,
      counted-whole a.rest f n a.second,
      after_withdrawn body w f n a,
    )

-- a layout of the body
pub record HasLayout (body : List ℕ) : Type 0 where
  pub withdrawn : List ℕ
  pub field : List ℕ
  pub nlri : List ℕ
  pub laid_out : IsLaidOut body withdrawn field nlri

layout_at : (body : List ℕ) → withdrawn_length body + 4 ≤ length body
    → withdrawn_length body + attributes_length body + 4 ≤ length body → HasLayout body
layout_at body enough fitting =
    let rest = drop (withdrawn_length body) (drop 2 body) in
    let same : drop (2 + withdrawn_length body) body ≡ rest = sym (drop-drop (withdrawn_length body) 2 body) in
    let count : attributes_length body ≡ big_number 2 rest = ap (big_number 2) same in
    let left : length rest ≡ length body - 2 - withdrawn_length body = length-drop (withdrawn_length body) (drop 2 body)
    ∙ ap (λ n. n - withdrawn_length body) (length-drop 2 body) in
    record {
      withdrawn = take (withdrawn_length body) (drop 2 body);
      field = take (big_number 2 rest) (drop 2 rest);
      nlri = drop (big_number 2 rest) (drop 2 rest);
      laid_out = record {
        rest = rest;
        first = counted_at body (omega (arith, enough));
        second = counted_at rest (omega (arith, fitting, count, left));
      };
    }

-- a body of two lengths is laid out, or its lengths say too much
pub laid_out_or_too_long : (body : List ℕ) → HasLayout body ⊎ AreTooLong body
laid_out_or_too_long body = elim (cases_lt (length body) (withdrawn_length body + 4)) [
  | inl past ↦ inr (inl past)
  | inr enough ↦ elim (cases_lt (length body) (withdrawn_length body + attributes_length body + 4)) [
    | inl past ↦ inr (inr past)
    | inr fitting ↦ inl (layout_at body enough fitting)
  ]
]

-- a body without a layout has lengths that say too much
pub too_long : (body : List ℕ) → ((withdrawn field nlri : List ℕ) → IsLaidOut body withdrawn field nlri → ⊥)
    → AreTooLong body
too_long body none =
    elim (laid_out_or_too_long body) [ inl l ↦ absurd (none l.withdrawn l.field l.nlri l.laid_out) | inr past ↦ past ]

-- what is cut off behind the two first octets, as they say, is the field and the rest
pub counted-cut : (text field rest more front back : List ℕ) (count : ℕ)
    → count ≡ slice_index text 0 * 256 + slice_index text 1 → more ≡ drop 2 text → front ≡ take count more
    → back ≡ drop count more → IsCounted text field rest
    → (front ≡ field) × (back ≡ rest)
counted-cut text field rest more front back count counts after front_is back_is c =
    let same : count ≡ big_number 2 text = omega (arith, counts) in (
      front_is ∙ ap (take count) after ∙ ap (λ n. take n (drop 2 text)) same ∙ counted-field text field rest c,
      back_is ∙ ap (drop count) after ∙ ap (λ n. drop n (drop 2 text)) same ∙ counted-rest text field rest c,
    )
