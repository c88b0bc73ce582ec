-- A field of attributes is one attribute after the other, and the first of them is read by a function.
use Rattle.std.proofs.Common.{◌≡◌, ℕ, ◌≤◌, Bool, true, false, List, [], ◌∷◌, ◌++◌, length, take, drop, Some, None}
use Rattle.std.proofs.Common.{if◌then◌else◌, nat_lt, refl, ap, sym, subst, ◌∙◌, append_assoc, length-append, arith}
use Rattle.std.proofs.Common.{ltb-false, le-ltb}
use Rattle.std.proofs.lemmas.List.{take-append-drop, length-take-le}
use Rattle.std.proofs.Math.Seq.{take-append_seam, drop-append_seam}
use Rattle.byteorder.specs.Endian.{big_number}
use Rattle.urpf_base.specs.Series.{Begins, ReadsFront}
use Rattle.bgp_attr.specs.Attribute.{Attribute, attribute_of, length_octets, SpellsAttribute}
use Rattle.byteorder.specs.Numbers.{big_from-append, big_from-take}
use Rattle.bgp_attr.specs.Front.{cut_attribute, attribute_of_length, attribute_after, attribute_front}

cut_begins : (flags code : ℕ) (text : List ℕ) → length_octets flags ≤ length text
    → big_number (length_octets flags) text ≤ length (drop (length_octets flags) text)
    → Begins SpellsAttribute (flags ∷ code ∷ text)
    (cut_attribute flags code (big_number (length_octets flags) text) (drop (length_octets flags) text)).0
    (cut_attribute flags code (big_number (length_octets flags) text) (drop (length_octets flags) text)).1
cut_begins flags code text enough whole =
    let octets = length_octets flags in
    let count = big_number octets text in
    let value = take count (drop octets text) in
    let parts : text ≡ take octets text ++ (value ++ drop count (drop octets text)) =
    sym (take-append-drop octets text)
    ∙ ap (λ t. take octets text ++ t) (sym (take-append-drop count (drop octets text))) in
    record {
      one = flags ∷ code ∷ (take octets text ++ value);
      spelled = record {
        size = take octets text;
        parts = refl;
        sized = length-take-le octets text enough;
        counted =
            length-take-le count (drop octets text) whole ∙ sym (big_from-take 0 octets octets text (omega arith));
      };
      parts = ap (λ t. flags ∷ code ∷ t)
          (parts ∙ sym (append_assoc (take octets text) value (drop count (drop octets text))));
    }

whole_begins : (flags code : ℕ) (text rest : List ℕ) (x : Attribute) (short : Bool) → length_octets flags ≤ length text
    → nat_lt (length (drop (length_octets flags) text)) (big_number (length_octets flags) text) ≡ short
    → (if short then None
    else Some (cut_attribute flags code (big_number (length_octets flags) text) (drop (length_octets flags) text)))
    ≡ Some (x, rest) → Begins SpellsAttribute (flags ∷ code ∷ text) x rest
whole_begins flags code text rest x true enough short_is found = absurd cc
whole_begins flags code text rest x false enough short_is found =
    let same : cut_attribute flags code (big_number (length_octets flags) text) (drop (length_octets flags) text)
    ≡ (x, rest) = cc in
    subst (λ (p : Attribute × List ℕ). Begins SpellsAttribute (flags ∷ code ∷ text) p.0 p.1) same
    (cut_begins flags code text enough
    (ltb-false (length (drop (length_octets flags) text)) (big_number (length_octets flags) text) short_is))

sized_begins : (flags code : ℕ) (text rest : List ℕ) (x : Attribute) (short : Bool)
    → nat_lt (length text) (length_octets flags) ≡ short
    → (if short then None
    else attribute_of_length flags code (big_number (length_octets flags) text) (drop (length_octets flags) text))
    ≡ Some (x, rest) → Begins SpellsAttribute (flags ∷ code ∷ text) x rest
sized_begins flags code text rest x true short_is found = absurd cc
sized_begins flags code text rest x false short_is found =
    whole_begins flags code text rest x
    (nat_lt (length (drop (length_octets flags) text)) (big_number (length_octets flags) text))
    (ltb-false (length text) (length_octets flags) short_is) refl found

attribute_taken : (text rest : List ℕ) (x : Attribute) → attribute_front text ≡ Some (x, rest)
    → Begins SpellsAttribute text x rest
attribute_taken [] rest x found = absurd cc
attribute_taken (flags ∷ []) rest x found = absurd cc
attribute_taken (flags ∷ code ∷ text) rest x found =
    sized_begins flags code text rest x (nat_lt (length text) (length_octets flags)) refl found

cut_again : (flags code : ℕ) (value rest : List ℕ)
    → cut_attribute flags code (length value) (value ++ rest) ≡ (attribute_of flags code value, rest)
cut_again flags code value rest =
    ap (λ t. (attribute_of flags code t, drop (length value) (value ++ rest))) (take-append_seam value rest)
    ∙ ap (λ t. (attribute_of flags code value, t)) (drop-append_seam value rest)

length_again : (flags code count : ℕ) (value rest : List ℕ) → length value ≡ count
    → attribute_of_length flags code count (value ++ rest) ≡ Some (attribute_of flags code value, rest)
length_again flags code count value rest counted =
    let enough : count ≤ length (value ++ rest) = omega (arith, counted, length-append value rest) in
    ap (λ b. if b then None else Some (cut_attribute flags code count (value ++ rest)))
    (le-ltb (length (value ++ rest)) count enough)
    ∙ ap (λ n. Some (cut_attribute flags code n (value ++ rest))) (sym counted)
    ∙ ap (λ p. Some p) (cut_again flags code value rest)

after_again : (flags code octets : ℕ) (size value rest : List ℕ) → length size ≡ octets
    → length value ≡ big_number octets size
    → attribute_after flags code octets (size ++ (value ++ rest)) ≡ Some (attribute_of flags code value, rest)
after_again flags code octets size value rest sized counted =
    let text = size ++ (value ++ rest) in
    let enough : octets ≤ length text = omega (arith, sized, length-append size (value ++ rest)) in
    ap (λ b. if b then None else attribute_of_length flags code (big_number octets text) (drop octets text))
    (le-ltb (length text) octets enough)
    ∙ ap (λ n. attribute_of_length flags code n (drop octets text))
    (big_from-append octets size (value ++ rest) (omega (arith, sized)))
    ∙ ap (λ n. attribute_of_length flags code (big_number octets size) (drop n text)) (sym sized)
    ∙ ap (λ t. attribute_of_length flags code (big_number octets size) t) (drop-append_seam size (value ++ rest))
    ∙ length_again flags code (big_number octets size) value rest counted

attribute_again : (one rest : List ℕ) (x : Attribute) → SpellsAttribute one x
    → attribute_front (one ++ rest) ≡ Some (x, rest)
attribute_again one rest x spelled =
    ap (λ t. attribute_front (t ++ rest)) spelled.parts
    ∙ ap (λ t. attribute_after x.flags x.code (length_octets x.flags) t) (append_assoc spelled.size x.value rest)
    ∙ after_again x.flags x.code (length_octets x.flags) spelled.size x.value rest spelled.sized spelled.counted

-- the function finds the attribute that is spelled in front, and nothing else
pub attribute_reads : ReadsFront SpellsAttribute attribute_front
attribute_reads = record {
  taken = attribute_taken;
  again = attribute_again;
  some = λ one x spelled. let e : length one
      ≡ length (x.flags ∷ x.code ∷ (spelled.size ++ x.value)) = ap length spelled.parts in omega arith;
}
