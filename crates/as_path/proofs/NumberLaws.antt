-- AS numbers one after the other, each of as many octets as the width says.
use Rattle.std.proofs.Common.{◌≡◌, ℕ, zero, suc, ◌*◌, ◌<◌, ◌≤◌, Bool, true, false, List, [], ◌∷◌, ◌++◌, length, take}
use Rattle.std.proofs.Common.{drop, Some, None, if◌then◌else◌, nat_lt, refl, ap, sym, subst, ◌∙◌, length-append}
use Rattle.std.proofs.Common.{length-drop, arith, ltb-false, le-ltb, lt-ltb}
use Rattle.std.proofs.lemmas.List.{take-append-drop, length-take-le}
use Rattle.std.proofs.Math.Seq.{drop-append_seam}
use Rattle.std.proofs.Math.Nat.{suc-mul, zero-mul}
use Rattle.byteorder.specs.Endian.{big_number}
use Rattle.byteorder.specs.Numbers.{big_from-append, big_from-take}
use Rattle.urpf_base.specs.Series.{Begins, SpellsAll, ReadsFront}
use Rattle.urpf_base.proofs.Series.{values_in-some, values_in-spelled}
use Rattle.as_path.specs.declared.widths.Width.{Width}
use Rattle.as_path.specs.declared.widths.Width.TheVariants.{Two, Four}
use Rattle.as_path.specs.Path.{octets_per, SpellsNumber}
use Rattle.as_path.specs.Front.{cut_number, number_front, numbers_in}

pub some_octets : (width : Width) → 0 < octets_per width
some_octets Two = omega arith
some_octets Four = omega arith

-- a text of enough octets begins with an AS number
pub number_front-enough : (width : Width) (text : List ℕ) → octets_per width ≤ length text
    → number_front width text ≡ Some (cut_number width text)
number_front-enough width text enough =
    ap (λ b. if b then None else Some (cut_number width text)) (le-ltb (length text) (octets_per width) enough)

number_front-short : (width : Width) (text : List ℕ) → length text < octets_per width → number_front width text ≡ None
number_front-short width text short =
    ap (λ b. if b then None else Some (cut_number width text)) (lt-ltb (length text) (octets_per width) short)

number_begins : (width : Width) (text : List ℕ) → octets_per width ≤ length text
    → Begins (SpellsNumber width) text (big_number (octets_per width) text) (drop (octets_per width) text)
number_begins width text enough = record {
  one = take (octets_per width) text;
  spelled =
      record {
        whole = length-take-le (octets_per width) text enough;
        value = sym (big_from-take 0 (octets_per width) (octets_per width) text (omega arith));
      };
  parts = sym (take-append-drop (octets_per width) text);
}

guarded_begins : (width : Width) (text rest : List ℕ) (n : ℕ) (short : Bool)
    → nat_lt (length text) (octets_per width) ≡ short
    → (if short then None else Some (cut_number width text)) ≡ Some (n, rest) → Begins (SpellsNumber width) text n rest
guarded_begins width text rest n true short_is found = absurd cc
guarded_begins width text rest n false short_is found =
    let same : cut_number width text ≡ (n, rest) = cc in
    subst (λ (p : ℕ × List ℕ). Begins (SpellsNumber width) text p.0 p.1) same
    (number_begins width text (ltb-false (length text) (octets_per width) short_is))

number_again : (width : Width) (one rest : List ℕ) (n : ℕ) → SpellsNumber width one n
    → number_front width (one ++ rest) ≡ Some (n, rest)
number_again width one rest n spelled =
    number_front-enough width (one ++ rest) (omega (arith, spelled.whole, length-append one rest))
    ∙ ap (λ x. Some (x, drop (octets_per width) (one ++ rest)))
    (big_from-append (octets_per width) one rest (omega (arith, spelled.whole)) ∙ sym spelled.value)
    ∙ ap (λ k. Some (n, drop k (one ++ rest))) (sym spelled.whole)
    ∙ ap (λ t. Some (n, t)) (drop-append_seam one rest)

-- the function finds the AS number that is spelled in front, and nothing else
pub number_reads : (width : Width) → ReadsFront (SpellsNumber width) (number_front width)
number_reads width = record {
  taken = λ text rest n found. guarded_begins width text rest n (nat_lt (length text) (octets_per width)) refl found;
  again = number_again width;
  some = λ one n spelled. omega (arith, spelled.whole, some_octets width);
}

-- a text of so many AS numbers' octets has so many, the first and those of the rest
pub numbers_in-more : (width : Width) (text : List ℕ) → octets_per width ≤ length text
    → numbers_in width text ≡ big_number (octets_per width) text ∷ numbers_in width (drop (octets_per width) text)
numbers_in-more width text enough =
    values_in-some (number_front width) (number_reads width) text (drop (octets_per width) text)
    (big_number (octets_per width) text) (number_front-enough width text enough)

-- they are spelled one after the other, and there are so many
pub record AreNumbers (width : Width) (count : ℕ) (text : List ℕ) : Type 0 where
  pub spelled : SpellsAll (SpellsNumber width) text (numbers_in width text)
  pub counted : length (numbers_in width text) ≡ count

are_numbers_from : (width : Width) (count : ℕ) (text : List ℕ) → octets_per width ≤ length text
    → AreNumbers width count (drop (octets_per width) text) → AreNumbers width (suc count) text
are_numbers_from width count text enough rest =
    let parts = numbers_in-more width text enough in
    record {
      spelled =
          subst (λ (ns : List ℕ). SpellsAll (SpellsNumber width) text ns) (sym parts)
          (drop (octets_per width) text, number_begins width text enough, rest.spelled);
      counted = ap length parts ∙ ap suc rest.counted;
    }

pub are_numbers : (width : Width) (count : ℕ) (text : List ℕ) → length text ≡ count * octets_per width
    → AreNumbers width count text
are_numbers width zero [] whole = record { spelled = refl; counted = refl }
are_numbers width zero (x ∷ text) whole = absurd (omega (arith, whole))
are_numbers width (suc count) text whole =
    let enough : octets_per width ≤ length text = omega (arith, whole, suc-mul count (octets_per width)) in
    are_numbers_from width count text enough
    (are_numbers width count (drop (octets_per width) text)
    (omega (arith, whole, suc-mul count (octets_per width), length-drop (octets_per width) text)))

-- a text that spells these AS numbers has as many octets as they take
pub numbers-length : (width : Width) (text : List ℕ) (numbers : List ℕ) → SpellsAll (SpellsNumber width) text numbers
    → length text ≡ length numbers * octets_per width
numbers-length width text [] spelled = ap length spelled ∙ sym (zero-mul (octets_per width))
numbers-length width text (n ∷ numbers) spelled =
    let rest = numbers-length width spelled.0 numbers spelled.2 in
    omega (
      arith,
      rest,
      ap length spelled.1.parts,
      length-append spelled.1.one spelled.0,
      spelled.1.spelled.whole,
      suc-mul (length numbers) (octets_per width),
    )

-- the AS numbers that a text spells are those in it
pub numbers_in-spelled : (width : Width) (text : List ℕ) (numbers : List ℕ)
    → SpellsAll (SpellsNumber width) text numbers → numbers_in width text ≡ numbers
numbers_in-spelled width text numbers spelled =
    values_in-spelled (number_front width) (number_reads width) text numbers spelled

-- octets of so many AS numbers hold so many
pub counted_in : (width : Width) (count : ℕ) (text : List ℕ) → length text ≡ count * octets_per width
    → count ≡ length (numbers_in width text)
counted_in width count text whole = sym (are_numbers width count text whole).counted
