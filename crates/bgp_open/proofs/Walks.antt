-- What fields a text holds, one step at a time.
use Rattle.std.proofs.Common.{◌≡◌, ℕ, zero, suc, ◌+◌, ◌≤◌, Bool, true, false, List, [], ◌∷◌, ◌++◌, length, take, drop}
use Rattle.std.proofs.Common.{Option, Some, None, ap, sym, ◌∙◌, refl, arith, subst, length-append}
use Rattle.std.proofs.lemmas.Bool.{leb-true, le-leb}
use Rattle.std.proofs.lemmas.Bool.Decides.{nat_tests, Decides-eqb}
use Rattle.std.proofs.lemmas.List.{take_at, drop_at, take-append-drop, length-take-le}
use Rattle.std.specs.Prelude.{◌==◌, nat_le, if◌then◌else◌}
use Rattle.urpf_base.specs.Series.{SpellsAll, ReadsFront}
use Rattle.urpf_base.proofs.Series.{values_in-none, values_in-some, values_in-spelled, spells-more}
use Rattle.bgp_open.specs.Fields.{Field, field, SpellsField, field_at, fields_in, octets_of, are_fields}

-- what a field_at that answers Some has split
pub record IsSplit (text : List ℕ) (f : Field) (rest : List ℕ) : Type 0 where
  pub parts : text ≡ (f.code ∷ length f.value ∷ f.value) ++ rest

chosen : (test : Bool) (x : Field × List ℕ) (f : Field) (rest : List ℕ)
    → (if test then Some x else None) ≡ Some (f, rest) → (test ≡ true) × (x ≡ (f, rest))
chosen true x f rest is = (refl, let same : x ≡ (f, rest) = cc in same)
chosen false x f rest is = cc

field_at-split : (code count : ℕ) (tail : List ℕ) (f : Field) (rest : List ℕ)
    → field_at (code ∷ count ∷ tail) ≡ Some (f, rest) → IsSplit (code ∷ count ∷ tail) f rest
field_at-split code count tail f rest is =
    let both = chosen (nat_le count (length tail)) _ f rest is in
    let within : count ≤ length tail = leb-true _ _ both.0 in
    let is_field : field code (take count tail) ≡ f = ap (λ x. x.0) both.1 in
    let is_rest : drop count tail ≡ rest = ap (λ x. x.1) both.1 in
    let long : length (take count tail) ≡ count = length-take-le count tail within in
    let whole : code ∷ count ∷ tail ≡ (code ∷ length (take count tail) ∷ take count tail)
    ++ drop count tail =
    ap (λ xs. code ∷ count ∷ xs) (sym (take-append-drop count tail))
    ∙ ap (λ n. code ∷ n ∷ (take count tail ++ drop count tail)) (sym long) in
    record {
      parts = whole ∙ ap (λ (g : Field). (g.code ∷ length g.value ∷ g.value) ++ drop count tail) is_field
          ∙ ap (λ xs. (f.code ∷ length f.value ∷ f.value) ++ xs) is_rest;
    }

split_of : (text : List ℕ) (f : Field) (rest : List ℕ) → field_at text ≡ Some (f, rest) → IsSplit text f rest
split_of [] f rest is = cc
split_of (code ∷ []) f rest is = cc
split_of (code ∷ count ∷ tail) f rest is = field_at-split code count tail f rest is

field_at-again : (f : Field) (rest : List ℕ) → field_at ((f.code ∷ length f.value ∷ f.value) ++ rest) ≡ Some (f, rest)
field_at-again f rest =
    let value = f.value in
    let within : nat_le (length value) (length (value ++ rest)) ≡ true =
    le-leb _ _ (omega (arith, length-append value rest)) in
    ap (λ (t : Bool). if t
    then Some (field f.code (take (length value) (value ++ rest)), drop (length value) (value ++ rest)) else None)
    within
    ∙ ap (λ xs. Some (field f.code xs, drop (length value) (value ++ rest))) (take_at value rest (length value) refl)
    ∙ ap (λ xs. Some (f, xs)) (drop_at value rest (length value) refl)

-- fields are read as they are spelled
pub reads_fields : ReadsFront SpellsField field_at
reads_fields = record {
  taken = λ text rest f is. record
      { one = f.code ∷ length f.value ∷ f.value; spelled = refl; parts = (split_of text f rest is).parts };
  again = λ one rest f is. ap (λ xs. field_at (xs ++ rest)) is ∙ field_at-again f rest;
  some = λ one f is. omega (arith, ap length is);
}

-- where no field stands in front there are none
pub fields_in-none : (text : List ℕ) → field_at text ≡ None → fields_in text ≡ []
fields_in-none text none = values_in-none field_at text none

-- the fields are the first, and then those of the rest
pub fields_in-some : (text rest : List ℕ) (f : Field) → field_at text ≡ Some (f, rest)
    → fields_in text ≡ f ∷ fields_in rest
fields_in-some text rest f is = values_in-some field_at reads_fields text rest f is

pub rest_of_fields : (text rest : List ℕ) (f : Field) → field_at text ≡ Some (f, rest)
    → length text ≡ 2 + length f.value + length rest
rest_of_fields text rest f is = omega (arith, ap length (split_of text f rest is).parts, length-append f.value rest)

eqb-add : (k a b : ℕ) → ((k + a) == (k + b)) ≡ (a == b)
eqb-add k a b = grind (arith, nat_tests)

-- a field in front changes nothing
pub are_fields-some : (text rest : List ℕ) (f : Field) → field_at text ≡ Some (f, rest)
    → are_fields text ≡ are_fields rest
are_fields-some text rest f is =
    let long = rest_of_fields text rest f is in
    ap (λ fs. octets_of fs == length text) (fields_in-some text rest f is)
    ∙ ap (λ n. (2 + length f.value + octets_of (fields_in rest)) == n) long
    ∙ eqb-add (2 + length f.value) (octets_of (fields_in rest)) (length rest)

-- where no field stands in front there must be nothing
pub are_fields-none : (text : List ℕ) → field_at text ≡ None → are_fields text ≡ (0 == length text)
are_fields-none text none = ap (λ fs. octets_of fs == length text) (fields_in-none text none)

octets_of-spelled : (text : List ℕ) (fs : List Field) → SpellsAll SpellsField text fs → octets_of fs ≡ length text
octets_of-spelled text [] spelled = sym (ap length spelled)
octets_of-spelled text (f ∷ fs) spelled =
    let b = spelled.1 in
    omega (
      arith,
      octets_of-spelled spelled.0 fs spelled.2,
      ap length b.parts,
      length-append b.one spelled.0,
      ap length b.spelled,
    )

-- a text that spells these fields holds them, and nothing else
pub spelled_fields : (text : List ℕ) (fs : List Field) → SpellsAll SpellsField text fs
    → (are_fields text ≡ true) × (fields_in text ≡ fs)
spelled_fields text fs spelled =
    let same = values_in-spelled field_at reads_fields text fs spelled in
    let long = octets_of-spelled text fs spelled in
    ((Decides-eqb _ _).1 (ap octets_of same ∙ long), same)

by_front : (k : ℕ) (text : List ℕ) → length text ≤ suc k
    → ((more : List ℕ) → length more ≤ k → are_fields more ≡ true → SpellsAll SpellsField more (fields_in more))
    → are_fields text ≡ true → (o : Option (Field × List ℕ)) → field_at text ≡ o
    → SpellsAll SpellsField text (fields_in text)
by_front k text within later are None is =
    let long : 0 ≡ length text = (Decides-eqb 0 (length text)).0 (sym (are_fields-none text is) ∙ are) in
    subst (SpellsAll SpellsField text) (sym (fields_in-none text is)) (empty text (sym long))
  where
    empty : (xs : List ℕ) → length xs ≡ 0 → xs ≡ []
    empty [] none = refl
    empty (x ∷ xs) none = absurd (omega arith)
by_front k text within later are (Some found) is =
    let f : Field = found.0 in
    let rest : List ℕ = found.1 in
    let less = rest_of_fields text rest f is in
    let more = later rest (omega arith) (sym (are_fields-some text rest f is) ∙ are) in
    subst (SpellsAll SpellsField text) (sym (fields_in-some text rest f is))
    (spells-more field_at reads_fields text rest f (fields_in rest) is more)

spells_within : (k : ℕ) (text : List ℕ) → length text ≤ k → are_fields text ≡ true
    → SpellsAll SpellsField text (fields_in text)
spells_within zero [] within are = refl
spells_within zero (x ∷ xs) within are = absurd (omega arith)
spells_within (suc k) text within are = by_front k text within (spells_within k) are (field_at text) refl

-- a text that is fields spells those that it holds
pub spells_fields : (text : List ℕ) → are_fields text ≡ true → SpellsAll SpellsField text (fields_in text)
spells_fields text are = spells_within (length text) text (omega arith) are
