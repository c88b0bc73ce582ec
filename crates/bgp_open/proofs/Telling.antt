-- What capabilities tell together, and how the loops over fields go on.
use Rattle.std.proofs.Common.{◌≡◌, ℕ, Bool, true, false, List, [], ◌∷◌, ◌++◌, length, Option, Some, None, ap, sym, ◌∙◌}
use Rattle.std.proofs.Common.{refl}
use Rattle.std.specs.List.{flat_map, list_all}
use Rattle.std.specs.Option.{option_or}
use Rattle.std.specs.Prelude.{◌==◌, ◌&&◌, ◌||◌}
use Rattle.bgp_open.specs.Fields.{Field, field_at, fields_in, are_fields}
use Rattle.bgp_open.specs.Capabilities.{has_length, are_capabilities, told_of, told_by, told_after}
use Rattle.bgp_open.specs.Openings.{parameter_fault, first_parameter_fault, told_in}
use Rattle.bgp_open.specs.declared.capabilities.Told.{Told}
use Rattle.bgp_open.proofs.Walks.{fields_in-none, fields_in-some, are_fields-none, are_fields-some}

abbrev told : Option ℕ → Bool → Told
told number v6 = record { number = number; v6 = v6 }

same_told : {m n : Option ℕ} {a b : Bool} → m ≡ n → a ≡ b → told m a ≡ told n b
same_told {m} {n} {a} {b} numbers v6s = ap (λ x. told x a) numbers ∙ ap (told n) v6s

option_or-assoc : (a b c : Option ℕ) → option_or a (option_or b c) ≡ option_or (option_or a b) c
option_or-assoc None b c = refl
option_or-assoc (Some x) b c = refl

option_or-None : (a : Option ℕ) → option_or a None ≡ a
option_or-None None = refl
option_or-None (Some x) = refl

or-assoc : (a b c : Bool) → ((a || b) || c) ≡ (a || (b || c))
or-assoc true b c = refl
or-assoc false b c = refl

or-false : (a : Bool) → (a || false) ≡ a
or-false true = refl
or-false false = refl

-- told in two turns or in one
told_after-assoc : (first second third : Told)
    → told_after (told_after first second) third ≡ told_after first (told_after second third)
told_after-assoc first second third =
    same_told (option_or-assoc third.number second.number first.number) (or-assoc first.v6 second.v6 third.v6)

-- no capability tells nothing
told_after-none : (before : Told) → told_after before (told_by []) ≡ before
told_after-none before = same_told refl (or-false before.v6)

pub told_after-start : (later : Told) → told_after (told None false) later ≡ later
told_after-start later = same_told (option_or-None later.number) refl

told_by-append : (xs ys : List Field) → told_by (xs ++ ys) ≡ told_after (told_by xs) (told_by ys)
told_by-append [] ys = sym (told_after-start (told_by ys))
told_by-append (x ∷ xs) ys =
    ap (told_after (told_of x)) (told_by-append xs ys) ∙ sym (told_after-assoc (told_of x) (told_by xs) (told_by ys))

-- what the first capability told, and what the rest tells
pub tell-more : (before : Told) (text rest : List ℕ) (f : Field) → field_at text ≡ Some (f, rest)
    → told_after (told_after before (told_of f)) (told_by (fields_in rest))
    ≡ told_after before (told_by (fields_in text))
tell-more before text rest f is =
    told_after-assoc before (told_of f) (told_by (fields_in rest))
    ∙ ap (λ fs. told_after before (told_by fs)) (sym (fields_in-some text rest f is))

-- where no capability is left all is told
pub tell-end : (before : Told) (text : List ℕ) → field_at text ≡ None
    → told_after before (told_by (fields_in text)) ≡ before
tell-end before text none =
    ap (λ fs. told_after before (told_by fs)) (fields_in-none text none) ∙ told_after-none before

abbrev capabilities_of : List Field → List Field
capabilities_of parameters = flat_map (λ parameter. fields_in parameter.value) parameters

-- what the first parameter told, and what the rest tells
pub told_in-more : (before : Told) (text rest : List ℕ) (f : Field) → field_at text ≡ Some (f, rest)
    → told_after (told_after before (told_by (fields_in f.value))) (told_in rest) ≡ told_after before (told_in text)
told_in-more before text rest f is =
    told_after-assoc before (told_by (fields_in f.value)) (told_in rest)
    ∙ ap (told_after before)
    (sym (told_by-append (fields_in f.value) (capabilities_of (fields_in rest)))
    ∙ ap (λ ps. told_by (capabilities_of ps)) (sym (fields_in-some text rest f is)))

-- where no parameter is left all is told
pub told_in-end : (before : Told) (text : List ℕ) → field_at text ≡ None → told_after before (told_in text) ≡ before
told_in-end before text none =
    ap (λ ps. told_after before (told_by (capabilities_of ps))) (fields_in-none text none) ∙ told_after-none before

-- a first capability of a good length changes nothing
pub are_capabilities-more : (text rest : List ℕ) (f : Field) → field_at text ≡ Some (f, rest) → has_length f ≡ true
    → are_capabilities text ≡ are_capabilities rest
are_capabilities-more text rest f is good =
    ap (λ b. b && list_all has_length (fields_in text)) (are_fields-some text rest f is)
    ∙ ap (λ fs. are_fields rest && list_all has_length fs) (fields_in-some text rest f is)
    ∙ ap (λ b. are_fields rest && (b && list_all has_length (fields_in rest))) good

and-false : (a : Bool) → (a && false) ≡ false
and-false true = refl
and-false false = refl

-- a first capability of a bad length decides
pub are_capabilities-bad : (text rest : List ℕ) (f : Field) → field_at text ≡ Some (f, rest) → has_length f ≡ false
    → are_capabilities text ≡ false
are_capabilities-bad text rest f is bad =
    ap (λ fs. are_fields text && list_all has_length fs) (fields_in-some text rest f is)
    ∙ ap (λ b. are_fields text && (b && list_all has_length (fields_in rest))) bad
    ∙ and-false (are_fields text)

and-true : (a : Bool) → (a && true) ≡ a
and-true true = refl
and-true false = refl

-- where no capability is left there must be nothing
pub are_capabilities-end : (text : List ℕ) → field_at text ≡ None → are_capabilities text ≡ (0 == length text)
are_capabilities-end text none =
    ap (λ fs. are_fields text && list_all has_length fs) (fields_in-none text none) ∙ and-true (are_fields text)
    ∙ are_fields-none text none

-- the fault of the first parameter, or that of the rest
pub first_fault-more : (text rest : List ℕ) (f : Field) → field_at text ≡ Some (f, rest)
    → first_parameter_fault (fields_in text) ≡ option_or (parameter_fault f) (first_parameter_fault (fields_in rest))
first_fault-more text rest f is = ap first_parameter_fault (fields_in-some text rest f is)

pub first_fault-end : (text : List ℕ) → field_at text ≡ None → first_parameter_fault (fields_in text) ≡ None
first_fault-end text none = ap first_parameter_fault (fields_in-none text none)

-- a first parameter without a fault changes nothing
pub first_fault-passed : (text rest : List ℕ) (f : Field) → field_at text ≡ Some (f, rest) → parameter_fault f ≡ None
    → first_parameter_fault (fields_in rest) ≡ first_parameter_fault (fields_in text)
first_fault-passed text rest f is none =
    ap (λ o. option_or o (first_parameter_fault (fields_in rest))) (sym none) ∙ sym (first_fault-more text rest f is)
