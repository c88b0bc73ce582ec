-- Laws on fields that are one value after the other.
use Rattle.std.proofs.Common.{◌≡◌, ℕ, zero, suc, ◌<◌, ◌≤◌, List, [], ◌∷◌, ◌++◌, length, Option, Some, None, unwrap_or}
use Rattle.std.proofs.Common.{refl, ap, sym, subst, ◌∙◌, append_assoc, length-append, arith}
use Rattle.urpf_base.specs.Series.{Begins, SpellsAll, ReadsFront, first_and_more, values_within, values_in}

-- a found value takes an octet or more
pub rest_shorter : {X : Type 0} {Spells : List ℕ → X → Type 0} {front : List ℕ → Option (X × List ℕ)}
    → ReadsFront Spells front → (text rest : List ℕ) (x : X) → front text ≡ Some (x, rest) → length rest < length text
rest_shorter reads text rest x found =
    let b = reads.taken text rest x found in
    omega (arith, reads.some b.one x b.spelled, ap length b.parts, length-append b.one rest)

-- a text that begins with a spelling is read so
pub front_begins : {X : Type 0} {Spells : List ℕ → X → Type 0} {front : List ℕ → Option (X × List ℕ)}
    → ReadsFront Spells front → (text rest : List ℕ) (x : X) → Begins Spells text x rest → front text ≡ Some (x, rest)
front_begins {front = front} reads text rest x b = ap front b.parts ∙ reads.again b.one rest x b.spelled

first_and_more-same : {X : Type 0} (f g : List ℕ → List X) (o : Option (X × List ℕ))
    → ((found : X × List ℕ) → o ≡ Some found → f found.1 ≡ g found.1) → first_and_more f o ≡ first_and_more g o
first_and_more-same f g None same = refl
first_and_more-same f g (Some found) same = ap (λ xs. found.0 ∷ xs) (same found refl)

first_and_more-never : {X : Type 0} (f : List ℕ → List X) (o : Option (X × List ℕ))
    → ((found : X × List ℕ) → o ≡ Some found → ⊥) → first_and_more f o ≡ []
first_and_more-never f None never = refl
first_and_more-never f (Some found) never = absurd (never found refl)

-- what is left behind a value that is found is shorter
abbrev pub Shortens : {X : Type 0} → (List ℕ → Option (X × List ℕ)) → Type 0
Shortens {X = X} front = (text rest : List ℕ) (x : X) → front text ≡ Some (x, rest) → length rest < length text

-- more turns than octets change nothing
values_within-enough : {X : Type 0} (front : List ℕ → Option (X × List ℕ)) → Shortens front → (k m : ℕ) (text : List ℕ)
    → length text ≤ k → length text ≤ m → values_within front k text ≡ values_within front m text
values_within-enough front shortens zero zero text le_k le_m = refl
values_within-enough front shortens zero (suc m) text le_k le_m =
    sym (first_and_more-never _ (front text) (λ found is. absurd (omega (arith, shortens text found.1 found.0 is))))
values_within-enough front shortens (suc k) zero text le_k le_m =
    first_and_more-never _ (front text) (λ found is. absurd (omega (arith, shortens text found.1 found.0 is)))
values_within-enough front shortens (suc k) (suc m) text le_k le_m =
    first_and_more-same _ _ (front text) (λ found is.
    let less = shortens text found.1 found.0 is in
    values_within-enough front shortens k m found.1 (omega (arith, less)) (omega (arith, less)))

within-none : {X : Type 0} (front : List ℕ → Option (X × List ℕ)) (text : List ℕ) (k : ℕ) → front text ≡ None
    → values_within front k text ≡ []
within-none front text zero none = refl
within-none front text (suc k) none = ap (first_and_more (values_within front k)) none

-- where nothing is spelled in front there are no values
pub values_in-none : {X : Type 0} (front : List ℕ → Option (X × List ℕ)) (text : List ℕ) → front text ≡ None
    → values_in front text ≡ []
values_in-none front text none = within-none front text (length text) none

-- the values are the first, and then those of the rest
pub values_in-found : {X : Type 0} (front : List ℕ → Option (X × List ℕ)) → Shortens front
    → (text rest : List ℕ) (x : X) → front text ≡ Some (x, rest) → values_in front text ≡ x ∷ values_in front rest
values_in-found front shortens text rest x found =
    values_within-enough front shortens (length text) (suc (length text)) text (omega arith) (omega arith)
    ∙ ap (first_and_more (values_within front (length text))) found
    ∙ ap (λ xs. x ∷ xs)
    (values_within-enough front shortens (length text) (length rest) rest
    (omega (arith, shortens text rest x found)) (omega arith))

-- the same where the first is spelled
pub values_in-some : {X : Type 0} {Spells : List ℕ → X → Type 0} (front : List ℕ → Option (X × List ℕ))
    → ReadsFront Spells front → (text rest : List ℕ) (x : X) → front text ≡ Some (x, rest)
    → values_in front text ≡ x ∷ values_in front rest
values_in-some front reads = values_in-found front (rest_shorter reads)

-- a text that spells these values has just them
pub values_in-spelled : {X : Type 0} {Spells : List ℕ → X → Type 0} (front : List ℕ → Option (X × List ℕ))
    → ReadsFront Spells front → (text : List ℕ) (xs : List X) → SpellsAll Spells text xs → values_in front text ≡ xs
values_in-spelled front reads text [] spelled = ap (values_in front) spelled
values_in-spelled front reads text (x ∷ xs) spelled =
    values_in-some front reads text spelled.0 x (front_begins reads text spelled.0 x spelled.1)
    ∙ ap (λ ys. x ∷ ys) (values_in-spelled front reads spelled.0 xs spelled.2)

-- no text spells two lists of values
pub one_series : {X : Type 0} {Spells : List ℕ → X → Type 0} (front : List ℕ → Option (X × List ℕ))
    → ReadsFront Spells front → (text : List ℕ) (xs ys : List X) → SpellsAll Spells text xs → SpellsAll Spells text ys
    → xs ≡ ys
one_series front reads text xs ys first second =
    sym (values_in-spelled front reads text xs first) ∙ values_in-spelled front reads text ys second

-- what the rest spells and the first before it is what the text spells
pub spells-more : {X : Type 0} {Spells : List ℕ → X → Type 0} (front : List ℕ → Option (X × List ℕ))
    → ReadsFront Spells front → (text rest : List ℕ) (x : X) (xs : List X) → front text ≡ Some (x, rest)
    → SpellsAll Spells rest xs → SpellsAll Spells text (x ∷ xs)
spells-more front reads text rest x xs found spelled = (rest, reads.taken text rest x found, spelled)

some_same : {X : Type 0} (front : List ℕ → Option (X × List ℕ)) (text : List ℕ) (x y : X) (rest other : List ℕ)
    → front text ≡ Some (x, rest) → front text ≡ Some (y, other) → (x ≡ y) × (rest ≡ other)
some_same front text x y rest other first second =
    let same : (x, rest) ≡ (y, other) = ap (λ found. unwrap_or found (x, rest)) (sym first ∙ second) in
    (ap (λ found. found.0) same, ap (λ found. found.1) same)

-- what the text spells, without the first that was found, is what the rest spells
pub spells-less : {X : Type 0} {Spells : List ℕ → X → Type 0} (front : List ℕ → Option (X × List ℕ))
    → ReadsFront Spells front → (text rest : List ℕ) (x : X) (xs : List X) → front text ≡ Some (x, rest)
    → SpellsAll Spells text xs → (ys : List X) × (xs ≡ x ∷ ys) × SpellsAll Spells rest ys
spells-less front reads text rest x [] found spelled =
    absurd (omega (arith, rest_shorter reads text rest x found, ap length spelled))
spells-less {Spells = Spells} front reads text rest x (y ∷ ys) found spelled =
    let same = some_same front text x y rest spelled.0 found (front_begins reads text spelled.0 y spelled.1) in
    (ys, ap (λ z. z ∷ ys) (sym same.0), subst (λ (t : List ℕ). SpellsAll Spells t ys) (sym same.1) spelled.2)

-- a text that is not empty and begins with no spelling spells nothing
pub spells_nothing : {X : Type 0} {Spells : List ℕ → X → Type 0} (front : List ℕ → Option (X × List ℕ))
    → ReadsFront Spells front → (text : List ℕ) (xs : List X) → front text ≡ None → 0 < length text
    → SpellsAll Spells text xs → ⊥
spells_nothing front reads text [] none some spelled = omega (arith, ap length spelled)
spells_nothing front reads text (x ∷ xs) none some spelled =
    let found = front_begins reads text spelled.0 x spelled.1 in
    cc

-- the spelling of some values and then of others is the spelling of all of them
pub spells-append : {X : Type 0} (Spells : List ℕ → X → Type 0) (text other : List ℕ) (xs ys : List X)
    → SpellsAll Spells text xs → SpellsAll Spells other ys → SpellsAll Spells (text ++ other) (xs ++ ys)
spells-append Spells text other [] ys first second =
    subst (λ (t : List ℕ). SpellsAll Spells (t ++ other) ys) (sym first) second
spells-append Spells text other (x ∷ xs) ys first second =
    let b = first.1 in (
      first.0 ++ other,
      record {
        one = b.one;
        spelled = b.spelled;
        parts = ap (λ t. t ++ other) b.parts ∙ append_assoc b.one first.0 other;
      },
      spells-append Spells first.0 other xs ys first.2 second,
    )
