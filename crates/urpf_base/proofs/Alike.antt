-- A field of values one after the other, read from its front: what is left spells values exactly where the field does.
use Rattle.std.proofs.Common.{◌≡◌, ℕ, zero, suc, ◌<◌, Bool, false, ◌==◌, ◌↔◌, IsTrue, List, [], ◌∷◌, length, Option}
use Rattle.std.proofs.Common.{Some, None, refl, sym, arith}
use Rattle.std.specs.Option.{option_map}
use Rattle.urpf_base.specs.Series.{SpellsAll, ReadsFront}
use Rattle.urpf_base.proofs.Series.{spells-more, spells-less, spells_nothing}

-- the rest spells values exactly where the field does
pub record SpellsAlike {X : Type 0} (Spells : List ℕ → X → Type 0) (field rest : List ℕ) : Type 0 where
  pub more : (values : List X) × SpellsAll Spells rest values → (values : List X) × SpellsAll Spells field values
  pub less : (values : List X) × SpellsAll Spells field values → (values : List X) × SpellsAll Spells rest values

pub alike_whole : {X : Type 0} (Spells : List ℕ → X → Type 0) (field : List ℕ) → SpellsAlike Spells field field
alike_whole Spells field = record { more = λ s. s; less = λ s. s }

-- one value taken off the rest
pub alike_further : {X : Type 0} {Spells : List ℕ → X → Type 0} {front : List ℕ → Option (X × List ℕ)}
    {field text : List ℕ} → ReadsFront Spells front → SpellsAlike Spells field text
    → (rest : List ℕ) (x : X) → front text ≡ Some (x, rest) → SpellsAlike Spells field rest
alike_further {X} {Spells} {front} {field} {text} reads alike rest x found = record {
  more = λ s. alike.more (x ∷ s.0, spells-more front reads text rest x s.0 found s.1);
  less = λ s. fewer (alike.less s);
}
  where
    fewer : (values : List X) × SpellsAll Spells text values → (values : List X) × SpellsAll Spells rest values
    fewer s = let l = spells-less front reads text rest x s.0 found s.1 in (l.0, l.2)

-- nothing left: the field spells values
pub alike_end : {X : Type 0} {Spells : List ℕ → X → Type 0} {field : List ℕ} (rest : List ℕ)
    → SpellsAlike Spells field rest → length rest ≡ 0 → (values : List X) × SpellsAll Spells field values
alike_end [] alike none = alike.more ([], refl)
alike_end (n ∷ rest) alike none = absurd (omega (arith, none))

-- something left that begins with no value: the field spells none
pub alike_stuck : {X : Type 0} {Spells : List ℕ → X → Type 0} {front : List ℕ → Option (X × List ℕ)}
    {field text : List ℕ} → ReadsFront Spells front → SpellsAlike Spells field text
    → front text ≡ None → 0 < length text → (values : List X) × SpellsAll Spells field values → ⊥
alike_stuck {front = front} {text = text} reads alike none some s =
    let l = alike.less s in
    spells_nothing front reads text l.0 none some l.1

-- a text that is told not to be empty has an octet
pub not_empty : (n : ℕ) (told : Bool) → told ≡ (n == 0) → told ≡ false → 0 < n
not_empty zero told is_told untold = absurd cc
not_empty (suc n) told is_told untold = omega arith

-- what is read of nothing is nothing
pub none_read : {A B : Type 0} (f : A → B) (o : Option A) (r : Option B) → option_map f o ≡ r → o ≡ None → r ≡ None
none_read f None r read none = sym read
none_read f (Some x) r read none = absurd cc

-- the answer is no where the fact cannot hold
pub answers_no : {P : Type 0} → (P → ⊥) → IsTrue false ↔ P
answers_no never = (λ yes_is. absurd cc, λ p. absurd (never p))
