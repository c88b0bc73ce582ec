-- What a value spells, whether it is known whole or only to have a space.
use Rattle.std.proofs.Common.{◌≡◌, ℕ, ◌<◌, Bool, true, false, List, [], ◌∷◌, ◌++◌, length, Some, None, refl, sym, ap}
use Rattle.std.proofs.Common.{subst, ◌∙◌, arith}
use Rattle.std.specs.Prelude.{◌==◌}
use Rattle.std.proofs.lemmas.Bool.Decides.{nat_tests}
use Rattle.urpf_base.specs.Address.{Block, width_of}
use Rattle.ip_text.specs.Prefixes.{SpellsAsn, SpellsPrefix}
use Rattle.ip_text.proofs.Spaces.{no_asn, no_prefix}
use Rattle.roa_irr.specs.Irr.{SpellsOfWidth}
use Rattle.roa_irr.specs.Lines.{HasSpace, trimmed}
use Rattle.roa_irr.specs.Steps.{IsKnown}
use Rattle.roa_irr.proofs.Parts.{trimmed-both}

nonempty : (xs : List ℕ) → 0 < length xs → (x : ℕ) × (rest : List ℕ) × (xs ≡ x ∷ rest)
nonempty [] some = absurd (omega arith)
nonempty (x ∷ rest) some = (x, rest, refl)

-- two parts that are not empty
pub parted : (joined part text other : List ℕ) → trimmed joined ≡ text → trimmed part ≡ other → 0 < length text
    → 0 < length other → HasSpace (trimmed (joined ++ (32 ∷ part)))
parted joined part text other is is_too some some_too =
    let a = nonempty text some in
    let b = nonempty other some_too in
    trimmed-both joined part a.0 b.0 a.1 b.1 (is ∙ a.2) (is_too ∙ b.2)

pub no_origin : (text : List ℕ) → HasSpace text → IsKnown (SpellsAsn text) None
no_origin text has = record { is = tt; only = λ n is. absurd (no_asn text has.0 has.1 n has.2 is) }

pub no_block : (text : List ℕ) (width : ℕ) → HasSpace text → IsKnown (SpellsOfWidth width text) None
no_block text width has = record { is = tt; only = λ b is. absurd (no_prefix text has.0 has.1 b has.2 is.0) }

pub no_octets : (xs ys : List ℕ) (b : Bool) → b ≡ (length xs == 0) → b ≡ true → xs ≡ ys → ys ≡ []
no_octets [] ys b test is same = sym same
no_octets (x ∷ xs) ys b test is same = absurd (grind (arith, nat_tests))

pub some_octets : (xs : List ℕ) (b : Bool) → b ≡ (length xs == 0) → b ≡ false → 0 < length xs
some_octets xs b test is = grind (arith, nat_tests)

-- the prefix is of the other family
pub other_block : (text whole : List ℕ) (width : ℕ) (prefix : Block) → text ≡ whole
    → ((b : Block) → SpellsPrefix whole b → Some prefix ≡ Some b) → ¬ (width_of prefix.addr ≡ width)
    → IsKnown (SpellsOfWidth width text) None
other_block text whole width prefix same only other = record {
  is = tt;
  only = λ b is.
      let e = only b (subst (λ t. SpellsPrefix t b) same is.0) in
      let one : prefix ≡ b = cc in
      absurd (other (ap (λ p. width_of p.addr) one ∙ is.1));
}

-- the text spells no prefix
pub none_block : (text whole : List ℕ) (width : ℕ) → text ≡ whole
    → ((b : Block) → SpellsPrefix whole b → None ≡ Some b) → IsKnown (SpellsOfWidth width text) None
none_block text whole width same only = record {
  is = tt;
  only = λ b is. absurd (let e = only b (subst (λ t. SpellsPrefix t b) same is.0) in cc);
}

-- the prefix is of this family
pub one_block : (text whole : List ℕ) (width : ℕ) (prefix : Block) → text ≡ whole → SpellsPrefix whole prefix
    → ((b : Block) → SpellsPrefix whole b → Some prefix ≡ Some b) → width_of prefix.addr ≡ width
    → IsKnown (SpellsOfWidth width text) (Some prefix)
one_block text whole width prefix same is only of = record {
  is = (subst (λ t. SpellsPrefix t prefix) (sym same) is, of);
  only = λ b is_too. only b (subst (λ t. SpellsPrefix t b) same is_too.0);
}
