-- Neither a prefix nor an AS number has a space in its text.
use Rattle.std.proofs.Common.{◌≡◌, ℕ, ◌<◌, ◌^◌, inl, inr, List, ◌∷◌, ◌++◌, get_or, length, ap, sym, subst, ◌∙◌, arith}
use Rattle.std.proofs.Common.{length-append}
use Rattle.std.specs.Prelude.{decimal}
use Rattle.std.specs.Str.Iter.{LacksByte}
use Rattle.std.proofs.Math.Seq.{get_or-append_seam}
use Rattle.urpf_base.specs.Address.{Block}
use Rattle.ip_text.specs.Prefixes.{IsDigitsOrMarked, SpellsAsn, SpellsPrefix}
use Rattle.ip_text.proofs.Decimals.{decimal_lacks}
use Rattle.ip_text.proofs.PrefixTexts.{width_small}
use Rattle.ip_text.proofs.Slashes.{addr_lacks_space, lacks_append, lacks_cons}

number_lacks : (n : ℕ) → n < 2 ^ 64 → LacksByte 32 (decimal n)
number_lacks n small = decimal_lacks n 32 small (λ within. omega arith)

prefix_lacks_space : (text : List ℕ) (prefix : Block) → SpellsPrefix text prefix → LacksByte 32 text
prefix_lacks_space text prefix is =
    let few = width_small is.addr in
    let within = is.within in
    subst (LacksByte 32) (sym is.parts) (lacks_append 32 is.front (47 ∷ decimal is.len)
    (addr_lacks_space is.front is.addr is.spelled)
    (lacks_cons 32 47 (decimal is.len) (λ e. omega (arith, e)) (number_lacks is.len (omega arith))))

marked_lacks : (text : List ℕ) (n : ℕ) → n < 2 ^ 32 → IsDigitsOrMarked text (decimal n) → LacksByte 32 text
marked_lacks text n small (inl is) = subst (LacksByte 32) (sym is) (number_lacks n (omega arith))
marked_lacks text n small (inr (a, s, are, is)) =
    subst (LacksByte 32) (sym is) (lacks_cons 32 a (s ∷ decimal n) (λ e. let one = are.0 in omega (arith, e))
    (lacks_cons 32 s (decimal n) (λ e. let one = are.1 in omega (arith, e)) (number_lacks n (omega arith))))

has_none : (text front rest : List ℕ) → LacksByte 32 text → text ≡ front ++ (32 ∷ rest) → ⊥
has_none text front rest lacks parts =
    lacks (length front) (omega (arith, ap length parts, length-append front (32 ∷ rest)))
    (ap (λ t. get_or t (length front) 0) parts ∙ get_or-append_seam front 32 rest 0)

-- a text with a space spells no prefix
pub no_prefix : (text front rest : List ℕ) (prefix : Block) → text ≡ front ++ (32 ∷ rest) → ¬ (SpellsPrefix text prefix)
no_prefix text front rest prefix parts is = has_none text front rest (prefix_lacks_space text prefix is) parts

-- and no AS number
pub no_asn : (text front rest : List ℕ) (number : ℕ) → text ≡ front ++ (32 ∷ rest) → ¬ (SpellsAsn text number)
no_asn text front rest number parts is = has_none text front rest (marked_lacks text number is.0 is.1) parts
