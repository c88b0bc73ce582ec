-- A text spells one prefix and one AS number at most, and spells one or none.
use Rattle.std.proofs.Common.{◌≡◌, ℕ, suc, ◌^◌, ◌<◌, ◌≤◌, ◌⊎◌, inl, inr, List, [], ◌∷◌, ◌++◌, get_or, drop, ap, sym}
use Rattle.std.proofs.Common.{refl, subst, ◌∙◌, arith}
use Rattle.std.specs.Prelude.{decimal}
use Rattle.std.specs.Str.Iter.{LacksByte}
use Rattle.std.proofs.lemmas.Fmt.{decimal_injective}
use Rattle.urpf_base.specs.Address.{Block, block_of, width_of}
use Rattle.urpf_base.specs.declared.address.Addr.{Addr}
use Rattle.urpf_base.specs.declared.address.Addr.TheVariants.{V4, V6}
use Rattle.ip_text.specs.Prefixes.{AreAs, IsDigitsOrMarked, SpellsAsn, SpellsPrefix}
use Rattle.ip_text.specs.Texts.{SpellsAddr}
use Rattle.ip_text.proofs.Addresses.{one_addr}
use Rattle.ip_text.proofs.Decimals.{decimal_lacks, starts_decimal}
use Rattle.ip_text.proofs.Found.{Cut, cut_of, known_addr}
use Rattle.ip_text.proofs.Known.{Known, known_below, known_both, known_either, known_less, known_like, known_same}
use Rattle.ip_text.proofs.Known.{known_text}
use Rattle.ip_text.proofs.Once.{cut_once}
use Rattle.ip_text.proofs.Sides.{lacks_not}
use Rattle.ip_text.proofs.Slashes.{addr_lacks_slash}

pub width_small : (a : Addr) → width_of a ≤ 128
width_small (V4 n) = omega arith
width_small (V6 n) = omega arith

-- a text spells one prefix at most
pub one_prefix : (text : List ℕ) (p q : Block) → SpellsPrefix text p → SpellsPrefix text q → p ≡ q
one_prefix text p q is other =
    let same = cut_once 47 is.front other.front (decimal is.len) (decimal other.len)
    (addr_lacks_slash is.front is.addr is.spelled) (addr_lacks_slash other.front other.addr other.spelled)
    (sym is.parts ∙ other.parts) in
    let addr : is.addr ≡ other.addr =
    one_addr other.front is.addr other.addr (subst (λ (t : List ℕ). SpellsAddr t is.addr) same.0 is.spelled)
    other.spelled in
    let len : is.len ≡ other.len =
    decimal_injective is.len other.len (omega (arith, is.within, width_small is.addr))
    (omega (arith, other.within, width_small other.addr)) same.1 in
    is.value ∙ (λ i. block_of (len i) (addr i)) ∙ sym other.value

abbrev SomePrefix : List ℕ → Type 0
SomePrefix text = (p : Block) × SpellsPrefix text p

abbrev SomeLen : List ℕ → Type 0
SomeLen digits = (n : ℕ) × (n < 129) × (digits ≡ decimal n)

module _ (text front digits : List ℕ) (lacks : LacksByte 47 front) (parts : text ≡ front ++ (47 ∷ digits)) where
  same_cut : (p : Block) (is : SpellsPrefix text p) → (is.front ≡ front) × (decimal is.len ≡ digits)
  same_cut p is =
      cut_once 47 is.front front (decimal is.len) digits (addr_lacks_slash is.front is.addr is.spelled) lacks
      (sym is.parts ∙ parts)

  no_addr_never : (((a : Addr) × SpellsAddr front a) → ⊥) → SomePrefix text → ⊥
  no_addr_never none (p, is) =
      none (is.addr, subst (λ (t : List ℕ). SpellsAddr t is.addr) (same_cut p is).0 is.spelled)

  no_len_never : (SomeLen digits → ⊥) → SomePrefix text → ⊥
  no_len_never none (p, is) =
      none (is.len, omega (arith, is.within, width_small is.addr), sym (same_cut p is).1)

  too_long_never : (a : Addr) → SpellsAddr front a → (n : ℕ) → n < 129 → digits ≡ decimal n
      → (n < suc (width_of a) → ⊥) → SomePrefix text → ⊥
  too_long_never a spelled n within written long (p, is) =
      let same = same_cut p is in
      let addr : is.addr ≡ a =
      one_addr front is.addr a (subst (λ (t : List ℕ). SpellsAddr t is.addr) same.0 is.spelled) spelled in
      let len : is.len ≡ n =
      decimal_injective is.len n (omega (arith, is.within, width_small is.addr)) (omega arith) (same.1 ∙ written) in
      let width : width_of is.addr ≡ width_of a = ap width_of addr in
      long (omega (arith, is.within, width, len))

  prefix_by : Known ((a : Addr) × SpellsAddr front a) → Known (SomeLen digits) → Known (SomePrefix text)
  prefix_by (inr none) len = inr (no_addr_never none)
  prefix_by (inl a) (inr none) = inr (no_len_never none)
  prefix_by (inl (a, spelled)) (inl (n, within, written)) = elim (known_less n (suc (width_of a))) [
    | inl fits ↦ inl (
      block_of n a,
      record {
        front = front;
        addr = a;
        len = n;
        parts = parts ∙ ap (λ t. front ++ (47 ∷ t)) written;
        spelled = spelled;
        within = omega (arith, fits);
        value = refl;
      },
    )
    | inr long ↦ inr (too_long_never a spelled n within written long)
  ]

prefix_in : (text : List ℕ) → Cut 47 text → Known (SomePrefix text)
prefix_in text (inl lacks) = inr (λ h. lacks_not text h.1.front (decimal h.1.len) lacks h.1.parts)
prefix_in text (inr (front, digits, lacks, parts)) =
    prefix_by text front digits lacks parts (known_addr front)
    (known_below (λ n. digits ≡ decimal n) (λ n. known_text digits (decimal n)) 129)

-- a text spells a prefix or none
pub known_prefix : (text : List ℕ) → Known ((p : Block) × SpellsPrefix text p)
known_prefix text = prefix_in text (cut_of 47 text)

no_letter : (a : ℕ) → (a ≡ 65) ⊎ (a ≡ 97) → (number : ℕ) → number < 2 ^ 32 → get_or (decimal number) 0 0 ≡ a → ⊥
no_letter a (inl is) number small e =
    decimal_lacks number 65 (omega arith) (λ within. omega arith) 0 (starts_decimal number (omega arith)).0 (e ∙ is)
no_letter a (inr is) number small e =
    decimal_lacks number 97 (omega arith) (λ within. omega arith) 0 (starts_decimal number (omega arith)).0 (e ∙ is)

-- behind the letters the number stands in decimal
pub behind_letters : (text : List ℕ) (number a s : ℕ) → get_or text 0 0 ≡ a → AreAs a s
    → SpellsAsn text number → drop 2 text ≡ decimal number
behind_letters text number a s first are (small, inl e) =
    absurd (no_letter a are.0 number small (ap (λ t. get_or t 0 0) (sym e) ∙ first))
behind_letters text number a s first are (small, inr (b, d, letters, e)) = ap (drop 2) e

-- a text spells one AS number at most
pub one_asn : (text : List ℕ) (m n : ℕ) → SpellsAsn text m → SpellsAsn text n → m ≡ n
one_asn text m n (small, inl e) (few, inl f) =
    decimal_injective m n (omega (arith, small)) (omega (arith, few)) (sym e ∙ f)
one_asn text m n (small, inr (a, s, are, e)) is =
    decimal_injective m n (omega (arith, small)) (omega (arith, is.0))
    (sym (ap (drop 2) e) ∙ behind_letters text n a s (ap (λ t. get_or t 0 0) e) are is)
one_asn text m n (small, inl e) (few, inr (a, s, are, f)) =
    decimal_injective m n (omega (arith, small)) (omega (arith, few))
    (sym (behind_letters text m a s (ap (λ t. get_or t 0 0) f) are (small, inl e)) ∙ ap (drop 2) f)

known_letters : (a s : ℕ) → Known (AreAs a s)
known_letters a s =
    known_both _ _ (known_either _ _ (known_same a 65) (known_same a 97))
    (known_either _ _ (known_same s 83) (known_same s 115))

abbrev Marked : List ℕ → List ℕ → Type 0
Marked text digits = (a : ℕ) × (s : ℕ) × AreAs a s × (text ≡ a ∷ s ∷ digits)

marked_by : (a s : ℕ) (rest digits : List ℕ) → Marked (a ∷ s ∷ rest) digits → AreAs a s × (rest ≡ digits)
marked_by a s rest digits (b, d, are, e) =
    let first : b ≡ a = cc in
    let second : d ≡ s = cc in
    let others : rest ≡ digits = cc in
    (subst (λ x. AreAs x s) first (subst (AreAs b) second are), others)

known_marked : (text digits : List ℕ) → Known (Marked text digits)
known_marked [] digits = inr (λ h. let e = h.3 in cc)
known_marked (a ∷ []) digits = inr (λ h. let e = ap (drop 1) h.3 in cc)
known_marked (a ∷ s ∷ rest) digits =
    known_like (AreAs a s × (rest ≡ digits)) (Marked (a ∷ s ∷ rest) digits)
    (λ h. (a, s, h.0, ap (λ t. a ∷ s ∷ t) h.1)) (marked_by a s rest digits)
    (known_both _ _ (known_letters a s) (known_text rest digits))

-- a text spells an AS number or none
pub known_asn : (text : List ℕ) → Known ((n : ℕ) × SpellsAsn text n)
known_asn text =
    known_like ((n : ℕ) × (n < 2 ^ 32) × IsDigitsOrMarked text (decimal n)) ((n : ℕ) × SpellsAsn text n)
    (λ h. (h.0, (h.1, h.2))) (λ h. (h.0, h.1.0, h.1.1))
    (known_below (λ n. IsDigitsOrMarked text (decimal n))
    (λ n. known_either _ _ (known_text text (decimal n)) (known_marked text (decimal n))) (2 ^ 32))
