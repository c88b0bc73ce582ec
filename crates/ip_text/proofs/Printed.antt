-- What is printed of an address spells it.
use Rattle.std.proofs.Common.{◌≡◌, ℕ, ◌+◌, ◌*◌, ◌/◌, ◌%◌, ◌^◌, ◌<◌, inl, List, [], ◌∷◌, refl, ap, sym, subst, ◌∙◌}
use Rattle.std.proofs.Common.{arith}
use Rattle.std.specs.Char.{digit_char, digit_value}
use Rattle.std.specs.Int.Digits.{AllBelowBase, number_from_digits_after}
use Rattle.std.proofs.lemmas.Nat.{shr_split, shr-shr, shr_below}
use Rattle.std.proofs.lemmas.Str.{digit_value-digit_char}
use Rattle.ip_text.specs.Groups.{IsGroup, IsGroups}
use Rattle.ip_text.specs.Texts.{IsAddr, SpellsAddr, addr_text, four_digits, grouped, groups_of}
use Rattle.urpf_base.specs.declared.address.Addr.{Addr}
use Rattle.urpf_base.specs.declared.address.Addr.TheVariants.{V4, V6}

digit : (d : ℕ) → d < 16 → digit_value (digit_char d) ≡ d
digit d small = digit_value-digit_char d (omega arith)

is_digit : (d : ℕ) → d < 16 → digit_value (digit_char d) < 16
is_digit d small = subst (λ (v : ℕ). v < 16) (sym (digit d small)) small

value_4 : (a b c d w x y z : ℕ) → a ≡ w → b ≡ x → c ≡ y → d ≡ z
    → (((0 * 16 + a) * 16 + b) * 16 + c) * 16 + d ≡ ((w * 16 + x) * 16 + y) * 16 + z
value_4 a b c d w x y z ea eb ec ed = omega arith

printed_group : (g : ℕ) → g < 65536 → IsGroup (four_digits g) g
printed_group g small = record {
  some = omega arith;
  few = omega arith;
  digits = (
    is_digit (g / 2 ^ 12) (omega arith),
    (
      is_digit (g / 2 ^ 8 % 16) (omega arith),
      (is_digit (g / 2 ^ 4 % 16) (omega arith), (is_digit (g % 16) (omega arith), tt)),
    ),
  );
  value =
      value_4 _ _ _ _ (g / 2 ^ 12) (g / 2 ^ 8 % 16) (g / 2 ^ 4 % 16) (g % 16)
      (digit (g / 2 ^ 12) (omega arith)) (digit (g / 2 ^ 8 % 16) (omega arith)) (digit (g / 2 ^ 4 % 16) (omega arith))
      (digit (g % 16) (omega arith))
      ∙ omega arith;
}

printed_groups : (groups : List ℕ) → AllBelowBase 65536 groups → IsGroups (grouped groups) groups
printed_groups [] all = refl
printed_groups (g ∷ []) all = printed_group g all.0
printed_groups (g ∷ h ∷ gs) all =
    (four_digits g, grouped (h ∷ gs), printed_group g all.0, refl, printed_groups (h ∷ gs) all.1)

next : (n k : ℕ) → n / 2 ^ (k + 16) * 65536 + n / 2 ^ k % 2 ^ 16 ≡ n / 2 ^ k
next n k = ap (λ q. q * 65536 + n / 2 ^ k % 2 ^ 16) (sym (shr-shr n k 16)) ∙ shr_split (n / 2 ^ k) 16

top : (n : ℕ) → n < 2 ^ 128 → 0 * 65536 + n / 2 ^ 112 % 2 ^ 16 ≡ n / 2 ^ 112
top n small = let below : n / 2 ^ 112 < 2 ^ 16 = shr_below n 16 112 small in omega arith

one_more : (n k high : ℕ) → high ≡ n / 2 ^ (k + 16) → high * 65536 + n / 2 ^ k % 2 ^ 16 ≡ n / 2 ^ k
one_more n k high is = ap (λ q. q * 65536 + n / 2 ^ k % 2 ^ 16) is ∙ next n k

number-groups_of : (n : ℕ) → n < 2 ^ 128 → n ≡ number_from_digits_after 65536 0 (groups_of n)
number-groups_of n small =
    let last : n / 2 ^ 0 ≡ n = omega arith in
    sym (one_more n 0 _
    (one_more n 16 _
    (one_more n 32 _ (one_more n 48 _ (one_more n 64 _ (one_more n 80 _ (one_more n 96 _ (top n small)))))))
    ∙ last)

groups_below : (n : ℕ) → AllBelowBase 65536 (groups_of n)
groups_below n = (
  omega arith,
  (omega arith, (omega arith, (omega arith, (omega arith, (omega arith, (omega arith, (omega arith, tt))))))),
)

pub spells_printed : (a : Addr) → IsAddr a → SpellsAddr (addr_text a) a
spells_printed (V4 n) small = (small, refl)
spells_printed (V6 n) small = record {
  groups = groups_of n;
  eight = refl;
  number = number-groups_of n small;
  spelled = inl (printed_groups (groups_of n) (groups_below n));
}
