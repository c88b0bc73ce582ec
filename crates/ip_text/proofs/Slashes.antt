-- An address has no other octets in its text than hexadecimal digits, colons and dots: no slash, and no space.
use Rattle.std.proofs.Common.{◌≢◌, ℕ, zero, suc, ◌/◌, ◌%◌, ◌<◌, ◌^◌, ◌⊎◌, inl, inr, List, [], ◌∷◌, ◌++◌}
use Rattle.std.proofs.Common.{sym, subst, arith}
use Rattle.std.specs.Char.{digit_value}
use Rattle.std.specs.Prelude.{decimal}
use Rattle.std.specs.Int.{IsInRange}
use Rattle.std.specs.Str.Iter.{LacksByte}
use Rattle.urpf_base.specs.declared.address.Addr.{Addr}
use Rattle.urpf_base.specs.declared.address.Addr.TheVariants.{V4, V6}
use Rattle.ip_text.specs.Groups.{IsGroup, IsGroups, IsShortened}
use Rattle.ip_text.specs.Texts.{SpellsAddr, dotted}
use Rattle.ip_text.proofs.Decimals.{decimal_lacks, digit_within}

pub lacks_cons : (c x : ℕ) (xs : List ℕ) → x ≢ c → LacksByte c xs → LacksByte c (x ∷ xs)
lacks_cons c x xs other more zero less e = other e
lacks_cons c x xs other more (suc k) less e = more k (omega (arith, less)) e

pub lacks_append : (c : ℕ) (xs ys : List ℕ) → LacksByte c xs → LacksByte c ys → LacksByte c (xs ++ ys)
lacks_append c [] ys first more k less e = more k less e
lacks_append c (x ∷ xs) ys first more zero less e = first zero (omega arith) e
lacks_append c (x ∷ xs) ys first more (suc k) less e =
    lacks_append c xs ys (λ i within. first (suc i) (omega (arith, within))) more k (omega (arith, less)) e

-- an octet that stands in no address
module _ (mark : ℕ) (off : digit_value mark < 16 → ⊥) (no_digit : ¬ (IsInRange 48 57 mark)) (colon : 58 ≢ mark)
    (dot : 46 ≢ mark) where
  group_lacks_mark : (text : List ℕ) (g : ℕ) → IsGroup text g → LacksByte mark text
  group_lacks_mark text g is k less e =
      off (subst (λ (x : ℕ). digit_value x < 16) e (digit_within 16 text k is.digits less))

  groups_lack_mark : (text groups : List ℕ) → IsGroups text groups → LacksByte mark text
  groups_lack_mark text [] is = subst (LacksByte mark) (sym is) (λ k less. absurd (omega (arith, less)))
  groups_lack_mark text (g ∷ []) is = group_lacks_mark text g is
  groups_lack_mark text (g ∷ h ∷ gs) (one, rest, first, parts, more) =
      subst (LacksByte mark) (sym parts) (lacks_append mark one (58 ∷ rest) (group_lacks_mark one g first)
      (lacks_cons mark 58 rest colon (groups_lack_mark rest (h ∷ gs) more)))

  gap_lacks_mark : (text groups : List ℕ) → IsShortened text groups → LacksByte mark text
  gap_lacks_mark text groups is =
      subst (LacksByte mark) (sym is.parts) (lacks_append mark is.before (58 ∷ 58 ∷ is.after)
      (groups_lack_mark is.before is.left is.first)
      (lacks_cons mark 58 (58 ∷ is.after) colon
      (lacks_cons mark 58 is.after colon (groups_lack_mark is.after is.right is.last))))

  octet_lacks_mark : (a : ℕ) → a < 256 → LacksByte mark (decimal a)
  octet_lacks_mark a small = decimal_lacks a mark (omega arith) no_digit

  part_lacks_mark : (a : ℕ) (rest : List ℕ) → a < 256 → LacksByte mark rest → LacksByte mark (decimal a ++ (46 ∷ rest))
  part_lacks_mark a rest small more =
      lacks_append mark (decimal a) (46 ∷ rest) (octet_lacks_mark a small) (lacks_cons mark 46 rest dot more)

  dotted_lacks_mark : (n : ℕ) → LacksByte mark (dotted n)
  dotted_lacks_mark n =
      part_lacks_mark (n / 2 ^ 24 % 256) _ (omega arith)
      (part_lacks_mark (n / 2 ^ 16 % 256) _ (omega arith)
      (part_lacks_mark (n / 2 ^ 8 % 256) _ (omega arith) (octet_lacks_mark _ (omega arith))))

  spelled_lacks_mark : (text groups : List ℕ) → IsGroups text groups ⊎ IsShortened text groups → LacksByte mark text
  spelled_lacks_mark text groups (inl is) = groups_lack_mark text groups is
  spelled_lacks_mark text groups (inr is) = gap_lacks_mark text groups is

  pub addr_lacks_mark : (text : List ℕ) (a : Addr) → SpellsAddr text a → LacksByte mark text
  addr_lacks_mark text (V4 n) is = subst (LacksByte mark) (sym is.1) (dotted_lacks_mark n)
  addr_lacks_mark text (V6 n) is = spelled_lacks_mark text is.groups is.spelled

pub addr_lacks_slash : (text : List ℕ) (a : Addr) → SpellsAddr text a → LacksByte 47 text
addr_lacks_slash =
    addr_lacks_mark 47 (λ h. omega arith) (λ within. omega arith) (λ e. omega (arith, e)) (λ e. omega (arith, e))

pub addr_lacks_space : (text : List ℕ) (a : Addr) → SpellsAddr text a → LacksByte 32 text
addr_lacks_space =
    addr_lacks_mark 32 (λ h. omega arith) (λ within. omega arith) (λ e. omega (arith, e)) (λ e. omega (arith, e))
