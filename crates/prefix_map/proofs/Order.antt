-- The order of prefixes is the one that their comparison computes, it is total, and ties are equal.
use Rattle.std.proofs.Common.{◌≡◌, ◌⊎◌, inl, inr, ℕ, refl, sym, ap, subst, false}
use Rattle.std.specs.declared.cmp.Ordering.{Ordering}
use Rattle.std.specs.declared.cmp.Ordering.TheVariants.{Less, Equal, Greater}
use Rattle.std.specs.Ordering.{nat_cmp, ordering_then, is_eq}
use Rattle.std.specs.Cmp.{IsTotalOrder, nat_cmp_total, on_total, then_total, tied_itself}
use Rattle.std.specs.FinMap.{IsAntisymmetric, nat_cmp-IsAntisymmetric}
use Rattle.urpf_base.specs.Address.{Block}
use Rattle.urpf_base.specs.declared.address.Addr.{Addr}
use Rattle.urpf_base.specs.declared.address.Addr.TheVariants.{V4, V6}
use Rattle.urpf_base.specs.Order.{addr_order, prefix_order}

abbrev family : Addr → ℕ
family (V4 a) = 0
family (V6 a) = 1

abbrev number : Addr → ℕ
number (V4 a) = a
number (V6 a) = a

numbered : (a b : Addr) (o : Ordering)
    → ordering_then (nat_cmp (family a) (family b)) (ordering_then (nat_cmp (number a) (number b)) o)
    ≡ ordering_then (addr_order a b) o
numbered (V4 a) (V4 b) o = refl
numbered (V4 a) (V6 b) o = refl
numbered (V6 a) (V4 b) o = refl
numbered (V6 a) (V6 b) o = refl

pub prefix_total : IsTotalOrder prefix_order
prefix_total =
    subst IsTotalOrder (λ i x y. numbered x.addr y.addr (nat_cmp x.len y.len) i)
    (then_total (on_total (λ (b : Block). family b.addr) nat_cmp_total)
    (then_total (on_total (λ (b : Block). number b.addr) nat_cmp_total)
    (on_total (λ (b : Block). b.len) nat_cmp_total)))

pub first_tie : (o p : Ordering) → ordering_then o p ≡ Equal → o ≡ Equal
first_tie Less p e = e
first_tie Equal p e = refl
first_tie Greater p e = e

pub second_tie : (o p : Ordering) → ordering_then o p ≡ Equal → p ≡ Equal
second_tie Less p e = cc
second_tie Equal p e = e
second_tie Greater p e = cc

same_addr : (a b : Addr) → addr_order a b ≡ Equal → a ≡ b
same_addr (V4 a) (V4 b) e = ap (λ n. V4 n) (nat_cmp-IsAntisymmetric a b e)
same_addr (V4 a) (V6 b) e = cc
same_addr (V6 a) (V4 b) e = cc
same_addr (V6 a) (V6 b) e = ap (λ n. V6 n) (nat_cmp-IsAntisymmetric a b e)

pub prefix_ties : IsAntisymmetric prefix_order
prefix_ties x y e i = record {
  addr = same_addr x.addr y.addr (first_tie _ _ e) i;
  len = nat_cmp-IsAntisymmetric x.len y.len (second_tie (addr_order x.addr y.addr) _ e) i;
}

by_order : (x y : Block) (o : Ordering) → prefix_order x y ≡ o → (x ≡ y) ⊎ (¬ (x ≡ y))
by_order x y Equal e = inl (prefix_ties x y e)
by_order x y Less e =
    inr (λ same. let tied : prefix_order x y
    ≡ Equal = subst (λ z. prefix_order x z ≡ Equal) same (tied_itself prefix_total x) in cc)
by_order x y Greater e =
    inr (λ same. let tied : prefix_order x y
    ≡ Equal = subst (λ z. prefix_order x z ≡ Equal) same (tied_itself prefix_total x) in cc)

-- two prefixes are one or they are not
pub same_or_not : (x y : Block) → (x ≡ y) ⊎ (¬ (x ≡ y))
same_or_not x y = by_order x y (prefix_order x y) refl

apart : (x y : Block) (o : Ordering) → prefix_order x y ≡ o → ¬ (y ≡ x) → is_eq o ≡ false
apart x y Less e other = refl
apart x y Equal e other = absurd (other (sym (prefix_ties x y e)))
apart x y Greater e other = refl

-- another prefix is no tie
pub no_tie : (x y : Block) → ¬ (y ≡ x) → is_eq (prefix_order x y) ≡ false
no_tie x y = apart x y (prefix_order x y) refl
