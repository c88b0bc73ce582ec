-- The order of rows is total, and ties are equal.
use Rattle.std.proofs.Common.{◌≡◌, ℕ, refl, ap, subst, true, Option, Some, None}
use Rattle.std.specs.declared.cmp.Ordering.{Ordering}
use Rattle.std.specs.declared.cmp.Ordering.TheVariants.{Less, Equal, Greater}
use Rattle.std.specs.Option.{option_cmp}
use Rattle.std.specs.Ordering.{nat_cmp, ordering_then, is_eq}
use Rattle.std.specs.Cmp.{IsTotalOrder, nat_cmp_total, on_total, then_total, tied_itself}
use Rattle.std.specs.FinMap.{IsAntisymmetric, nat_cmp-IsAntisymmetric}
use Rattle.urpf_base.specs.Order.{prefix_order}
use Rattle.prefix_map.proofs.Order.{prefix_total, prefix_ties, first_tie, second_tie}
use Rattle.rpf_plain.specs.declared.rows.Row.{Row}
use Rattle.rpf_plain.specs.Rows.{row_order}

abbrev known : Option ℕ → ℕ
known None = 0
known (Some n) = 1

abbrev number : Option ℕ → ℕ
number None = 0
number (Some n) = n

numbered : (a b : Option ℕ)
    → ordering_then (nat_cmp (known a) (known b)) (nat_cmp (number a) (number b)) ≡ option_cmp nat_cmp a b
numbered None None = refl
numbered None (Some b) = refl
numbered (Some a) None = refl
numbered (Some a) (Some b) = refl

origin_total : IsTotalOrder (option_cmp nat_cmp)
origin_total =
    subst IsTotalOrder (λ i a b. numbered a b i)
    (then_total (on_total known nat_cmp_total) (on_total number nat_cmp_total))

origin_ties : IsAntisymmetric (option_cmp nat_cmp)
origin_ties None None e = refl
origin_ties None (Some b) e = cc
origin_ties (Some a) None e = cc
origin_ties (Some a) (Some b) e = ap (λ n. Some n) (nat_cmp-IsAntisymmetric a b e)

pub row_total : IsTotalOrder row_order
row_total =
    then_total (on_total (λ (r : Row). r.prefix) prefix_total)
    (then_total (on_total (λ (r : Row). r.iface) nat_cmp_total) (on_total (λ (r : Row). r.origin) origin_total))

pub row_ties : IsAntisymmetric row_order
row_ties x y e =
    let later = second_tie (prefix_order x.prefix y.prefix) _ e in
    λ i. record {
      prefix = prefix_ties x.prefix y.prefix (first_tie _ _ e) i;
      iface = nat_cmp-IsAntisymmetric x.iface y.iface (first_tie _ _ later) i;
      origin = origin_ties x.origin y.origin (second_tie (nat_cmp x.iface y.iface) _ later) i;
    }

is_tie : (o : Ordering) → is_eq o ≡ true → o ≡ Equal
is_tie Less e = cc
is_tie Equal e = refl
is_tie Greater e = cc

-- a tie is the same row
pub same_from_tie : (x y : Row) → is_eq (row_order x y) ≡ true → x ≡ y
same_from_tie x y e = row_ties x y (is_tie _ e)

-- a row ties with itself
pub tie : (x : Row) → is_eq (row_order x x) ≡ true
tie x = ap is_eq (tied_itself row_total x)
