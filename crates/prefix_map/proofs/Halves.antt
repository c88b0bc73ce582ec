-- Two halves of 64 bits are compared as the whole number is.
use Rattle.std.proofs.Common.{◌≡◌, ℕ, ◌+◌, ◌*◌, ◌^◌, ◌<◌, refl, ap, ◌∙◌, arith}
use Rattle.std.specs.declared.cmp.Ordering.{Ordering}
use Rattle.std.specs.declared.cmp.Ordering.TheVariants.{Less, Equal, Greater}
use Rattle.std.specs.Ordering.{nat_cmp, ordering_then}
use Rattle.std.specs.Cmp.{nat_cmp_is}
use Rattle.std.proofs.lemmas.Cmp.{ranked}

lower : (h k l m : ℕ) (r : Ordering) → h ≡ k → r ≡ nat_cmp l m → r ≡ nat_cmp (h * 2 ^ 64 + l) (k * 2 ^ 64 + m)
lower h k l m Less same is = let below : l < m = ranked l m Less is in
    nat_cmp_is (h * 2 ^ 64 + l) (k * 2 ^ 64 + m) Less (omega arith)
lower h k l m Equal same is = let tied : l ≡ m = ranked l m Equal is in
    nat_cmp_is (h * 2 ^ 64 + l) (k * 2 ^ 64 + m) Equal (omega arith)
lower h k l m Greater same is = let above : m < l = ranked l m Greater is in
    nat_cmp_is (h * 2 ^ 64 + l) (k * 2 ^ 64 + m) Greater (omega arith)

upper : (h k l m : ℕ) (r : Ordering) → l < 2 ^ 64 → m < 2 ^ 64 → r ≡ nat_cmp h k
    → ordering_then r (nat_cmp l m) ≡ nat_cmp (h * 2 ^ 64 + l) (k * 2 ^ 64 + m)
upper h k l m Less small_l small_m is = let below : h < k = ranked h k Less is in
    nat_cmp_is (h * 2 ^ 64 + l) (k * 2 ^ 64 + m) Less (omega arith)
upper h k l m Equal small_l small_m is = lower h k l m (nat_cmp l m) (ranked h k Equal is) refl
upper h k l m Greater small_l small_m is = let above : k < h = ranked h k Greater is in
    nat_cmp_is (h * 2 ^ 64 + l) (k * 2 ^ 64 + m) Greater (omega arith)

regrouped : (a b c : Ordering) → ordering_then a (ordering_then b c) ≡ ordering_then (ordering_then a b) c
regrouped Less b c = refl
regrouped Equal b c = refl
regrouped Greater b c = refl

-- upper halves first, then lower halves, then what follows
pub halves_compare : (h k l m : ℕ) (o : Ordering) → l < 2 ^ 64 → m < 2 ^ 64
    → ordering_then (nat_cmp h k) (ordering_then (nat_cmp l m) o)
    ≡ ordering_then (nat_cmp (h * 2 ^ 64 + l) (k * 2 ^ 64 + m)) o
halves_compare h k l m o small_l small_m =
    regrouped (nat_cmp h k) (nat_cmp l m) o
    ∙ ap (λ r. ordering_then r o) (upper h k l m (nat_cmp h k) small_l small_m refl)
