-- What is asked of a half of the kept pairs, and done to it, is asked of the set and done to it.
use Rattle.std.proofs.Common.{◌≡◌, Bool, true, false, List, [], sym, ap, subst, ◌∙◌}
use Rattle.std.specs.declared.cmp.Ordering.{Ordering}
use Rattle.std.specs.Ordering.{is_eq}
use Rattle.std.specs.List.{list_any}
use Rattle.std.specs.List.Sorted.{IsStrictlySortedBy}
use Rattle.std.specs.BTreeSet.{insert_key}
use Rattle.std.specs.Set.{remove_key}
use Rattle.origin_pairs.specs.Kept.{AreKept, all_pairs}
use Rattle.origin_pairs.specs.Packed.{long_pair, short_pair}
use Rattle.origin_pairs.specs.Pairs.{AreAscending, HasOneMore, Pair, pair_order}
use Rattle.origin_pairs.specs.declared.packed_pair.ShortPair.{ShortPair}
use Rattle.origin_pairs.specs.declared.packed_pair.LongPair.{LongPair}
use Rattle.origin_pairs.proofs.Joined.{any-left, any-right, insert-left, insert-right, remove-left, remove-right}
use Rattle.origin_pairs.proofs.Joined.{sorted-both}
use Rattle.origin_pairs.proofs.Members.{one_less, one_more, same}
use Rattle.origin_pairs.proofs.Orders.{apart, back, long_agrees, long_order, own_long, own_short, short_agrees}
use Rattle.origin_pairs.proofs.Orders.{short_order}

-- the pairs of both families ascend
pub ascending : (xs : List ShortPair) (ys : List LongPair) → AreKept xs ys → AreAscending (all_pairs xs ys)
ascending xs ys kept = sorted-both pair_order short_pair long_pair apart back xs ys kept.shorts kept.longs

none_sorted : {K : Type 0} (R : K → K → Ordering) → IsStrictlySortedBy R []
unfolding IsStrictlySortedBy
none_sorted R = tt

-- no pairs ascend
pub none_kept : {xs : List ShortPair} {ys : List LongPair} → xs ≡ [] → ys ≡ [] → AreKept xs ys
none_kept no_shorts no_longs = record {
  shorts = subst (IsStrictlySortedBy short_order) (sym no_shorts) (none_sorted short_order);
  longs = subst (IsStrictlySortedBy long_order) (sym no_longs) (none_sorted long_order);
}

module _ {xs : List ShortPair} {ys : List LongPair} where
  pub kept_short : (zs : List ShortPair) → AreKept xs ys → IsStrictlySortedBy own_short zs → AreKept zs ys
  kept_short zs kept ordered = record {
    shorts = subst (λ R. IsStrictlySortedBy R zs) short_agrees ordered;
    longs = kept.longs;
  }

  pub kept_long : (zs : List LongPair) → AreKept xs ys → IsStrictlySortedBy own_long zs → AreKept xs zs
  kept_long zs kept ordered = record {
    shorts = kept.shorts;
    longs = subst (λ R. IsStrictlySortedBy R zs) long_agrees ordered;
  }

-- and so does the set that they stand for
pub ascends : {xs : List ShortPair} {ys : List LongPair} {m : List Pair} → AreKept xs ys → all_pairs xs ys ≡ m
    → AreAscending m
ascends {xs} {ys} kept view = subst AreAscending view (ascending xs ys kept)

-- the same at a set and a pair that the kept pairs and the packed pair stand for
module _ {xs : List ShortPair} {ys : List LongPair} {m : List Pair} {p : Pair} where
  -- whether the pair is there
  pub found_short : (k : ShortPair) {b : Bool} → AreKept xs ys → all_pairs xs ys ≡ m → short_pair k ≡ p
      → list_any (λ x. is_eq (own_short k x)) xs ≡ b → list_any (same p) m ≡ b
  found_short k kept view key is =
      sym (λ i. list_any (same (key i)) (view i)) ∙ any-left pair_order short_pair long_pair apart back k xs ys
      ∙ ap (λ R. list_any (λ x. is_eq (R k x)) xs) (sym short_agrees) ∙ is

  pub found_long : (k : LongPair) {b : Bool} → AreKept xs ys → all_pairs xs ys ≡ m → long_pair k ≡ p
      → list_any (λ y. is_eq (own_long k y)) ys ≡ b → list_any (same p) m ≡ b
  found_long k kept view key is =
      sym (λ i. list_any (same (key i)) (view i)) ∙ any-right pair_order short_pair long_pair apart back k xs ys
      ∙ ap (λ R. list_any (λ y. is_eq (R k y)) ys) (sym long_agrees) ∙ is

  -- the set with the pair
  pub puts_short : (k : ShortPair) {zs : List ShortPair} → AreKept xs ys → all_pairs xs ys ≡ m → short_pair k ≡ p
      → zs ≡ insert_key own_short xs k → all_pairs zs ys ≡ insert_key pair_order m p
  puts_short k kept view key is =
      ap (λ l. all_pairs l ys) (is ∙ ap (λ R. insert_key R xs k) short_agrees)
      ∙ sym (insert-left pair_order short_pair long_pair apart back k xs ys)
      ∙ (λ i. insert_key pair_order (view i) (key i))

  pub puts_long : (k : LongPair) {zs : List LongPair} → AreKept xs ys → all_pairs xs ys ≡ m → long_pair k ≡ p
      → zs ≡ insert_key own_long ys k → all_pairs xs zs ≡ insert_key pair_order m p
  puts_long k kept view key is =
      ap (λ l. all_pairs xs l) (is ∙ ap (λ R. insert_key R ys k) long_agrees)
      ∙ sym (insert-right pair_order short_pair long_pair apart back k xs ys)
      ∙ (λ i. insert_key pair_order (view i) (key i))

  -- the set without the pair
  pub takes_short : (k : ShortPair) {zs : List ShortPair} → AreKept xs ys → all_pairs xs ys ≡ m → short_pair k ≡ p
      → zs ≡ remove_key (λ x. is_eq (own_short k x)) xs → all_pairs zs ys ≡ remove_key (same p) m
  takes_short k kept view key is =
      ap (λ l. all_pairs l ys) (is ∙ ap (λ R. remove_key (λ x. is_eq (R k x)) xs) short_agrees)
      ∙ sym (remove-left pair_order short_pair long_pair apart back k xs ys)
      ∙ (λ i. remove_key (same (key i)) (view i))

  pub takes_long : (k : LongPair) {zs : List LongPair} → AreKept xs ys → all_pairs xs ys ≡ m → long_pair k ≡ p
      → zs ≡ remove_key (λ y. is_eq (own_long k y)) ys → all_pairs xs zs ≡ remove_key (same p) m
  takes_long k kept view key is =
      ap (λ l. all_pairs xs l) (is ∙ ap (λ R. remove_key (λ y. is_eq (R k y)) ys) long_agrees)
      ∙ sym (remove-right pair_order short_pair long_pair apart back k xs ys)
      ∙ (λ i. remove_key (same (key i)) (view i))

-- a pair that was not found and was put in
pub added : {p : Pair} {m n : List Pair} → AreAscending m → AreAscending n → list_any (same p) m ≡ false
    → n ≡ insert_key pair_order m p → HasOneMore p m n
added {p} {m} old new none is = subst (HasOneMore p m) (sym is) (one_more p m old (subst AreAscending is new) none)

-- a pair that was found and was taken out
pub removed : {p : Pair} {m n : List Pair} → AreAscending m → AreAscending n → list_any (same p) m ≡ true
    → n ≡ remove_key (same p) m → HasOneMore p n m
removed {p} {m} old new some is =
    subst (λ l. HasOneMore p l m) (sym is) (one_less p m old (subst AreAscending is new) some)
