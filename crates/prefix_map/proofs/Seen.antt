-- What is asked of a half of the kept pairs, and done to it, is asked of the finite map and done to it.
use Rattle.std.proofs.Common.{◌≡◌, ℕ, ◌+◌, ◌<◌, ◌^◌, Bool, true, false, cond, not, ◌&&◌, T, lit<, List, [], length}
use Rattle.std.proofs.Common.{refl, sym, ap, subst, ◌∙◌, Option, None, arith}
use Rattle.std.specs.declared.cmp.Ordering.{Ordering}
use Rattle.std.specs.declared.cmp.Ordering.TheVariants.{Less, Greater}
use Rattle.std.specs.Ordering.{is_eq, eq_by_cmp, nat_cmp}
use Rattle.std.specs.Cmp.{on_total, eq_by_cmp_equiv, alike_right}
use Rattle.std.specs.List.{filter}
use Rattle.std.specs.List.Sorted.{IsStrictlySortedBy}
use Rattle.std.specs.Map.{keys_of, lookup, remove_entry}
use Rattle.std.specs.BTreeMap.{insert_entry}
use Rattle.std.specs.BTreeMap.Range.{is_from_start}
use Rattle.std.specs.declared.ops.Bound.{Bound}
use Rattle.std.specs.FinMap as finite
use Rattle.std.specs.FinMap.{find, put, is_sorted, entries, entries-from_sorted, entries-insert, entries_sorted}
use Rattle.std.specs.FinMap.{get-entries, get-remove, same_map, same_entries_map, len-entries, empty_of_len}
use Rattle.std.specs.FinMap.Entries.{find-where_key}
use Rattle.urpf_base.specs.Address.{Block}
use Rattle.urpf_base.specs.Order.{prefix_order}
use Rattle.prefix_map.specs.declared.keys.ShortKey.{ShortKey}
use Rattle.prefix_map.specs.declared.keys.LongKey.{LongKey}
use Rattle.prefix_map.specs.contracts.keys.ShortKeyOrd.TheImpl as short_ord
use Rattle.prefix_map.specs.contracts.keys.LongKeyOrd.TheImpl as long_ord
use Rattle.prefix_map.specs.Keys.{short_block, long_block}
use Rattle.prefix_map.specs.Kept.{AreKept, joined, seen}
use Rattle.prefix_map.specs.Mapped.{Mapped, entries_after}
use Rattle.prefix_map.specs.Order.{is_after}
use Rattle.prefix_map.proofs.Halves.{halves_compare}
use Rattle.prefix_map.proofs.Order.{prefix_total, prefix_ties}
use Rattle.prefix_map.proofs.Sorted.{sorted, find-lookup}
use Rattle.prefix_map.proofs.Joined.{on, sorted-joined, find-left, find-right, put-left, put-right, others-left}
use Rattle.prefix_map.proofs.Joined.{others-right, filter-joined, filter_same, filter_all, insert-put, remove-others}
use Rattle.prefix_map.proofs.Joined.{length-joined}

abbrev pub short_order : ShortKey → ShortKey → Ordering
short_order = on prefix_order short_block

abbrev pub long_order : LongKey → LongKey → Ordering
long_order = on prefix_order long_block

-- what the comparison of the keys computes
abbrev pub own_short : ShortKey → ShortKey → Ordering
own_short = (short_ord.ghosts).cmp

abbrev pub own_long : LongKey → LongKey → Ordering
own_long = (long_ord.ghosts).cmp

pub short_agrees : own_short ≡ short_order
short_agrees = refl

pub long_agrees : own_long ≡ long_order
long_agrees i x y = halves_compare x.high y.high x.low y.low (nat_cmp x.len y.len) x.small_low y.small_low i

apart : (x : ShortKey) (y : LongKey) → prefix_order (short_block x) (long_block y) ≡ Less
apart x y = refl

back : (x : ShortKey) (y : LongKey) → prefix_order (long_block y) (short_block x) ≡ Greater
back x y = refl

pub holds : (b : Bool) → T b → b ≡ true
holds true h = refl
holds false h = absurd h

module _ {V : Type 0} where
  abbrev whole : List (ShortKey × V) → List (LongKey × V) → List (Block × V)
  whole xs ys = joined short_block long_block xs ys

  pub kept_short : {xs : List (ShortKey × V)} {ys : List (LongKey × V)} (zs : List (ShortKey × V)) → AreKept xs ys
      → IsStrictlySortedBy own_short (keys_of zs) → length zs + length ys < 2 ^ 63 → AreKept zs ys
  kept_short zs kept ordered count =
      record { shorts = sorted short_order zs ordered; longs = kept.longs; count = count }

  pub kept_long : {xs : List (ShortKey × V)} {ys : List (LongKey × V)} (zs : List (LongKey × V)) → AreKept xs ys
      → IsStrictlySortedBy own_long (keys_of zs) → length xs + length zs < 2 ^ 63 → AreKept xs zs
  kept_long zs kept ordered count = record {
    shorts = kept.shorts;
    longs = sorted long_order zs (subst (λ R. IsStrictlySortedBy R (keys_of zs)) long_agrees ordered);
    count = count;
  }

  -- the pairs of the finite map are those of both halves
  pub entries-seen : (xs : List (ShortKey × V)) (ys : List (LongKey × V)) → AreKept xs ys
      → entries (seen xs ys) ≡ whole xs ys
  entries-seen xs ys kept =
      entries-from_sorted prefix_order (whole xs ys)
      (subst T (sym (sorted-joined prefix_order short_block long_block apart back xs ys kept.shorts kept.longs)) tt)

  find-seen : (xs : List (ShortKey × V)) (ys : List (LongKey × V)) → AreKept xs ys → (q : Block)
      → finite.get (seen xs ys) q ≡ find prefix_order q (whole xs ys)
  find-seen xs ys kept q = get-entries (seen xs ys) q ∙ ap (find prefix_order q) (entries-seen xs ys kept)

  pub get-short : (xs : List (ShortKey × V)) (ys : List (LongKey × V)) → AreKept xs ys → (q : ShortKey)
      → finite.get (seen xs ys) (short_block q) ≡ lookup (λ k. is_eq (own_short q k)) xs
  get-short xs ys kept q =
      find-seen xs ys kept (short_block q) ∙ find-left prefix_order short_block long_block apart back q xs ys
      ∙ find-lookup short_order q xs

  pub get-long : (xs : List (ShortKey × V)) (ys : List (LongKey × V)) → AreKept xs ys → (q : LongKey)
      → finite.get (seen xs ys) (long_block q) ≡ lookup (λ k. is_eq (own_long q k)) ys
  get-long xs ys kept q =
      find-seen xs ys kept (long_block q) ∙ find-right prefix_order short_block long_block apart back q xs ys
      ∙ find-lookup long_order q ys
      ∙ ap (λ R. lookup (λ k. is_eq (R q k)) ys) (sym long_agrees)

  pub insert-short : (xs : List (ShortKey × V)) (ys : List (LongKey × V)) (k : ShortKey) (v : V) → AreKept xs ys
      → AreKept (insert_entry own_short xs k v) ys
      → finite.insert (seen xs ys) (short_block k) v ≡ seen (insert_entry own_short xs k v) ys
  insert-short xs ys k v kept later = same_entries_map _ _ (
      entries-insert prefix_total (seen xs ys) (short_block k) v
      ∙ ap (put prefix_order (short_block k) v) (entries-seen xs ys kept)
      ∙ put-left prefix_order short_block long_block apart back k v xs ys
      ∙ ap (λ zs. whole zs ys) (sym (insert-put short_order k v xs))
      ∙ sym (entries-seen (insert_entry own_short xs k v) ys later))

  pub insert-long : (xs : List (ShortKey × V)) (ys : List (LongKey × V)) (k : LongKey) (v : V) → AreKept xs ys
      → AreKept xs (insert_entry own_long ys k v)
      → finite.insert (seen xs ys) (long_block k) v ≡ seen xs (insert_entry own_long ys k v)
  insert-long xs ys k v kept later = same_entries_map _ _ (
      entries-insert prefix_total (seen xs ys) (long_block k) v
      ∙ ap (put prefix_order (long_block k) v) (entries-seen xs ys kept)
      ∙ put-right prefix_order short_block long_block apart back k v xs ys
      ∙ ap (λ zs. whole xs zs) (sym (insert-put long_order k v ys) ∙ ap (λ R. insert_entry R ys k v) (sym long_agrees))
      ∙ sym (entries-seen xs (insert_entry own_long ys k v) later))

  -- a map without a prefix, from a list without it
  without : (m : Mapped V) (k : Block) (xs : List (ShortKey × V)) (ys : List (LongKey × V)) → AreKept xs ys
      → whole xs ys ≡ filter (λ e. not (eq_by_cmp prefix_order k e.0)) (entries m) → finite.remove m k ≡ seen xs ys
  without m k xs ys kept is = same_map prefix_total prefix_ties _ _ (λ q.
      get-remove prefix_total m k q
      ∙ ap (λ b. cond b None (finite.get m q)) (sym ((eq_by_cmp_equiv prefix_total).symm k q))
      ∙ sym (turned (eq_by_cmp prefix_order k q) (finite.get m q) None)
      ∙ ap (λ r. cond (not (eq_by_cmp prefix_order k q)) r None) (get-entries m q)
      ∙ sym (find-where_key prefix_order (λ x. not (eq_by_cmp prefix_order k x)) q
      (λ x t. ap (λ r. not (is_eq r)) (sym (alike_right prefix_total q x k t))) (entries m))
      ∙ ap (find prefix_order q) (sym is)
      ∙ sym (find-seen xs ys kept q))
    where
      turned : {A : Type 0} (b : Bool) (x y : A) → cond (not b) x y ≡ cond b y x
      turned true x y = refl
      turned false x y = refl

  pub remove-short : (xs : List (ShortKey × V)) (ys : List (LongKey × V)) (k : ShortKey) → AreKept xs ys
      → AreKept (remove_entry (λ q. is_eq (own_short k q)) xs) ys
      → finite.remove (seen xs ys) (short_block k) ≡ seen (remove_entry (λ q. is_eq (own_short k q)) xs) ys
  remove-short xs ys k kept later =
      without (seen xs ys) (short_block k) (remove_entry (λ q. is_eq (own_short k q)) xs) ys later (
      ap (λ zs. whole zs ys) (remove-others (on_total short_block prefix_total) k xs kept.shorts)
      ∙ sym (others-left prefix_order short_block long_block apart back k xs ys)
      ∙ ap (filter (λ e. not (eq_by_cmp prefix_order (short_block k) e.0))) (sym (entries-seen xs ys kept)))

  pub remove-long : (xs : List (ShortKey × V)) (ys : List (LongKey × V)) (k : LongKey) → AreKept xs ys
      → AreKept xs (remove_entry (λ q. is_eq (own_long k q)) ys)
      → finite.remove (seen xs ys) (long_block k) ≡ seen xs (remove_entry (λ q. is_eq (own_long k q)) ys)
  remove-long xs ys k kept later =
      without (seen xs ys) (long_block k) xs (remove_entry (λ q. is_eq (own_long k q)) ys) later (
      ap (λ R. whole xs (remove_entry (λ q. is_eq (R k q)) ys)) long_agrees
      ∙ ap (λ zs. whole xs zs) (remove-others (on_total long_block prefix_total) k ys kept.longs)
      ∙ sym (others-right prefix_order short_block long_block apart back k xs ys)
      ∙ ap (filter (λ e. not (eq_by_cmp prefix_order (long_block k) e.0))) (sym (entries-seen xs ys kept)))

  pub len-seen : (xs : List (ShortKey × V)) (ys : List (LongKey × V)) → AreKept xs ys
      → finite.len (seen xs ys) ≡ length xs + length ys
  len-seen xs ys kept =
      len-entries (seen xs ys) ∙ ap length (entries-seen xs ys kept) ∙ length-joined short_block long_block xs ys

  -- the pairs after a prefix are the ranges of both halves that start there
  pub after-seen : (xs : List (ShortKey × V)) (ys : List (LongKey × V)) → AreKept xs ys
      → (start : Option Block) (lo : Bound ShortKey) (hi : Bound LongKey)
      → ((k : ShortKey) → is_from_start short_order lo k ≡ is_after start (short_block k))
      → ((k : LongKey) → is_from_start long_order hi k ≡ is_after start (long_block k))
      → entries_after start (seen xs ys)
      ≡ whole (filter (λ e. is_from_start own_short lo e.0 && true) xs)
      (filter (λ e. is_from_start own_long hi e.0 && true) ys)
  after-seen xs ys kept start lo hi shorts longs =
      ap (filter (λ e. is_after start e.0)) (entries-seen xs ys kept)
      ∙ filter-joined prefix_order short_block long_block apart back (is_after start) xs ys
      ∙ (λ i. whole
      (filter_same _ _ (λ (e : ShortKey × V). sym (shorts e.0) ∙ sym (and_true _)) xs i)
      (filter_same _ _
      (λ (e : LongKey × V). sym (longs e.0) ∙ ap (λ R. is_from_start R hi e.0) (sym long_agrees) ∙ sym (and_true _))
      ys i))
    where
      and_true : (b : Bool) → (b && true) ≡ b
      and_true true = refl
      and_true false = refl

  -- after no prefix come all pairs
  pub after-none : (m : Mapped V) → entries_after None m ≡ entries m
  after-none m = filter_all (entries m)

  pub entries_ascend : (m : Mapped V) → is_sorted prefix_order (entries m) ≡ true
  entries_ascend m = holds _ (entries_sorted m)

  none_kept : AreKept {V = V} [] []
  none_kept = record { shorts = refl; longs = refl; count = lit< tt }

  -- no pairs are the empty map
  pub seen_nothing : (xs : List (ShortKey × V)) (ys : List (LongKey × V)) → xs ≡ [] → ys ≡ []
      → seen xs ys ≡ finite.empty
  seen_nothing xs ys no_shorts no_longs =
      (λ i. seen (no_shorts i) (no_longs i)) ∙ empty_of_len _ (len-seen [] [] none_kept)

-- the same at a map and a prefix that the kept pairs and the key stand for
module _ {V : Type 0} {xs : List (ShortKey × V)} {ys : List (LongKey × V)} {m : Mapped V} {p : Block} where
  pub gets_short : (k : ShortKey) → AreKept xs ys → seen xs ys ≡ m → short_block k ≡ p
      → finite.get m p ≡ lookup (λ q. is_eq (own_short k q)) xs
  gets_short k kept view key = sym (λ i. finite.get (view i) (key i)) ∙ get-short xs ys kept k

  pub gets_long : (k : LongKey) → AreKept xs ys → seen xs ys ≡ m → long_block k ≡ p
      → finite.get m p ≡ lookup (λ q. is_eq (own_long k q)) ys
  gets_long k kept view key = sym (λ i. finite.get (view i) (key i)) ∙ get-long xs ys kept k

  pub sets_short : (k : ShortKey) (v : V) {zs : List (ShortKey × V)} → AreKept xs ys → AreKept zs ys → seen xs ys ≡ m
      → short_block k ≡ p → zs ≡ insert_entry own_short xs k v → seen zs ys ≡ finite.insert m p v
  sets_short k v {zs} kept later view key is =
      ap (λ l. seen l ys) is ∙ sym (insert-short xs ys k v kept (subst (λ l. AreKept l ys) is later))
      ∙ (λ i. finite.insert (view i) (key i) v)

  pub sets_long : (k : LongKey) (v : V) {zs : List (LongKey × V)} → AreKept xs ys → AreKept xs zs → seen xs ys ≡ m
      → long_block k ≡ p → zs ≡ insert_entry own_long ys k v → seen xs zs ≡ finite.insert m p v
  sets_long k v {zs} kept later view key is =
      ap (λ l. seen xs l) is ∙ sym (insert-long xs ys k v kept (subst (λ l. AreKept xs l) is later))
      ∙ (λ i. finite.insert (view i) (key i) v)

  pub removes_short : (k : ShortKey) {zs : List (ShortKey × V)} → AreKept xs ys → AreKept zs ys → seen xs ys ≡ m
      → short_block k ≡ p → zs ≡ remove_entry (λ q. is_eq (own_short k q)) xs → seen zs ys ≡ finite.remove m p
  removes_short k {zs} kept later view key is =
      ap (λ l. seen l ys) is ∙ sym (remove-short xs ys k kept (subst (λ l. AreKept l ys) is later))
      ∙ (λ i. finite.remove (view i) (key i))

  pub removes_long : (k : LongKey) {zs : List (LongKey × V)} → AreKept xs ys → AreKept xs zs → seen xs ys ≡ m
      → long_block k ≡ p → zs ≡ remove_entry (λ q. is_eq (own_long k q)) ys → seen xs zs ≡ finite.remove m p
  removes_long k {zs} kept later view key is =
      ap (λ l. seen xs l) is ∙ sym (remove-long xs ys k kept (subst (λ l. AreKept xs l) is later))
      ∙ (λ i. finite.remove (view i) (key i))

module _ {V : Type 0} {xs : List (ShortKey × V)} {ys : List (LongKey × V)} where
  pub fewer_left : (zs : List (ShortKey × V)) (n : ℕ) → AreKept xs ys → length zs + n ≡ length xs
      → length zs + length ys < 2 ^ 63
  fewer_left zs n kept one = let below : length xs + length ys < 2 ^ 63 = kept.count in omega arith

  pub fewer_right : (zs : List (LongKey × V)) (n : ℕ) → AreKept xs ys → length zs + n ≡ length ys
      → length xs + length zs < 2 ^ 63
  fewer_right zs n kept one = let below : length xs + length ys < 2 ^ 63 = kept.count in omega arith
