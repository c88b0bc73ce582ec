-- The order of the keys is that of rows, and what is asked of a half of the kept rows, and done to it, is asked of all
-- and done to all.
use Rattle.std.proofs.Common.{◌≡◌, ℕ, ◌+◌, ◌*◌, ◌^◌, Bool, true, false, List, [], ◌∷◌, map, refl, sym}
use Rattle.std.proofs.Common.{ap, subst, ◌∙◌, Result, Ok, Err}
use Rattle.std.specs.Prelude.{OnOk, OnErr, if◌then◌else◌}
use Rattle.std.specs.declared.cmp.Ordering.{Ordering}
use Rattle.std.specs.declared.cmp.Ordering.TheVariants.{Less, Greater}
use Rattle.std.specs.Option.{option_cmp}
use Rattle.std.specs.Ordering.{bool_cmp, is_eq, nat_cmp, ordering_then}
use Rattle.std.specs.Cmp.{on_total}
use Rattle.std.specs.Cmp.Derive.{then_next}
use Rattle.std.specs.List.Sorted.{IsStrictlySortedBy}
use Rattle.std.specs.Map.{keys_of, lookup, remove_entry}
use Rattle.std.specs.BTreeMap.{insert_entry}
use Rattle.std.specs.FinMap.{is_sorted, put}
use Rattle.prefix_map.specs.Kept.{under}
use Rattle.prefix_map.proofs.Halves.{halves_compare}
use Rattle.prefix_map.proofs.Joined.{find-left, find-right, insert-put, on, others-left, others-right, put-left}
use Rattle.prefix_map.proofs.Joined.{put-right, remove-others, sorted-joined}
use Rattle.prefix_map.proofs.Sorted.{find-lookup, sorted}
use Rattle.rpf_plain.specs.Kept.{each_row}
use Rattle.rpf_plain.specs.RowKeys.{AreCounts, both_counts, both_rows, long_row, origin_of, short_row}
use Rattle.rpf_plain.specs.Rows.{row_order}
use Rattle.rpf_plain.specs.declared.rows.Row.{Row}
use Rattle.rpf_plain.specs.declared.row_keys.ShortRow.{ShortRow}
use Rattle.rpf_plain.specs.declared.row_keys.LongRow.{LongRow}
use Rattle.rpf_plain.specs.contracts.row_keys.ShortRowOrd.TheImpl as short_ord
use Rattle.rpf_plain.specs.contracts.row_keys.LongRowOrd.TheImpl as long_ord
use Rattle.rpf_plain.proofs.Orders.{row_total}
use Rattle.rpf_plain.proofs.Repeats.{found, others}

abbrev pub short_order : ShortRow → ShortRow → Ordering
short_order = on row_order short_row

abbrev pub long_order : LongRow → LongRow → Ordering
long_order = on row_order long_row

-- what the comparison of the keys computes
abbrev pub own_short : ShortRow → ShortRow → Ordering
own_short = (short_ord.ghosts).cmp

abbrev pub own_long : LongRow → LongRow → Ordering
own_long = (long_ord.ghosts).cmp

-- an origin that is not known comes first
origins_compare : (a b : Bool) (x y : ℕ) → x ≡ (if a then x else 0) → y ≡ (if b then y else 0)
    → ordering_then (bool_cmp a b) (nat_cmp x y) ≡ option_cmp nat_cmp (origin_of a x) (origin_of b y)
origins_compare false false x y e f = λ i. nat_cmp (e i) (f i)
origins_compare false true x y e f = refl
origins_compare true false x y e f = refl
origins_compare true true x y e f = refl

short_compares : (x y : ShortRow) → own_short x y ≡ short_order x y
short_compares x y =
    ap (λ o. ordering_then (nat_cmp x.number y.number) (ordering_then (nat_cmp x.len y.len)
    (ordering_then (nat_cmp x.iface y.iface) o))) (origins_compare x.known y.known x.origin y.origin x.spare y.spare)
    ∙ then_next (nat_cmp x.number y.number) (nat_cmp x.len y.len) _ refl refl

pub short_agrees : own_short ≡ short_order
short_agrees i x y = short_compares x y i

long_compares : (x y : LongRow) → own_long x y ≡ long_order x y
long_compares x y =
    halves_compare x.high y.high x.low y.low _ x.small_low y.small_low
    ∙ ap (λ o. ordering_then (nat_cmp (x.high * 2 ^ 64 + x.low) (y.high * 2 ^ 64 + y.low))
    (ordering_then (nat_cmp x.len y.len) (ordering_then (nat_cmp x.iface y.iface) o)))
    (origins_compare x.known y.known x.origin y.origin x.spare y.spare)
    ∙ then_next (nat_cmp (x.high * 2 ^ 64 + x.low) (y.high * 2 ^ 64 + y.low)) (nat_cmp x.len y.len) _ refl refl

pub long_agrees : own_long ≡ long_order
long_agrees i x y = long_compares x y i

apart : (x : ShortRow) (y : LongRow) → row_order (short_row x) (long_row y) ≡ Less
apart x y = refl

back : (x : ShortRow) (y : LongRow) → row_order (long_row y) (short_row x) ≡ Greater
back x y = refl

rows_under : {A : Type 0} (f : A → Row) (es : List (A × ℕ)) → map f (keys_of es) ≡ each_row (under f es)
rows_under f [] = refl
rows_under f (e ∷ es) = ap (λ t. f e.0 ∷ t) (rows_under f es)

-- the rows of both halves are the rows of all
pub rows_of : (xs : List (ShortRow × ℕ)) (ys : List (LongRow × ℕ))
    → both_rows (keys_of xs) (keys_of ys) ≡ each_row (both_counts xs ys)
rows_of [] ys = rows_under long_row ys
rows_of (x ∷ xs) ys = ap (λ t. short_row x.0 ∷ t) (rows_of xs ys)

-- the rows of both families ascend
pub ascending : (xs : List (ShortRow × ℕ)) (ys : List (LongRow × ℕ)) → AreCounts xs ys
    → is_sorted row_order (both_counts xs ys) ≡ true
ascending xs ys kept = sorted-joined row_order short_row long_row apart back xs ys kept.shorts kept.longs

module _ {xs : List (ShortRow × ℕ)} {ys : List (LongRow × ℕ)} where
  pub kept_short : (zs : List (ShortRow × ℕ)) → AreCounts xs ys → IsStrictlySortedBy own_short (keys_of zs)
      → AreCounts zs ys
  kept_short zs kept in_order = record {
    shorts = sorted short_order zs (subst (λ R. IsStrictlySortedBy R (keys_of zs)) short_agrees in_order);
    longs = kept.longs;
  }

  pub kept_long : (zs : List (LongRow × ℕ)) → AreCounts xs ys → IsStrictlySortedBy own_long (keys_of zs)
      → AreCounts xs zs
  kept_long zs kept in_order = record {
    shorts = kept.shorts;
    longs = sorted long_order zs (subst (λ R. IsStrictlySortedBy R (keys_of zs)) long_agrees in_order);
  }

  -- the same of what a call leaves that may be refused
  pub left_short : {T E : Type 0} (r : Result T E) (zs : List (ShortRow × ℕ)) → AreCounts xs ys
      → OnOk r (IsStrictlySortedBy own_short (keys_of zs)) → OnErr r (zs ≡ xs) → AreCounts zs ys
  left_short (Ok t) zs kept in_order is = kept_short zs kept in_order
  left_short (Err e) zs kept in_order is = subst (λ l. AreCounts l ys) (sym is) kept

  pub left_long : {T E : Type 0} (r : Result T E) (zs : List (LongRow × ℕ)) → AreCounts xs ys
      → OnOk r (IsStrictlySortedBy own_long (keys_of zs)) → OnErr r (zs ≡ ys) → AreCounts xs zs
  left_long (Ok t) zs kept in_order is = kept_long zs kept in_order
  left_long (Err e) zs kept in_order is = subst (λ l. AreCounts xs l) (sym is) kept

-- the same at all rows and a row that the kept rows and the key stand for
module _ {xs : List (ShortRow × ℕ)} {ys : List (LongRow × ℕ)} {m : List (Row × ℕ)} {row : Row} where
  -- how often the row is there
  pub found_short : (k : ShortRow) → AreCounts xs ys → both_counts xs ys ≡ m → short_row k ≡ row
      → found row_order m row ≡ lookup (λ q. is_eq (own_short k q)) xs
  found_short k kept view key =
      sym (λ i. found row_order (view i) (key i)) ∙ sym (find-lookup row_order (short_row k) (both_counts xs ys))
      ∙ find-left row_order short_row long_row apart back k xs ys ∙ find-lookup short_order k xs
      ∙ ap (λ R. lookup (λ q. is_eq (R k q)) xs) (sym short_agrees)

  pub found_long : (k : LongRow) → AreCounts xs ys → both_counts xs ys ≡ m → long_row k ≡ row
      → found row_order m row ≡ lookup (λ q. is_eq (own_long k q)) ys
  found_long k kept view key =
      sym (λ i. found row_order (view i) (key i)) ∙ sym (find-lookup row_order (long_row k) (both_counts xs ys))
      ∙ find-right row_order short_row long_row apart back k xs ys ∙ find-lookup long_order k ys
      ∙ ap (λ R. lookup (λ q. is_eq (R k q)) ys) (sym long_agrees)

  -- all rows with the row so often
  pub puts_short : (k : ShortRow) (n : ℕ) {zs : List (ShortRow × ℕ)} → AreCounts xs ys → both_counts xs ys ≡ m
      → short_row k ≡ row → zs ≡ insert_entry own_short xs k n → both_counts zs ys ≡ put row_order row n m
  puts_short k n kept view key is =
      ap (λ l. both_counts l ys) (is ∙ ap (λ R. insert_entry R xs k n) short_agrees ∙ insert-put short_order k n xs)
      ∙ sym (put-left row_order short_row long_row apart back k n xs ys) ∙ (λ i. put row_order (key i) n (view i))

  pub puts_long : (k : LongRow) (n : ℕ) {zs : List (LongRow × ℕ)} → AreCounts xs ys → both_counts xs ys ≡ m
      → long_row k ≡ row → zs ≡ insert_entry own_long ys k n → both_counts xs zs ≡ put row_order row n m
  puts_long k n kept view key is =
      ap (λ l. both_counts xs l) (is ∙ ap (λ R. insert_entry R ys k n) long_agrees ∙ insert-put long_order k n ys)
      ∙ sym (put-right row_order short_row long_row apart back k n xs ys) ∙ (λ i. put row_order (key i) n (view i))

  -- all rows without the row
  pub drops_short : (k : ShortRow) {zs : List (ShortRow × ℕ)} → AreCounts xs ys → both_counts xs ys ≡ m
      → short_row k ≡ row → zs ≡ remove_entry (λ q. is_eq (own_short k q)) xs → both_counts zs ys ≡ others row m
  drops_short k kept view key is =
      ap (λ l. both_counts l ys) (is ∙ ap (λ R. remove_entry (λ q. is_eq (R k q)) xs) short_agrees
      ∙ remove-others (on_total short_row row_total) k xs kept.shorts)
      ∙ sym (others-left row_order short_row long_row apart back k xs ys) ∙ (λ i. others (key i) (view i))

  pub drops_long : (k : LongRow) {zs : List (LongRow × ℕ)} → AreCounts xs ys → both_counts xs ys ≡ m
      → long_row k ≡ row → zs ≡ remove_entry (λ q. is_eq (own_long k q)) ys → both_counts xs zs ≡ others row m
  drops_long k kept view key is =
      ap (λ l. both_counts xs l) (is ∙ ap (λ R. remove_entry (λ q. is_eq (R k q)) ys) long_agrees
      ∙ remove-others (on_total long_row row_total) k ys kept.longs)
      ∙ sym (others-right row_order short_row long_row apart back k xs ys) ∙ (λ i. others (key i) (view i))

-- the rows of what is kept ascend
pub ascends : {xs : List (ShortRow × ℕ)} {ys : List (LongRow × ℕ)} {m : List (Row × ℕ)} → AreCounts xs ys
    → both_counts xs ys ≡ m → is_sorted row_order m ≡ true
ascends {xs} {ys} kept view = subst (λ l. is_sorted row_order l ≡ true) view (ascending xs ys kept)
