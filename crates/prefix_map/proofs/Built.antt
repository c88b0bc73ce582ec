-- The map that pairs make as they come: what one pair more gives, and that the maps which std makes of them are that map.
use Rattle.std.proofs.Common.{◌≡◌, ℕ, ◌+◌, ◌<◌, ◌≤◌, ◌^◌, Bool, true, false, cond, List, [], ◌∷◌, ◌++◌, length, arith}
use Rattle.std.proofs.Common.{refl, sym, ap, subst, ◌∙◌, Option, Some, None, T, map, inl, inr}
use Rattle.std.specs.Option.{IsSome}
use Rattle.std.specs.declared.cmp.Ordering.{Ordering}
use Rattle.std.specs.Ordering.{eq_by_cmp}
use Rattle.std.specs.Cmp.{IsTotalOrder, eq_by_cmp_equiv, on_total}
use Rattle.std.specs.List.{fold}
use Rattle.std.specs.Map.{update_all}
use Rattle.std.specs.BTreeMap.{BTreeMap, IsFromIterResult, insert_entry}
use Rattle.std.specs.FinMap.{FinMap, contains_key, empty, entries, entries-from_sorted, entries-insert, entries_sorted, find}
use Rattle.std.specs.FinMap.{from_sorted, get, get-from_sorted, same_map}
use Rattle.std.specs.FinMap.{get-empty, get-entries, get-insert, insert, is_sorted, len, len-empty, len-entries}
use Rattle.std.specs.FinMap.{len-insert, put}
use Rattle.std.specs.FinMap as finite
use Rattle.std.proofs.lemmas.List.{length-map}
use Rattle.std.proofs.lemmas.List.Sums.{fold-append}
use Rattle.urpf_base.specs.Address.{Block}
use Rattle.urpf_base.specs.Lists.{Has}
use Rattle.urpf_base.specs.Order.{prefix_order}
use Rattle.prefix_map.specs.Built.{built, put_in}
use Rattle.prefix_map.specs.Keys.{short_block, long_block}
use Rattle.prefix_map.specs.Kept.{AreKept, seen, under}
use Rattle.prefix_map.specs.Mapped.{Mapped}
use Rattle.prefix_map.specs.declared.keys.ShortKey.{ShortKey}
use Rattle.prefix_map.specs.declared.keys.LongKey.{LongKey}
use Rattle.prefix_map.proofs.Joined.{find-under, insert-put, on, sorted-under}
use Rattle.prefix_map.proofs.Order.{prefix_ties, prefix_total}
use Rattle.prefix_map.proofs.Seen.{holds, long_agrees, long_order, own_long, own_short, sets_long, sets_short}
use Rattle.prefix_map.proofs.Seen.{seen_nothing, short_order}
use Rattle.prefix_map.proofs.Sorted.{find-lookup, only_found, sorted}

one_more : (b : Bool) (n k : ℕ) → cond b n (n + 1) + k ≤ n + (k + 1)
one_more true n k = omega arith
one_more false n k = omega arith

module _ {K X : Type 0} {R : K → K → Ordering} (o : IsTotalOrder R) where
  -- a pair more is put in
  pub put_in-push : (xs : List (K × X)) (k : K) (v : X)
      → entries (put_in R (xs ++ (k, v) ∷ [])) ≡ put R k v (entries (put_in R xs))
  put_in-push xs k v =
      ap entries (fold-append (λ m e. insert m e.0 e.1) empty xs ((k, v) ∷ [])) ∙ entries-insert o (put_in R xs) k v

  get-all : (m : FinMap R X) (xs : List (K × X)) (q : K)
      → get (fold (λ n e. insert n e.0 e.1) m xs) q ≡ update_all (eq_by_cmp R) (get m) xs q
  get-all m [] q = refl
  get-all m (x ∷ xs) q =
      get-all (insert m x.0 x.1) xs q
      ∙ ap (λ f. update_all (eq_by_cmp R) f xs q)
      (λ i p. (get-insert o m x.0 x.1 p ∙ ap (λ b. cond b (Some x.1) (get m p)) ((eq_by_cmp_equiv o).symm p x.0)) i)

  -- what is found is the last value that was put in
  get-put_in : (xs : List (K × X)) (q : K) → get (put_in R xs) q ≡ update_all (eq_by_cmp R) (λ _. None) xs q
  get-put_in xs q =
      get-all empty xs q ∙ ap (λ f. update_all (eq_by_cmp R) f xs q) (λ i p. get-empty R p i)

  len-all : (m : FinMap R X) (xs : List (K × X)) → len (fold (λ n e. insert n e.0 e.1) m xs) ≤ len m + length xs
  len-all m [] = omega arith
  len-all m (x ∷ xs) =
      let later = len-all (insert m x.0 x.1) xs in
      let now = len-insert o m x.0 x.1 in
      let more = one_more (contains_key m x.0) (len m) (length xs) in
      omega arith

  -- there are no more entries than pairs
  length-put_in : (xs : List (K × X)) → length (entries (put_in R xs)) ≤ length xs
  length-put_in xs =
      let all = len-all empty xs in
      let none = len-empty R X in
      let is = len-entries (put_in R xs) in
      omega arith

total : {A : Type 0} (f : A → Block) → IsTotalOrder (on prefix_order f)
total f = on_total f prefix_total

none_of : {X : Type 0} (es : List X) → length es ≡ 0 → es ≡ []
none_of [] is = refl
none_of (e ∷ es) is = absurd (omega arith)

none_in : (K X : Type 0) (R : K → K → Ordering) → entries (put_in {X = X} R []) ≡ []
none_in K X R = none_of (entries (put_in {X = X} R [])) (sym (len-entries (put_in {X = X} R [])) ∙ len-empty R X)

module _ {A V : Type 0} (f : A → Block) where
  the_key : (es : List (A × V)) (q : Block) → Has (map (λ e. e.0) (under f es)) q → (k : A) × (f k ≡ q)
  the_key [] q in_none = elim in_none [ ]
  the_key (e ∷ es) q (inl same) = (e.0, sym same)
  the_key (e ∷ es) q (inr later) = the_key es q later

  -- lists that have the same at each key have the same at each prefix
  agree : (xs ys : List (A × V))
      → ((k : A) → find (on prefix_order f) k xs ≡ find (on prefix_order f) k ys)
      → (q : Block) → find prefix_order q (under f xs) ≡ find prefix_order q (under f ys)
  agree xs ys same q = by (find prefix_order q (under f xs)) (find prefix_order q (under f ys)) refl refl
    where
      at_key : (k : A) × (f k ≡ q) → find prefix_order q (under f xs) ≡ find prefix_order q (under f ys)
      at_key (k, e) =
          subst (λ z. find prefix_order z (under f xs) ≡ find prefix_order z (under f ys)) e
          (find-under prefix_order f k xs ∙ same k ∙ sym (find-under prefix_order f k ys))

      found_key : (es : List (A × V)) (v : V) → find prefix_order q (under f es) ≡ Some v → (k : A) × (f k ≡ q)
      found_key es v is =
          the_key es q (only_found prefix_total prefix_ties (under f es) q (subst IsSome (sym is) refl))

      by : (a b : Option V) → find prefix_order q (under f xs) ≡ a → find prefix_order q (under f ys) ≡ b
          → find prefix_order q (under f xs) ≡ find prefix_order q (under f ys)
      by (Some v) b is too = at_key (found_key xs v is)
      by None (Some v) is too = at_key (found_key ys v too)
      by None None is too = is ∙ sym too

  in_order : (es : List (A × V)) → is_sorted (on prefix_order f) es ≡ true → T (is_sorted prefix_order (under f es))
  in_order es is = subst T (sym (sorted-under prefix_order f es ∙ is)) tt

  -- sorted lists that have the same at each key stand for the same pairs
  same_list : (xs ys : List (A × V)) → is_sorted (on prefix_order f) xs ≡ true → is_sorted (on prefix_order f) ys ≡ true
      → ((k : A) → find (on prefix_order f) k xs ≡ find (on prefix_order f) k ys) → under f xs ≡ under f ys
  same_list xs ys s t same =
      let left : Mapped V = from_sorted (under f xs) in
      let right : Mapped V = from_sorted (under f ys) in
      let one : left ≡ right = same_map prefix_total prefix_ties left right (λ q.
      get-from_sorted prefix_order (under f xs) q (in_order xs s) ∙ agree xs ys same q
      ∙ sym (get-from_sorted prefix_order (under f ys) q (in_order ys t))) in
      sym (entries-from_sorted prefix_order (under f xs) (in_order xs s)) ∙ ap entries one
      ∙ entries-from_sorted prefix_order (under f ys) (in_order ys t)

  -- the entries that std makes of the pairs
  from_list : (xs : List (A × V)) (n : BTreeMap A V) → IsFromIterResult (on prefix_order f) xs n
      → under f n.entries ≡ under f (entries (put_in (on prefix_order f) xs))
  from_list xs n is =
      let made = put_in (on prefix_order f) xs in
      same_list n.entries (entries made) (sorted (on prefix_order f) n.entries is.1) (holds _ (entries_sorted made))
      (λ k. find-lookup (on prefix_order f) k n.entries ∙ is.0 k ∙ sym (get-put_in (total f) xs k) ∙ get-entries made k)

  length-under : (es : List (A × V)) → length (under f es) ≡ length es
  length-under es = length-map es (λ e. (f e.0, e.1))

  no_longer : (xs : List (A × V)) (n : BTreeMap A V) → IsFromIterResult (on prefix_order f) xs n
      → length n.entries ≤ length xs
  no_longer xs n is =
      let most = length-put_in (total f) xs in
      let same = ap length (from_list xs n is) in
      let left = length-under n.entries in
      let right = length-under (entries (put_in (on prefix_order f) xs)) in
      omega arith

module _ {V : Type 0} where
  -- what was put in is kept as a map keeps it
  kept : (xs : List (ShortKey × V)) (ys : List (LongKey × V)) → length xs + length ys < 2 ^ 63
      → AreKept (entries (put_in short_order xs)) (entries (put_in long_order ys))
  kept xs ys count =
      let left = length-put_in (total short_block) xs in
      let right = length-put_in (total long_block) ys in
      record {
        shorts = holds _ (entries_sorted (put_in short_order xs));
        longs = holds _ (entries_sorted (put_in long_order ys));
        count = omega arith;
      }

  -- no pairs are the empty map
  pub built_nothing : (xs : List (ShortKey × V)) (ys : List (LongKey × V)) → xs ≡ [] → ys ≡ []
      → built xs ys ≡ empty
  built_nothing xs ys no_shorts no_longs =
      (λ i. built (no_shorts i) (no_longs i)) ∙ seen_nothing _ _ (none_in ShortKey V short_order) (none_in LongKey V long_order)

  module _ (xs : List (ShortKey × V)) (ys : List (LongKey × V)) {m : Mapped V} {p : Block} where
    pub builds_short : (k : ShortKey) (v : V) {zs : List (ShortKey × V)} → length xs + length ys < 2 ^ 63
        → length zs + length ys < 2 ^ 63 → built xs ys ≡ m → short_block k ≡ p → zs ≡ xs ++ (k, v) ∷ []
        → built zs ys ≡ finite.insert m p v
    builds_short k v {zs} count later view key is =
        sets_short k v (kept xs ys count) (kept zs ys later) view key
        (ap (λ l. entries (put_in short_order l)) is ∙ put_in-push (total short_block) xs k v
        ∙ sym (insert-put short_order k v (entries (put_in short_order xs))))

    pub builds_long : (k : LongKey) (v : V) {zs : List (LongKey × V)} → length xs + length ys < 2 ^ 63
        → length xs + length zs < 2 ^ 63 → built xs ys ≡ m → long_block k ≡ p → zs ≡ ys ++ (k, v) ∷ []
        → built xs zs ≡ finite.insert m p v
    builds_long k v {zs} count later view key is =
        sets_long k v (kept xs ys count) (kept xs zs later) view key
        (ap (λ l. entries (put_in long_order l)) is ∙ put_in-push (total long_block) ys k v
        ∙ sym (insert-put long_order k v (entries (put_in long_order ys)))
        ∙ ap (λ R. insert_entry R (entries (put_in long_order ys)) k v) (sym long_agrees))

  module _ (xs : List (ShortKey × V)) (ys : List (LongKey × V)) (short : BTreeMap ShortKey V) (long : BTreeMap LongKey V)
      (shorts : IsFromIterResult own_short xs short) (longs : IsFromIterResult own_long ys long)
    where
      longs_too : IsFromIterResult long_order ys long
      longs_too = subst (λ R. IsFromIterResult R ys long) long_agrees longs

      -- the maps that std makes of the pairs are that map
      pub are_built : seen short.entries long.entries ≡ built xs ys
      are_built i = from_sorted (from_list short_block xs short shorts i ++ from_list long_block ys long longs_too i)

      pub are_kept : length xs + length ys < 2 ^ 63 → AreKept short.entries long.entries
      are_kept count =
          let left = no_longer short_block xs short shorts in
          let right = no_longer long_block ys long longs_too in
          record {
            shorts = sorted short_order short.entries shorts.1;
            longs = sorted long_order long.entries longs_too.1;
            count = omega arith;
          }
