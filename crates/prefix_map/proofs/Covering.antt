-- Of each length one prefix alone covers an address.
use Rattle.std.proofs.Common.{◌≡◌, ℕ, ◌+◌, ◌≤◌, ◌*◌, ◌^◌, inl, inr, List, [], ◌∷◌, map, Option, Some, None, sym}
use Rattle.std.proofs.Common.{ap, subst, ◌∙◌, arith}
use Rattle.std.specs.Option.{IsSome}
use Rattle.std.specs.FinMap.{entries, keys, get}
use Rattle.urpf_base.specs.Address.{Block, Covers, block_of, cleared, width_of}
use Rattle.urpf_base.specs.Lists.{Has}
use Rattle.urpf_base.specs.declared.address.Addr.{Addr}
use Rattle.urpf_base.specs.declared.address.Addr.TheVariants.{V4, V6}
use Rattle.urpf_base.proofs.Bits.{agree_from_cleared, cleared-agree, cleared-cleared}
use Rattle.prefix_map.specs.declared.keys.ShortKey.{ShortKey}
use Rattle.prefix_map.specs.declared.keys.LongKey.{LongKey}
use Rattle.prefix_map.specs.Keys.{short_block, long_block, FitsFamily}
use Rattle.prefix_map.specs.Kept.{AreKept, joined, seen, under}
use Rattle.prefix_map.specs.Mapped.{Mapped}
use Rattle.prefix_map.proofs.Held.{has_held}
use Rattle.prefix_map.proofs.Seen.{entries-seen}

-- a prefix that covers the address is the one of its length
abbrev pub IsOwn : Addr → Block → Type 0
IsOwn addr p = Covers p addr → (p.len ≤ width_of addr) × (p ≡ block_of p.len addr)

short_own : (addr : Addr) → FitsFamily addr → (k : ShortKey) → IsOwn addr (short_block k)
short_own (V4 a) small k covers = (
  k.within,
  λ i. record {
    addr = V4 ((sym k.zeros ∙ cleared-agree 32 k.len k.number a k.within k.small small covers) i);
    len = k.len;
  },
)
short_own (V6 a) small k covers = elim covers [ ]

long_own : (addr : Addr) → FitsFamily addr → (k : LongKey) → IsOwn addr (long_block k)
long_own (V4 a) small k covers = elim covers [ ]
long_own (V6 a) small k covers = (
  k.within,
  λ i. record {
    addr = V6
        ((sym k.zeros ∙ cleared-agree 128 k.len (k.high * 2 ^ 64 + k.low) a k.within
        (omega (arith, k.small_high, k.small_low)) small covers) i);
    len = k.len;
  },
)

has_under : {A X : Type 0} (f : A → Block) (P : Block → Type 0) → ((k : A) → P (f k)) → (xs : List (A × X)) (p : Block)
    → Has (map (λ e. e.0) (under f xs)) p → P p
has_under f P all [] p in_none = elim in_none [ ]
has_under f P all (x ∷ xs) p (inl same) = subst P (sym same) (all x.0)
has_under f P all (x ∷ xs) p (inr later) = has_under f P all xs p later

has_joined : {X : Type 0} (P : Block → Type 0) → ((k : ShortKey) → P (short_block k))
    → ((k : LongKey) → P (long_block k)) → (xs : List (ShortKey × X)) (ys : List (LongKey × X)) (p : Block)
    → Has (map (λ e. e.0) (joined short_block long_block xs ys)) p → P p
has_joined P shorts longs [] ys p has = has_under long_block P longs ys p has
has_joined P shorts longs (x ∷ xs) ys p (inl same) = subst P (sym same) (shorts x.0)
has_joined P shorts longs (x ∷ xs) ys p (inr later) = has_joined P shorts longs xs ys p later

-- the prefix of each length covers the address
pub covers_own : (len : ℕ) (addr : Addr) → len ≤ width_of addr → Covers (block_of len addr) addr
covers_own len (V4 a) within = agree_from_cleared 32 len (cleared 32 len a) a within (cleared-cleared 32 len a)
covers_own len (V6 a) within = agree_from_cleared 128 len (cleared 128 len a) a within (cleared-cleared 128 len a)

module _ {V : Type 0} where
  -- a prefix that is there and covers the address is the one of its length
  pub own_there : (xs : List (ShortKey × V)) (ys : List (LongKey × V)) (m : Mapped V) (addr : Addr) → AreKept xs ys
      → seen xs ys ≡ m → FitsFamily addr → (p : Block) → Has (keys m) p → IsOwn addr p
  own_there xs ys m addr kept view small p has covers =
      let stored : Has (map (λ e. e.0) (joined short_block long_block xs ys)) p = subst (λ l. Has (map (λ e. e.0) l) p)
      (ap entries (sym view) ∙ entries-seen xs ys kept) has in
      has_joined (IsOwn addr) (short_own addr small) (long_own addr small) xs ys p stored covers

  -- where no prefix of any length is there, none that is there covers the address
  pub none_cover : (xs : List (ShortKey × V)) (ys : List (LongKey × V)) (m : Mapped V) (addr : Addr) → AreKept xs ys
      → seen xs ys ≡ m → FitsFamily addr
      → ((k : ℕ) → k ≤ width_of addr → get m (block_of k addr) ≡ None) → (p : Block) → Has (keys m) p → Covers p addr
      → ⊥
  none_cover xs ys m addr kept view small none p has covers =
      let own : (p.len ≤ width_of addr)
      × (p ≡ block_of p.len addr) =
      own_there xs ys m addr kept view small p has covers in
      let there : IsSome (get m p) = (has_held m p).0 has in
      let gone : get m p ≡ None = ap (get m) own.1 ∙ none p.len own.0 in
      never (get m p) there gone
    where
      never : (r : Option V) → IsSome r → r ≡ None → ⊥
      never None some is = absurd cc
      never (Some v) some is = absurd cc

  -- the prefix of one length has a value, and so it is there and covers the address
  pub own_covers : (m : Mapped V) (addr : Addr) (len : ℕ) → len ≤ width_of addr → IsSome (get m (block_of len addr))
      → Has (keys m) (block_of len addr) × Covers (block_of len addr) addr
  own_covers m addr len within some =
      ((has_held m (block_of len addr)).1 some, covers_own len addr within)
