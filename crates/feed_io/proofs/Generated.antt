-- The octets of an UPDATE of the generator, and its events one after the other.
use Rattle.std.proofs.Common.{◌≡◌, ℕ, zero, suc, ◌+◌, ◌-◌, ◌*◌, ◌<◌, ◌≤◌, Bool, true, false, min, List, [], ◌∷◌, ◌++◌}
use Rattle.std.proofs.Common.{length, map, drop, refl, ap, sym, ◌∙◌, arith, nat_lt, replicate}
use Rattle.std.specs.List.{filter, flat_map, range_with_len}
use Rattle.std.proofs.lemmas.Bool.{ltb-true, ltb-false}
use Rattle.std.proofs.lemmas.List.{drop_all, length-map}
use Rattle.std.proofs.lemmas.List.FromFn.{length-map-range_with_len}
use Rattle.byteorder.specs.Endian.{big_bytes}
use Rattle.feed_io.specs.Events.{octets, with_more}
use Rattle.feed_io.specs.Generated.{prefix_field, attributes, sized, announcement, block_origin}
use Rattle.feed_io.specs.Generated.{block_update, block_count, block_updates, generated_events}
use Rattle.feed_io.specs.declared.messages.TheConstants.{UPDATE}

-- a prefix takes four octets
pub prefixes_length : (first n : ℕ) → length (flat_map prefix_field (range_with_len first n)) ≡ 4 * n
prefixes_length first zero = refl
prefixes_length first (suc n) = omega (arith, prefixes_length (first + 1) n)

-- the octets of one prefix more
pub prefixes_more : (first n j : ℕ) → first + n ≡ j
    → flat_map prefix_field (range_with_len first (n + 1))
    ≡ flat_map prefix_field (range_with_len first n) ++ prefix_field j
prefixes_more first zero j is =
    let e : first ≡ j = omega (arith, is) in
    ap prefix_field e
prefixes_more first (suc n) j is =
    let e : suc n + 1 ≡ suc (n + 1) = omega arith in
    ap (λ k. flat_map prefix_field (range_with_len first k)) e
    ∙ ap (λ text. prefix_field first ++ text) (prefixes_more (first + 1) n j (omega (arith, is)))

-- the numbers of a range that are below a bound are the first of it
below_guarded : (count first n : ℕ) (below : Bool) → nat_lt first count ≡ below
    → filter (λ j. nat_lt j count) (range_with_len (first + 1) n)
    ≡ range_with_len (first + 1) (min (count - (first + 1)) n)
    → filter (λ j. nat_lt j count) (range_with_len first (suc n)) ≡ range_with_len first (min (count - first) (suc n))
below_guarded count first n true is more =
    let e : suc (min (count - (first + 1)) n) ≡ min (count - first) (suc n) =
    omega (arith, ltb-true first count is) in
    rw is (ap (λ js. first ∷ js) more ∙ ap (range_with_len first) e)
below_guarded count first n false is more =
    let none : min (count - (first + 1)) n ≡ 0 = omega (arith, ltb-false first count is) in
    let here : 0 ≡ min (count - first) (suc n) = omega (arith, ltb-false first count is) in
    rw is (more ∙ ap (range_with_len (first + 1)) none ∙ ap (range_with_len first) here)

below_bound : (count first n : ℕ)
    → filter (λ j. nat_lt j count) (range_with_len first n) ≡ range_with_len first (min (count - first) n)
below_bound count first zero =
    let e : 0 ≡ min (count - first) zero = omega arith in
    ap (range_with_len first) e
below_bound count first (suc n) =
    below_guarded count first n (nat_lt first count) refl (below_bound count (first + 1) n)

-- the octets of an UPDATE of n prefixes, of which first is the first
abbrev update_octets : ℕ → ℕ → ℕ → List ℕ
update_octets origin first n =
    replicate 16 255 ++ (big_bytes 2 (47 + 4 * n) ++ (UPDATE ∷ []))
    ++ (sized [] ++ sized (attributes origin) ++ flat_map prefix_field (range_with_len first n))

announcement_is : (origin first n : ℕ) → announcement origin (range_with_len first n) ≡ update_octets origin first n
announcement_is origin first n =
    let body = sized [] ++ (sized (attributes origin) ++ flat_map prefix_field (range_with_len first n)) in
    let e : 19 + length body ≡ 47 + 4 * n = omega (arith, prefixes_length first n) in
    ap (λ k. replicate 16 255 ++ (big_bytes 2 k ++ (UPDATE ∷ body))) e

-- the UPDATE of a block has eight prefixes, or those that are left
pub block_update_is : (seed count t : ℕ)
    → update_octets (block_origin seed t) (8 * t) (min (count - 8 * t) 8) ≡ block_update seed count t
block_update_is seed count t =
    sym (announcement_is (block_origin seed t) (8 * t) (min (count - 8 * t) 8))
    ∙ ap (announcement (block_origin seed t)) (sym (below_bound count (8 * t) 8))

-- ---- the events

-- the message of the k-th number from first on stands at the k-th place
drop_mapped : (f : ℕ → List ℕ) (first n k : ℕ) → k < n
    → drop k (map octets (map f (range_with_len first n)))
    ≡ octets (f (first + k)) ∷ drop (suc k) (map octets (map f (range_with_len first n)))
drop_mapped f first zero k less = absurd (omega (arith, less))
drop_mapped f first (suc n) zero less =
    let e : first ≡ first + 0 = omega arith in
    ap (λ j. octets (f j) ∷ map octets (map f (range_with_len (first + 1) n))) e
drop_mapped f first (suc n) (suc k) less =
    let e : first + 1 + k ≡ first + suc k = omega arith in
    drop_mapped f (first + 1) n k (omega (arith, less))
    ∙ ap (λ j. octets (f j) ∷ drop (suc k) (map octets (map f (range_with_len (first + 1) n)))) e

-- from the third message on each is the UPDATE of a block
pub update_next : (seed count number : ℕ) → 2 ≤ number → number < 2 + block_count count
    → drop (number + 1) (generated_events seed count)
    ≡ octets (block_update seed count (number - 2)) ∷ drop (number + 2) (generated_events seed count)
update_next seed count zero more less = absurd (omega (arith, more))
update_next seed count (suc zero) more less = absurd (omega (arith, more))
update_next seed count (suc (suc t)) more less =
    let events = generated_events seed count in
    let here : suc (suc t) + 1 ≡ suc (suc (suc t)) = omega arith in
    let block : 0 + t ≡ suc (suc t) - 2 = omega arith in
    let behind : suc (suc (suc (suc t))) ≡ suc (suc t) + 2 = omega arith in
    ap (λ k. drop k events) here
    ∙ drop_mapped (block_update seed count) 0 (block_count count) t (omega (arith, less))
    ∙ ap (λ k. octets (block_update seed count k) ∷ drop (suc t) (map octets (block_updates seed count))) block
    ∙ ap (λ k. octets (block_update seed count (suc (suc t) - 2)) ∷ drop k events) behind

-- behind the last message there is nothing
none_next : (seed count begun : ℕ) → 3 + block_count count ≤ begun → drop begun (generated_events seed count) ≡ []
none_next seed count begun past =
    drop_all begun (generated_events seed count)
    (omega (
      arith,
      past,
      length-map (block_updates seed count) octets,
      length-map-range_with_len (block_update seed count) 0 (block_count count),
    ))

pub nothing_left : (seed count begun : ℕ) (unsent : List ℕ) → length unsent ≡ 0 → 3 + block_count count ≤ begun
    → with_more unsent (drop begun (generated_events seed count)) ≡ []
nothing_left seed count begun [] none past = none_next seed count begun past
nothing_left seed count begun (b ∷ more) none past = absurd (omega (arith, none))
