-- How long the head of a record is, whatever stands behind it.
use Rattle.std.proofs.Common.{◌≡◌, ℕ, ◌+◌, ◌≤◌, Bool, true, false, ◌==◌, nat_lt, if◌then◌else◌, List}
use Rattle.std.proofs.Common.{◌++◌, length, drop, Option, Some, None, refl, ap, sym, ◌∙◌, arith, le-ltb, ltb-false, length-append}
use Rattle.std.proofs.Common.{length-drop}
use Rattle.std.proofs.lemmas.List.{drop-append-le}
use Rattle.byteorder.specs.Endian.{big_number}
use Rattle.byteorder.specs.Numbers.{big_from-append}
use Rattle.as_path.specs.declared.widths.Width.{Width}
use Rattle.as_path.specs.declared.widths.Width.TheVariants.{Two, Four}
use Rattle.mrt_feed.specs.Records.{number_at, type_of, subtype_of, layout_of, asn_octets, family_place}
use Rattle.mrt_feed.specs.Records.{last_octets, tail_length, known_length, layout_length, head_length, IsHead, length_of}
use Rattle.mrt_feed.specs.Records.{layout_says, head_says}
use Rattle.mrt_feed.specs.declared.layout.Layout.{Layout}
use Rattle.mrt_feed.specs.declared.layout.TheConstants.{IPV4, IPV6}
use Rattle.mrt_feed.specs.declared.record_head.Sender.{Sender}
use Rattle.mrt_feed.specs.declared.record_head.RecordHead.TheVariants.{Message}

-- ---- bounds

pub choice_high : (b : Bool) (m n k : ℕ) → m ≤ k → n ≤ k → (if b then m else n) ≤ k
choice_high true m n k first second = first
choice_high false m n k first second = second

pub choice_low : (b : Bool) (m n k : ℕ) → k ≤ m → k ≤ n → k ≤ (if b then m else n)
choice_low true m n k first second = first
choice_low false m n k first second = second

asn_octets-high : (w : Width) → asn_octets w ≤ 4
asn_octets-high Two = omega arith
asn_octets-high Four = omega arith

asn_octets-low : (w : Width) → 2 ≤ asn_octets w
asn_octets-low Two = omega arith
asn_octets-low Four = omega arith

family_place-high : (l : Layout) → family_place l ≤ 26
family_place-high l =
    omega (arith, choice_high l.extended 16 12 16 (omega arith) (omega arith), asn_octets-high l.width)

pub family_place-low : (l : Layout) → 18 ≤ family_place l
family_place-low l = omega (arith, choice_low l.extended 16 12 12 (omega arith) (omega arith), asn_octets-low l.width)

last_octets-high : (l : Layout) → last_octets l ≤ 19
last_octets-high l = choice_high l.change 4 19 19 (omega arith) (omega arith)

tail_length-high : (l : Layout) (family : ℕ) → tail_length l family ≤ 51
tail_length-high l family =
    let last = last_octets-high l in
    choice_high (family == IPV4) (8 + last_octets l) _ 51 (omega (arith, last))
    (choice_high (family == IPV6) (32 + last_octets l) 0 51 (omega (arith, last)) (omega arith))

known_length-high : (l : Layout) (text : List ℕ) → known_length l text ≤ 79
known_length-high l text =
    let n = family_place l in
    let most = family_place-high l in
    choice_high (nat_lt (length text) (n + 2)) (n + 2) (n + 2 + tail_length l (number_at n 2 text)) 79
    (omega (arith, most)) (omega (arith, most, tail_length-high l (number_at n 2 text)))

pub known_length-low : (l : Layout) (text : List ℕ) → family_place l + 2 ≤ known_length l text
known_length-low l text =
    let n = family_place l in
    choice_low (nat_lt (length text) (n + 2)) (n + 2) (n + 2 + tail_length l (number_at n 2 text)) (n + 2)
    (omega arith) (omega arith)

layout_length-high : (o : Option Layout) (text : List ℕ) → layout_length o text ≤ 79
layout_length-high None text = omega arith
layout_length-high (Some l) text = known_length-high l text

layout_length-low : (o : Option Layout) (text : List ℕ) → 12 ≤ layout_length o text
layout_length-low None text = omega arith
layout_length-low (Some l) text = omega (arith, known_length-low l text, family_place-low l)

pub head_length-high : (text : List ℕ) → head_length text ≤ 79
head_length-high text =
    choice_high (nat_lt (length text) 12) 12 (layout_length (layout_of (type_of text) (subtype_of text)) text) 79
    (omega arith) (layout_length-high (layout_of (type_of text) (subtype_of text)) text)

pub head_length-low : (text : List ℕ) → 12 ≤ head_length text
head_length-low text =
    choice_low (nat_lt (length text) 12) 12 (layout_length (layout_of (type_of text) (subtype_of text)) text) 12
    (omega arith) (layout_length-low (layout_of (type_of text) (subtype_of text)) text)

-- ---- what stands behind a field changes nothing

pub number_at-append : (place count : ℕ) (a b : List ℕ) → place + count ≤ length a
    → number_at place count (a ++ b) ≡ number_at place count a
number_at-append place count a b room =
    ap (big_number count) (drop-append-le place a b (omega arith))
    ∙ big_from-append count (drop place a) b (omega (arith, room, length-drop place a))

known_length-at : (l : Layout) (a : List ℕ) → family_place l + 2 ≤ length a
    → known_length l a ≡ family_place l + 2 + tail_length l (number_at (family_place l) 2 a)
known_length-at l a room =
    let n = family_place l in
    ap (λ c. if c then n + 2 else n + 2 + tail_length l (number_at n 2 a)) (le-ltb (length a) (n + 2) room)

known_length-append : (l : Layout) (a b : List ℕ) → family_place l + 2 ≤ length a
    → known_length l (a ++ b) ≡ known_length l a
known_length-append l a b room =
    let n = family_place l in
    known_length-at l (a ++ b) (omega (arith, room, length-append a b))
    ∙ ap (λ f. n + 2 + tail_length l f) (number_at-append n 2 a b room)
    ∙ sym (known_length-at l a room)

layout_length-append : (o : Option Layout) (a b : List ℕ) → layout_length o a ≤ length a
    → layout_length o (a ++ b) ≡ layout_length o a
layout_length-append None a b room = refl
layout_length-append (Some l) a b room = known_length-append l a b (omega (arith, room, known_length-low l a))

pub head_length-at : (a : List ℕ) → 12 ≤ length a
    → head_length a ≡ layout_length (layout_of (type_of a) (subtype_of a)) a
head_length-at a room =
    ap (λ c. if c then 12 else layout_length (layout_of (type_of a) (subtype_of a)) a) (le-ltb (length a) 12 room)

-- the length goes by the first octets alone
head_length-by : (a b : List ℕ) → 12 ≤ length a
    → head_length (a ++ b) ≡ layout_length (layout_of (type_of a) (subtype_of a)) (a ++ b)
head_length-by a b room =
    head_length-at (a ++ b) (omega (arith, room, length-append a b))
    ∙ ap (λ t. layout_length (layout_of t (subtype_of (a ++ b))) (a ++ b))
    (number_at-append 4 2 a b (omega (arith, room)))
    ∙ ap (λ t. layout_length (layout_of (type_of a) t) (a ++ b)) (number_at-append 6 2 a b (omega (arith, room)))

pub head_length-append : (a b : List ℕ) → head_length a ≤ length a → head_length (a ++ b) ≡ head_length a
head_length-append a b room =
    let low : 12 ≤ length a = omega (arith, room, head_length-low a) in
    let at = head_length-at a low in
    head_length-by a b low
    ∙ layout_length-append (layout_of (type_of a) (subtype_of a)) a b (omega (arith, room, at))
    ∙ sym at

-- ---- further octets that do not go past the end of a head

known_stays : (l : Layout) (a b : List ℕ) (short : Bool) → nat_lt (length a) (family_place l + 2) ≡ short
    → length a + length b ≤ (if short then family_place l + 2
    else family_place l + 2 + tail_length l (number_at (family_place l) 2 a))
    → length (a ++ b) ≤ known_length l (a ++ b)
known_stays l a b true short_is room = omega (arith, room, known_length-low l (a ++ b), length-append a b)
known_stays l a b false short_is room =
    let long = ltb-false (length a) (family_place l + 2) short_is in
    omega (arith, room, length-append a b, known_length-append l a b long, known_length-at l a long)

layout_stays : (o : Option Layout) (a b : List ℕ) → length a + length b ≤ layout_length o a
    → length (a ++ b) ≤ layout_length o (a ++ b)
layout_stays None a b room = omega (arith, room, length-append a b)
layout_stays (Some l) a b room = known_stays l a b (nat_lt (length a) (family_place l + 2)) refl room

head_stays_by : (a b : List ℕ) (short : Bool) → nat_lt (length a) 12 ≡ short
    → length a + length b ≤ (if short then 12 else layout_length (layout_of (type_of a) (subtype_of a)) a)
    → IsHead (a ++ b)
head_stays_by a b true short_is room = omega (arith, room, head_length-low (a ++ b), length-append a b)
head_stays_by a b false short_is room =
    let low = ltb-false (length a) 12 short_is in
    omega (
      arith,
      head_length-by a b low,
      layout_stays (layout_of (type_of a) (subtype_of a)) a b room,
    )

pub head_stays : (a b : List ℕ) → length a + length b ≤ head_length a → IsHead (a ++ b)
head_stays a b room = head_stays_by a b (nat_lt (length a) 12) refl room

-- ---- a whole head

-- the head of a record that is read is as long as its layout has it
pub head_known : (a : List ℕ) (l : Layout) → length a ≡ head_length a
    → layout_of (type_of a) (subtype_of a) ≡ Some l → length a ≡ known_length l a
head_known a l whole is =
    whole ∙ head_length-at a (omega (arith, whole, head_length-low a)) ∙ ap (λ o. layout_length o a) is

-- the head of a message holds the header of that message
layout_long : (o : Option Layout) (count : ℕ) (head : List ℕ) (s : Sender) (n : ℕ)
    → layout_says o count head ≡ Message s n → 20 ≤ layout_length o head
layout_long None count head s n is = absurd cc
layout_long (Some l) count head s n is = omega (arith, known_length-low l head, family_place-low l)

pub message_long : (head : List ℕ) (s : Sender) (n : ℕ) → length head ≡ head_length head
    → head_says head ≡ Message s n → 19 ≤ length head
message_long head s n whole is =
    let at = head_length-at head (omega (arith, whole, head_length-low head)) in
    omega (
      arith,
      whole,
      at,
      layout_long (layout_of (type_of head) (subtype_of head)) (length_of head) head s n is,
    )
