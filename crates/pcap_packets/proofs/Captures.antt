-- Which frame a text begins with, and what is left behind it.
use Rattle.std.proofs.Common.{◌≡◌, ℕ, ◌<◌, ◌≤◌, Bool, true, false, nat_lt, if◌then◌else◌, List, [], ◌++◌}
use Rattle.std.proofs.Common.{length, take, drop, Option, Some, None, refl, ap, sym, ◌∙◌, append_assoc, length-append}
use Rattle.std.proofs.Common.{length-take, length-drop, arith, le-ltb, ltb-false, unwrap_or}
use Rattle.std.proofs.lemmas.Bool.{lt-ltb}
use Rattle.std.proofs.lemmas.List.{take-append-drop, drop-append-le}
use Rattle.std.proofs.Math.Seq.{take-append_seam, drop-append_seam}
use Rattle.std.specs.List.{flat_map}
use Rattle.byteorder.specs.Numbers.{big_from-append, little_from-append, big_from-take, little_from-take}
use Rattle.urpf_base.specs.Series.{Begins, ReadsFront}
use Rattle.urpf_base.proofs.Series.{values_in-some, values_in-none}
use Rattle.pcap_packets.specs.Captures.{SpellsFrame, captured_front, frame_front, records_behind}
use Rattle.pcap_packets.specs.Captures.{pcap_records}
use Rattle.pcap_packets.specs.Formats.{number_in, is_magic, order_of, link_of, with_link, in_order, format_of}
use Rattle.pcap_packets.specs.Frames.{frame_record}
use Rattle.pcap_packets.specs.declared.formats.Order.{Order}
use Rattle.pcap_packets.specs.declared.formats.Order.TheVariants.{BigEndian, LittleEndian}
use Rattle.pcap_packets.specs.declared.formats.Format.{Format}
use Rattle.pcap_packets.specs.declared.part.TheConstants.{CAPTURED_OCTETS}

-- ---- numbers

-- what stands behind four octets does not count
pub number-append : (order : Order) (xs ys : List ℕ) → 4 ≤ length xs → number_in order (xs ++ ys) ≡ number_in order xs
number-append BigEndian xs ys long = big_from-append 4 xs ys long
number-append LittleEndian xs ys long = little_from-append 4 xs ys long

number-take : (order : Order) (xs : List ℕ) → number_in order (take 4 xs) ≡ number_in order xs
number-take BigEndian xs = big_from-take 0 4 4 xs (omega arith)
number-take LittleEndian xs = little_from-take 0 4 4 xs (omega arith)

-- ---- the captured octets of a record

-- what they are where they are found
record IsCut (count : ℕ) (text frame rest : List ℕ) : Type 0 where
  pub most : count ≤ CAPTURED_OCTETS
  pub there : count ≤ length text
  pub frame_is : frame ≡ take count text
  pub rest_is : rest ≡ drop count text

captured_cut : (count : ℕ) (text frame rest : List ℕ) (long short : Bool) → nat_lt CAPTURED_OCTETS count ≡ long
    → nat_lt (length text) count ≡ short
    → (if long then None else if◌then◌else◌ {A = Option (List ℕ × List ℕ)} short None (Some (take count text, drop count text)))
    ≡ Some (frame, rest)
    → IsCut count text frame rest
captured_cut count text frame rest true short most_is short_is found = absurd cc
captured_cut count text frame rest false true most_is short_is found = absurd cc
captured_cut count text frame rest false false most_is short_is found =
    let other : List ℕ × List ℕ = ([], []) in
    record {
      most = ltb-false CAPTURED_OCTETS count most_is;
      there = ltb-false (length text) count short_is;
      frame_is = sym (ap (λ (o : Option (List ℕ × List ℕ)). (unwrap_or o other).0) found);
      rest_is = sym (ap (λ (o : Option (List ℕ × List ℕ)). (unwrap_or o other).1) found);
    }

pub captured_short : (count : ℕ) (text : List ℕ) → count ≤ CAPTURED_OCTETS → length text < count
    → captured_front count text ≡ None
captured_short count text most short =
    ap (λ b. if b then None else if◌then◌else◌ {A = Option (List ℕ × List ℕ)} (nat_lt (length text) count) None (Some (take count text, drop count text)))
    (le-ltb CAPTURED_OCTETS count most)
    ∙ ap (λ b. if◌then◌else◌ {A = Option (List ℕ × List ℕ)} b None (Some (take count text, drop count text)))
    (lt-ltb (length text) count short)

pub captured_there : (count : ℕ) (text : List ℕ) → count ≤ CAPTURED_OCTETS → count ≤ length text
    → captured_front count text ≡ Some (take count text, drop count text)
captured_there count text most there =
    ap (λ b. if b then None else if◌then◌else◌ {A = Option (List ℕ × List ℕ)} (nat_lt (length text) count) None (Some (take count text, drop count text)))
    (le-ltb CAPTURED_OCTETS count most)
    ∙ ap (λ b. if◌then◌else◌ {A = Option (List ℕ × List ℕ)} b None (Some (take count text, drop count text)))
    (le-ltb (length text) count there)

pub captured_long : (count : ℕ) (text : List ℕ) → CAPTURED_OCTETS < count → captured_front count text ≡ None
captured_long count text long =
    ap (λ b. if b then None else if◌then◌else◌ {A = Option (List ℕ × List ℕ)} (nat_lt (length text) count) None (Some (take count text, drop count text)))
    (lt-ltb CAPTURED_OCTETS count long)

-- ---- the frame of a record

pub front_short : (order : Order) (text : List ℕ) → length text < 16 → frame_front order text ≡ None
front_short order text short =
    ap (λ b. if b then None else captured_front (number_in order (drop 8 text)) (drop 16 text))
    (lt-ltb (length text) 16 short)

-- behind the 16 octets of its header, as their number says
pub front_headed : (order : Order) (head tail : List ℕ) → length head ≡ 16
    → frame_front order (head ++ tail) ≡ captured_front (number_in order (drop 8 head)) tail
front_headed order head tail sixteen =
    ap (λ b. if b then None else captured_front (number_in order (drop 8 (head ++ tail))) (drop 16 (head ++ tail)))
    (le-ltb (length (head ++ tail)) 16 (omega (arith, sixteen, length-append head tail)))
    ∙ ap (λ xs. captured_front (number_in order xs) (drop 16 (head ++ tail)))
    (drop-append-le 8 head tail (omega (arith, sixteen)))
    ∙ ap (λ n. captured_front n (drop 16 (head ++ tail)))
    (number-append order (drop 8 head) tail (omega (arith, sixteen, length-drop 8 head)))
    ∙ ap (λ k. captured_front (number_in order (drop 8 head)) (drop k (head ++ tail))) (sym sixteen)
    ∙ ap (captured_front (number_in order (drop 8 head))) (drop-append_seam head tail)

headed_taken : (order : Order) (head tail rest frame : List ℕ) → length head ≡ 16
    → IsCut (number_in order (drop 8 head)) tail frame rest → Begins (SpellsFrame order) (head ++ tail) frame rest
headed_taken order head tail rest frame sixteen is =
    let behind = drop 8 head in
    let count = number_in order behind in
    let long : length behind ≡ 8 = omega (arith, sixteen, length-drop 8 head) in
    record {
      one = head ++ frame;
      spelled = record {
        time = take 8 head;
        captured = take 4 behind;
        original = drop 4 behind;
        eight = omega (arith, sixteen, length-take 8 head);
        four = (omega (arith, long, length-take 4 behind), omega (arith, long, length-drop 4 behind));
        captured_is = ap length is.frame_is ∙ omega (arith, length-take count tail, is.there)
            ∙ sym (number-take order behind);
        most = omega (arith, ap length is.frame_is, length-take count tail, is.most);
        parts = ap (λ xs. xs ++ frame) (sym (take-append-drop 8 head))
            ∙ ap (λ xs. (take 8 head ++ xs) ++ frame) (sym (take-append-drop 4 behind))
            ∙ append_assoc (take 8 head) (take 4 behind ++ drop 4 behind) frame
            ∙ ap (λ xs. take 8 head ++ xs) (append_assoc (take 4 behind) (drop 4 behind) frame);
      };
      parts = ap (λ xs. head ++ xs) (sym (take-append-drop count tail))
          ∙ ap (λ xs. head ++ (xs ++ drop count tail)) (sym is.frame_is)
          ∙ ap (λ xs. head ++ (frame ++ xs)) (sym is.rest_is)
          ∙ sym (append_assoc head frame rest);
    }

guarded_taken : (order : Order) (text rest frame : List ℕ) (short : Bool) → nat_lt (length text) 16 ≡ short
    → (if short then None else captured_front (number_in order (drop 8 text)) (drop 16 text)) ≡ Some (frame, rest)
    → Begins (SpellsFrame order) text frame rest
guarded_taken order text rest frame true short_is found = absurd cc
guarded_taken order text rest frame false short_is found =
    let head = take 16 text in
    let tail = drop 16 text in
    let sixteen : length head ≡ 16 = omega (arith, ltb-false (length text) 16 short_is, length-take 16 text) in
    let count = number_in order (drop 8 head) in
    let same : head ++ tail ≡ text = take-append-drop 16 text in
    let whole : frame_front order text ≡ Some (frame, rest) =
    ap (λ b. if b then None else captured_front (number_in order (drop 8 text)) (drop 16 text)) short_is ∙ found in
    let here : captured_front count tail ≡ Some (frame, rest) =
    sym (front_headed order head tail sixteen) ∙ ap (frame_front order) same ∙ whole in
    rw (← same) (headed_taken order head tail rest frame sixteen
    (captured_cut count tail frame rest (nat_lt CAPTURED_OCTETS count) (nat_lt (length tail) count) refl refl here))

frame_again : (order : Order) (one rest frame : List ℕ) → SpellsFrame order one frame
    → frame_front order (one ++ rest) ≡ Some (frame, rest)
frame_again order one rest frame s =
    let head = s.time ++ (s.captured ++ s.original) in
    let more = s.captured ++ s.original in
    let sixteen : length head ≡ 16 =
    omega (arith, s.eight, s.four, length-append s.time more, length-append s.captured s.original) in
    let behind : drop 8 head ≡ more = ap (λ k. drop k head) (sym s.eight) ∙ drop-append_seam s.time more in
    let number : number_in order (drop 8 head) ≡ length frame =
    ap (number_in order) behind ∙ number-append order s.captured s.original (omega (arith, s.four)) ∙ sym s.captured_is in
    ap (λ xs. frame_front order (xs ++ rest)) s.parts
    ∙ ap (frame_front order) (simp append_assoc refl)
    ∙ front_headed order head (frame ++ rest) sixteen
    ∙ ap (λ n. captured_front n (frame ++ rest)) number
    ∙ captured_there (length frame) (frame ++ rest) s.most (omega (arith, length-append frame rest))
    ∙ ap (λ xs. Some (xs, drop (length frame) (frame ++ rest))) (take-append_seam frame rest)
    ∙ ap (λ xs. Some (frame, xs)) (drop-append_seam frame rest)

-- front finds what is spelled, and nothing else
pub frames_read : (order : Order) → ReadsFront (SpellsFrame order) (frame_front order)
frames_read order = record {
  taken = λ text rest frame found. guarded_taken order text rest frame (nat_lt (length text) 16) refl found;
  again = λ one rest frame s. frame_again order one rest frame s;
  some = λ one frame s. omega (arith, s.eight, ap length s.parts, length-append s.time (s.captured ++ (s.original ++ frame)));
}

-- ---- the records of a text

pub records_found : (format : Format) (iface : ℕ) (text rest frame : List ℕ)
    → frame_front format.order text ≡ Some (frame, rest)
    → records_behind (Some format) iface text
    ≡ frame_record format.link iface frame ++ records_behind (Some format) iface rest
records_found format iface text rest frame found =
    ap (flat_map (frame_record format.link iface))
    (values_in-some (frame_front format.order) (frames_read format.order) text rest frame found)

pub records_none : (format : Format) (iface : ℕ) (text : List ℕ) → frame_front format.order text ≡ None
    → records_behind (Some format) iface text ≡ []
records_none format iface text none =
    ap (flat_map (frame_record format.link iface)) (values_in-none (frame_front format.order) text none)

-- ---- the header of a file

pub order-append : (xs ys : List ℕ) → 4 ≤ length xs → order_of (xs ++ ys) ≡ order_of xs
order-append xs ys long =
    ap (λ n. if is_magic n then Some BigEndian else if is_magic (number_in LittleEndian (xs ++ ys)) then Some LittleEndian else None)
    (number-append BigEndian xs ys long)
    ∙ ap (λ n. if is_magic (number_in BigEndian xs) then Some BigEndian else if is_magic n then Some LittleEndian else None)
    (number-append LittleEndian xs ys long)

in_order-append : (order : Option Order) (xs ys : List ℕ) → 24 ≤ length xs → in_order order (xs ++ ys) ≡ in_order order xs
in_order-append None xs ys long = refl
in_order-append (Some order) xs ys long =
    ap (λ zs. with_link order (link_of (number_in order zs))) (drop-append-le 20 xs ys (omega (arith, long)))
    ∙ ap (λ n. with_link order (link_of n)) (number-append order (drop 20 xs) ys (omega (arith, long, length-drop 20 xs)))

-- what stands behind it does not count
pub format-append : (xs ys : List ℕ) → 24 ≤ length xs → format_of (xs ++ ys) ≡ format_of xs
format-append xs ys long =
    in_order-append (order_of (xs ++ ys)) xs ys long ∙ ap (λ o. in_order o xs) (order-append xs ys (omega (arith, long)))

-- the records of a file are those behind its header
pub pcap-headed : (head tail : List ℕ) (iface : ℕ) → length head ≡ 24
    → pcap_records (head ++ tail) iface ≡ records_behind (format_of head) iface tail
pcap-headed head tail iface whole =
    ap (λ b. if b then [] else records_behind (format_of (head ++ tail)) iface (drop 24 (head ++ tail)))
    (le-ltb (length (head ++ tail)) 24 (omega (arith, whole, length-append head tail)))
    ∙ ap (λ f. records_behind f iface (drop 24 (head ++ tail))) (format-append head tail (omega (arith, whole)))
    ∙ ap (λ k. records_behind (format_of head) iface (drop k (head ++ tail))) (sym whole)
    ∙ ap (records_behind (format_of head) iface) (drop-append_seam head tail)

pub drop-headed : (head tail : List ℕ) → length head ≡ 24 → drop 24 (head ++ tail) ≡ tail
drop-headed head tail whole = ap (λ k. drop k (head ++ tail)) (sym whole) ∙ drop-append_seam head tail
