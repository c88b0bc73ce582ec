-- A record that is read part by part.
use Rattle.std.proofs.Common.{◌≡◌, ℕ, zero, suc, ◌-◌, ◌<◌, ◌≤◌, List, [], ◌∷◌, ◌++◌, length, take, drop}
use Rattle.std.proofs.Common.{Option, Some, None, Ok, Err, Result, IfOk, IfSome, slice_index, refl, ap, sym, subst, ◌∙◌, if◌then◌else◌, length-append, length-drop, le-ltb, arith}
use Rattle.std.proofs.lemmas.Bool.{lt-ltb}
use Rattle.std.proofs.Math.Seq.{take-append_seam, drop-append_seam}
use Rattle.std.specs.Result.{result_ok}
use Rattle.std.specs.Io.KnownBytes.{Consumes, IsAtEnd, Keeps}
use Rattle.byteorder.specs.Endian.{big_number}
use Rattle.urpf_base.specs.declared.address.Addr.{Addr}
use Rattle.ip_head.specs.Heads.{HasSource}
use Rattle.ip_head.specs.declared.fault.HeadFault.{HeadFault}
use Rattle.feed_io.specs.Packets.{PacketRecord, packet, marker, coded_front, octets_front, packet_front, record_front}
use Rattle.forward_worker.specs.Rows.{NamesSource}
use Rattle.forward_worker.specs.Rounds.{AreRead}
use Rattle.forward_worker.specs.Reading.{IsFirst, IsFrontRead, IsRecordRead}
use Rattle.forward_worker.specs.declared.octet_front.TheConstants.{FRONT_OCTETS}
use Rattle.forward_worker.specs.declared.octet_reader.FrontRead.TheVariants as read
use Rattle.forward_worker.specs.declared.record_reader.RecordRead.{RecordRead}
use Rattle.forward_worker.specs.declared.record_reader.RecordRead.TheVariants.{Packet, Marker, End, Bad, Failed}
use Rattle.forward_worker.proofs.Octets.{some_twice}

-- what is found first in a text, and the rest
abbrev pub Front : Type 0
Front = List ℕ → Option (PacketRecord × List ℕ)

-- ---- behind octets that were read, another front finds what is first

first_on : (front behind : Front) (first : PacketRecord) (octets : List ℕ) (had mid has : Option (List ℕ))
    → ((rest : List ℕ) → front (octets ++ rest) ≡ behind rest)
    → Consumes had mid octets → IsFirst behind first mid has → IsFirst front first had has
first_on front behind first octets None mid has on c f = tt
first_on front behind first octets (Some text) None has on c f = absurd c
first_on front behind first octets (Some text) (Some rest) None on c f = absurd f
first_on front behind first octets (Some text) (Some rest) (Some last) on c f = ap front c ∙ on rest ∙ f

none_on : (front behind : Front) (octets : List ℕ) (had mid : Option (List ℕ))
    → ((rest : List ℕ) → front (octets ++ rest) ≡ behind rest)
    → Consumes had mid octets → IfSome mid (λ text. behind text ≡ None) → IfSome had (λ text. front text ≡ None)
none_on front behind octets None mid on c n = tt
none_on front behind octets (Some text) None on c n = absurd c
none_on front behind octets (Some text) (Some rest) on c n = ap front c ∙ on rest ∙ n

pub read_on : (front behind : Front) (octets : List ℕ) (had mid has : Option (List ℕ)) (one : RecordRead)
    → ((rest : List ℕ) → front (octets ++ rest) ≡ behind rest)
    → Consumes had mid octets → (one ≡ End → ⊥) → IsRecordRead behind mid has one → IsRecordRead front had has one
read_on front behind octets had mid has (Packet iface source) on c more r =
    (r.0, r.1, first_on front behind (packet iface r.0) octets had mid has on c r.2)
read_on front behind octets had mid has Marker on c more r = first_on front behind marker octets had mid has on c r
read_on front behind octets had mid has End on c more r = absurd (more refl)
read_on front behind octets had mid has Bad on c more r =
    (some_twice had mid has (octets, c) r.0, none_on front behind octets had mid on c r.1)
read_on front behind octets had mid has Failed on c more r = some_twice had mid has (octets, c) r

-- ---- where there are fewer octets

none_in : (front : Front) (n : ℕ) (had : Option (List ℕ)) → ((text : List ℕ) → length text < n → front text ≡ None)
    → IfSome had (λ text. length text < n) → IfSome had (λ text. front text ≡ None)
none_in front n None none short = tt
none_in front n (Some text) none short = none text short

pub short_is_bad : (front : Front) (n : ℕ) (had has : Option (List ℕ))
    → ((text : List ℕ) → length text < n → front text ≡ None)
    → IsFrontRead n had has read.Short → IsRecordRead front had has Bad
short_is_bad front n had has none short = (short.0, none_in front n had none short.1)

pub octets_none : (iface count : ℕ) (text : List ℕ) → length text < count → octets_front iface count text ≡ None
octets_none iface count text lt =
    ap (λ b. if◌then◌else◌ {A = Option (PacketRecord × List ℕ)} b None (Some (packet iface (take count text), drop count text)))
    (lt-ltb (length text) count lt)

pub numbers_none : (text : List ℕ) → length text < 4 → packet_front text ≡ None
numbers_none text lt =
    ap (λ b. if◌then◌else◌ {A = Option (PacketRecord × List ℕ)} b None
    (octets_front (big_number 2 text) (big_number 2 (drop 2 text)) (drop 4 text)))
    (lt-ltb (length text) 4 lt)

pub nothing_is_end : (had has : Option (List ℕ)) → IsFrontRead 1 had has read.Short → Keeps had has × IsAtEnd had
nothing_is_end None has short = (tt, tt)
nothing_is_end (Some text) None short = absurd short.0.1
nothing_is_end (Some []) (Some []) short = (refl, refl)
nothing_is_end (Some []) (Some (x ∷ rest)) short =
    absurd (omega (arith, ap length short.0.1, length-append short.0.0 (x ∷ rest)))
nothing_is_end (Some (x ∷ text)) (Some rest) short = absurd (omega (arith, short.1))

-- ---- the octets of a packet

pub octets_first : (iface count : ℕ) (octets : List ℕ) (had has : Option (List ℕ)) → length octets ≡ count
    → Consumes had has octets → IsFirst (octets_front iface count) (packet iface octets) had has
octets_first iface count octets None has len c = tt
octets_first iface count octets (Some text) None len c = absurd c
octets_first iface count octets (Some text) (Some rest) len c =
    ap (octets_front iface count) c
    ∙ ap (λ n. octets_front iface n (octets ++ rest)) (sym len)
    ∙ ap (λ b. if◌then◌else◌ {A = Option (PacketRecord × List ℕ)} b None
    (Some (packet iface (take (length octets) (octets ++ rest)), drop (length octets) (octets ++ rest))))
    (le-ltb (length (octets ++ rest)) (length octets) (omega (arith, length-append octets rest)))
    ∙ ap (λ t. Some (packet iface t, drop (length octets) (octets ++ rest))) (take-append_seam octets rest)
    ∙ ap (λ t. Some (packet iface octets, t)) (drop-append_seam octets rest)

-- ---- the source that they name

pub names_source : (octets head : List ℕ) (found : Result Addr HeadFault) → head ≡ take FRONT_OCTETS octets
    → IfOk found (λ source. HasSource head source)
    → ((source : Addr) → HasSource head source → found ≡ Ok source) → NamesSource octets (result_ok found)
names_source octets head (Ok source) is has only = subst (λ h. HasSource h source) is has
names_source octets head (Err fault) is has only =
    λ source names. absurd (cc (only source (subst (λ h. HasSource h source) (sym is) names)))

-- ---- the numbers before them

pub take_whole : (n : ℕ) (xs : List ℕ) → length xs ≤ n → take n xs ≡ xs
take_whole zero [] le = refl
take_whole zero (x ∷ xs) le = absurd (omega (arith, le))
take_whole (suc n) [] le = refl
take_whole (suc n) (x ∷ xs) le = ap (λ t. x ∷ t) (take_whole n xs (omega (arith, le)))

-- a slice from its nth place on is the list without its first n
pub rest_from : (n : ℕ) (xs : List ℕ) → take (length xs - n) (drop n xs) ≡ drop n xs
rest_from n xs = take_whole (length xs - n) (drop n xs) (omega (arith, length-drop n xs))

pub one_then : (octets head : List ℕ) (code : ℕ) → length octets ≡ 1 → head ≡ take FRONT_OCTETS octets
    → code ≡ slice_index head 0 → (rest : List ℕ) → record_front (octets ++ rest) ≡ coded_front code rest
one_then [] head code len is first rest = absurd (omega (arith, len))
one_then (x ∷ []) head code len is first rest =
    ap (λ n. coded_front n rest) (sym (first ∙ ap (λ h. slice_index h 0) is))
one_then (x ∷ y ∷ octets) head code len is first rest = absurd (omega (arith, len))

numbers_four : (a b c d iface count : ℕ) (rest : List ℕ) → iface ≡ big_number 2 (a ∷ b ∷ []) → count ≡ big_number 2 (c ∷ d ∷ [])
    → packet_front (a ∷ b ∷ c ∷ d ∷ rest) ≡ octets_front iface count rest
numbers_four a b c d iface count rest is counts =
    let text = a ∷ b ∷ c ∷ d ∷ rest in
    ap (λ s. if◌then◌else◌ {A = Option (PacketRecord × List ℕ)} s None
    (octets_front (big_number 2 text) (big_number 2 (drop 2 text)) (drop 4 text)))
    (le-ltb (length text) 4 (omega arith))
    ∙ ap (λ i. octets_front i (big_number 2 (c ∷ d ∷ [])) rest) (sym is)
    ∙ ap (λ n. octets_front iface n rest) (sym counts)

pub numbers_then : (octets : List ℕ) (iface count : ℕ) → length octets ≡ 4 → iface ≡ big_number 2 octets
    → count ≡ big_number 2 (drop 2 octets) → (rest : List ℕ) → packet_front (octets ++ rest) ≡ octets_front iface count rest
numbers_then [] iface count len is counts rest = absurd (omega (arith, len))
numbers_then (a ∷ []) iface count len is counts rest = absurd (omega (arith, len))
numbers_then (a ∷ b ∷ []) iface count len is counts rest = absurd (omega (arith, len))
numbers_then (a ∷ b ∷ c ∷ []) iface count len is counts rest = absurd (omega (arith, len))
numbers_then (a ∷ b ∷ c ∷ d ∷ []) iface count len is counts rest = numbers_four a b c d iface count rest is counts
numbers_then (a ∷ b ∷ c ∷ d ∷ x ∷ octets) iface count len is counts rest = absurd (omega (arith, len))

-- ---- a record that is first was read

pub first_read : (first : PacketRecord) (had has : Option (List ℕ)) → IsFirst record_front first had has
    → AreRead (first ∷ []) had has
first_read first None has f = tt
first_read first (Some text) None f = absurd f
first_read first (Some text) (Some rest) f = (rest, f, refl)
