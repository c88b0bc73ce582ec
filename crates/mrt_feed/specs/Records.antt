-- The records of an MRT recording (RFC 6396), and those of BGP sessions among them.
use Rattle.std.specs.Prelude.{ℕ, zero, suc, ◌+◌, ◌-◌, ◌*◌, ◌≤◌, Bool, ◌==◌, nat_lt, true, false, if◌then◌else◌}
use Rattle.std.specs.Prelude.{List, [], ◌∷◌, ◌++◌, length, take, drop, Option, Some, None}
use Rattle.byteorder.specs.Endian.{big_number}
use Rattle.urpf_base.specs.Series.{values_in}
use Rattle.urpf_base.specs.declared.address.Addr.{Addr}
use Rattle.urpf_base.specs.declared.address.Addr.TheVariants.{V4, V6}
use Rattle.as_path.specs.declared.widths.Width.{Width}
use Rattle.as_path.specs.declared.widths.Width.TheVariants.{Two, Four}
use Rattle.mrt_feed.specs.declared.layout.Layout.{Layout}
use Rattle.mrt_feed.specs.declared.layout.TheConstants.{BGP4MP, BGP4MP_ET, STATE_CHANGE, MESSAGE, MESSAGE_AS4}
use Rattle.mrt_feed.specs.declared.layout.TheConstants.{STATE_CHANGE_AS4, IPV4, IPV6}
use Rattle.mrt_feed.specs.declared.record_head.Sender.{Sender}
use Rattle.mrt_feed.specs.declared.record_head.RecordHead.{RecordHead}
use Rattle.mrt_feed.specs.declared.record_head.RecordHead.TheVariants.{Malformed, Other, Message, Change}

-- ---- the common header: a timestamp of four octets, the type and the subtype of two each, and the length of the
-- message behind it in four (section 2)

-- the number in so many octets from this place on
abbrev pub number_at : ℕ → ℕ → List ℕ → ℕ
number_at place count text = big_number count (drop place text)

abbrev pub type_of : List ℕ → ℕ
type_of text = number_at 4 2 text

abbrev pub subtype_of : List ℕ → ℕ
subtype_of text = number_at 6 2 text

abbrev pub length_of : List ℕ → ℕ
length_of text = number_at 8 4 text

-- ---- which records are read: those of BGP4MP and of BGP4MP_ET with these four subtypes (sections 4.4 and 4.5)

abbrev pub subtype_layout : Bool → ℕ → Option Layout
subtype_layout extended subtype =
    if subtype == STATE_CHANGE then Some (record { extended = extended; width = Two; change = true }) else
    if subtype == MESSAGE then Some (record { extended = extended; width = Two; change = false }) else
    if subtype == MESSAGE_AS4 then Some (record { extended = extended; width = Four; change = false }) else
    if subtype == STATE_CHANGE_AS4 then Some (record { extended = extended; width = Four; change = true }) else None

abbrev pub layout_of : ℕ → ℕ → Option Layout
layout_of type subtype =
    if type == BGP4MP then subtype_layout false subtype else
    if type == BGP4MP_ET then subtype_layout true subtype else None

-- ---- their octets: peer AS and local AS, the interface index in two octets, the address family in two, peer address
-- and local address, and then two states or a message (sections 4.4.1 to 4.4.4)

-- the peer AS stands behind the header, and in BGP4MP_ET behind four octets of microseconds (section 3)
abbrev pub peer_place : Layout → ℕ
peer_place layout = if layout.extended then 16 else 12

-- an AS number has two octets, or four in the subtypes with AS4
abbrev pub asn_octets : Width → ℕ
asn_octets Two = 2
asn_octets Four = 4

abbrev pub family_place : Layout → ℕ
family_place layout = peer_place layout + 2 * asn_octets layout.width + 2

-- of a state change the two states, and of a message the header of a BGP message (RFC 4271, section 4.1)
abbrev pub last_octets : Layout → ℕ
last_octets layout = if layout.change then 4 else 19

-- two addresses of this family, and the last octets of the head; no other family has addresses
abbrev pub tail_length : Layout → ℕ → ℕ
tail_length layout family =
    if family == IPV4 then 8 + last_octets layout else
    if family == IPV6 then 32 + last_octets layout else 0

-- ---- the head of a record: its header, and of those that are read what stands before the later octets of a message

abbrev pub known_length : Layout → List ℕ → ℕ
known_length layout text =
    if nat_lt (length text) (family_place layout + 2) then family_place layout + 2
    else family_place layout + 2 + tail_length layout (number_at (family_place layout) 2 text)

abbrev pub layout_length : Option Layout → List ℕ → ℕ
layout_length None text = 12
layout_length (Some layout) text = known_length layout text

-- how many octets the head has that begins so
abbrev pub head_length : List ℕ → ℕ
head_length text = if nat_lt (length text) 12 then 12 else layout_length (layout_of (type_of text) (subtype_of text)) text

-- octets that do not go past the end of a head
abbrev pub IsHead : List ℕ → Type 0
IsHead held = length held ≤ head_length held

-- who sent a message: the peer, with its AS number as wide as the subtype has it
abbrev pub sender_of : Layout → Addr → List ℕ → Sender
sender_of layout peer head = record {
  addr = peer;
  width = layout.width;
  asn = number_at (peer_place layout) (asn_octets layout.width) head;
}

-- a message has its header at least, and the rest of it is what the length says
abbrev pub message_says : Layout → ℕ → Addr → List ℕ → RecordHead
message_says layout count peer head =
    if nat_lt (count + 12) (length head) then Malformed
    else Message (sender_of layout peer head) (count + 12 - length head)

-- a state change ends with its new state
abbrev pub change_says : ℕ → Addr → List ℕ → RecordHead
change_says count peer head =
    if count + 12 == length head then Change peer (number_at (length head - 2) 2 head) else Malformed

abbrev pub peer_says : Layout → ℕ → Addr → List ℕ → RecordHead
peer_says layout count peer head =
    if layout.change then change_says count peer head else message_says layout count peer head

-- the peer address is the first of the two
abbrev pub family_says : Layout → ℕ → ℕ → List ℕ → RecordHead
family_says layout family count head =
    if family == IPV4 then peer_says layout count (V4 (number_at (family_place layout + 2) 4 head)) head else
    if family == IPV6 then peer_says layout count (V6 (number_at (family_place layout + 2) 16 head)) head else Malformed

abbrev pub known_says : Layout → ℕ → List ℕ → RecordHead
known_says layout count head = family_says layout (number_at (family_place layout) 2 head) count head

abbrev pub layout_says : Option Layout → ℕ → List ℕ → RecordHead
layout_says None count head = Other count
layout_says (Some layout) count head = known_says layout count head

-- what a whole head says
abbrev pub head_says : List ℕ → RecordHead
head_says head = layout_says (layout_of (type_of head) (subtype_of head)) (length_of head) head

-- ---- records

-- a record: one that is not read, a message with its sender, or a state change of a peer with its new state
pub data Record : Type 0 where
  other : Record
  message : Sender → List ℕ → Record
  change : Addr → ℕ → Record

-- the first 19 octets of the message, which end the head
abbrev pub message_front : List ℕ → List ℕ
message_front head = drop (length head - 19) head

-- the record that so many more octets make whole; none where the text ends before
abbrev pub whole_front : (List ℕ → Record) → ℕ → List ℕ → Option (Record × List ℕ)
whole_front make count text =
    if nat_lt (length text) count then None else Some (make (take count text), drop count text)

-- the record of a head, with its octets from the text behind it
abbrev pub body_front : RecordHead → List ℕ → List ℕ → Option (Record × List ℕ)
body_front Malformed head text = None
body_front (Other count) head text = whole_front (λ body. other) count text
body_front (Message sender count) head text = whole_front (λ body. message sender (message_front head ++ body)) count text
body_front (Change peer state) head text = Some (change peer state, text)

-- the first record of a text, whole, and the octets behind it; none where it is off the format or empty
abbrev pub record_front : List ℕ → Option (Record × List ℕ)
record_front text =
    let n = head_length text in
    if nat_lt (length text) n then None else body_front (head_says (take n text)) (take n text) (drop n text)

-- what is left behind a record that was found, or all of the text
abbrev pub left_behind : List ℕ → (List ℕ → List ℕ) → Option (Record × List ℕ) → List ℕ
left_behind text more None = text
left_behind text more (Some found) = more found.1

abbrev pub rest_within : ℕ → List ℕ → List ℕ
rest_within zero text = text
rest_within (suc k) text = left_behind text (rest_within k) (record_front text)

-- the octets behind the last whole record: none but where the text is off the format
abbrev pub rest_in : List ℕ → List ℕ
rest_in text = rest_within (length text) text

-- a message that ends too early is there with the octets that it has
abbrev pub cut_records : RecordHead → List ℕ → List ℕ → List Record
cut_records Malformed head text = []
cut_records (Other count) head text = []
cut_records (Message sender count) head text = message sender (message_front head ++ text) ∷ []
cut_records (Change peer state) head text = []

-- the broken record that a text is, where it is a message with its header at least
abbrev pub broken_records : List ℕ → List Record
broken_records text =
    let n = head_length text in
    if nat_lt (length text) n then [] else cut_records (head_says (take n text)) (take n text) (drop n text)

-- the records of a recording up to its end, or to where it is off the format, and a message that is broken there
abbrev pub records_in : List ℕ → List Record
records_in text = values_in record_front text ++ broken_records (rest_in text)
