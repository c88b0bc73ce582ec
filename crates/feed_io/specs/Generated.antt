-- The generator: AS 64499 opens a session and announces so many prefixes, eight in an UPDATE. Which ones is our own
-- choice; the messages are those of RFC 4271, section 4, between speakers of four-octet AS numbers (RFC 6793).
use Rattle.std.specs.Prelude.{ℕ, ◌+◌, ◌*◌, ◌/◌, ◌%◌, nat_lt, List, [], ◌∷◌, ◌++◌, length, map, replicate}
use Rattle.std.specs.List.{filter, flat_map, range_with_len}
use Rattle.byteorder.specs.Endian.{big_bytes}
use Rattle.feed_io.specs.Events.{Event, up, octets}
use Rattle.feed_io.specs.declared.messages.TheConstants.{OPEN, UPDATE, KEEPALIVE, CAPABILITIES, FOUR_OCTET_AS}
use Rattle.feed_io.specs.declared.messages.TheConstants.{ORIGIN, AS_PATH, NEXT_HOP, AS_SEQUENCE, SPEAKER}

-- the marker of sixteen octets of all ones, the length of the whole, the type, and the body (RFC 4271, section 4.1)
abbrev pub message : ℕ → List ℕ → List ℕ
message type body = replicate 16 255 ++ (big_bytes 2 (19 + length body) ++ (type ∷ body))

-- a KEEPALIVE has no body (RFC 4271, section 4.4)
abbrev pub keepalive : List ℕ
keepalive = message KEEPALIVE []

-- octets behind their number in one octet
abbrev pub counted : List ℕ → List ℕ
counted text = length text ∷ text

-- the one parameter lists one capability, which is the AS number (RFC 5492, section 4; RFC 6793, section 3)
abbrev pub parameters : List ℕ
parameters = CAPABILITIES ∷ counted (FOUR_OCTET_AS ∷ counted (big_bytes 4 SPEAKER))

-- version 4, My Autonomous System, a hold time of 0, the BGP Identifier 192.0.2.9, and the parameters (RFC 4271,
-- section 4.2)
abbrev pub opening : List ℕ
opening = message OPEN (4 ∷ big_bytes 2 SPEAKER ++ (big_bytes 2 0 ++ (192 ∷ 0 ∷ 2 ∷ 9 ∷ counted parameters)))

-- a well-known attribute: the flag transitive alone, the type, the length, and the value (RFC 4271, section 4.3)
abbrev pub well_known : ℕ → List ℕ → List ℕ
well_known type value = 64 ∷ type ∷ counted value

-- ORIGIN is IGP, AS_PATH is one sequence of two numbers of four octets, and NEXT_HOP is 192.0.2.1 (RFC 4271, section
-- 4.3, path attributes a to c; RFC 6793, section 3)
abbrev pub attributes : ℕ → List ℕ
attributes origin =
    well_known ORIGIN (0 ∷ [])
    ++ (well_known AS_PATH (AS_SEQUENCE ∷ 2 ∷ big_bytes 4 SPEAKER ++ big_bytes 4 origin)
    ++ well_known NEXT_HOP (192 ∷ 0 ∷ 2 ∷ 1 ∷ []))

-- prefix j has 24 bits, and these are the number 65536 + j (RFC 4271, section 4.3)
abbrev pub prefix_field : ℕ → List ℕ
prefix_field j = 24 ∷ big_bytes 3 (65536 + j)

-- octets behind their number in two octets
abbrev pub sized : List ℕ → List ℕ
sized text = big_bytes 2 (length text) ++ text

-- an UPDATE that withdraws nothing and announces these prefixes with this origin AS (RFC 4271, section 4.3)
abbrev pub announcement : ℕ → List ℕ → List ℕ
announcement origin prefixes =
    message UPDATE (sized [] ++ (sized (attributes origin) ++ flat_map prefix_field prefixes))

-- of the numbers from 8t to 8t + 7 those that are below the count
abbrev pub block_prefixes : ℕ → ℕ → List ℕ
block_prefixes count t = filter (λ j. nat_lt j count) (range_with_len (8 * t) 8)

-- the origin AS of all prefixes of block t
abbrev pub block_origin : ℕ → ℕ → ℕ
block_origin seed t = 100000 + seed * t % 50000

-- the UPDATE of block t
abbrev pub block_update : ℕ → ℕ → ℕ → List ℕ
block_update seed count t = announcement (block_origin seed t) (block_prefixes count t)

-- as many blocks as the count divided by 8, rounded up
abbrev pub block_count : ℕ → ℕ
block_count count = (count + 7) / 8

-- the UPDATEs of all blocks
abbrev pub block_updates : ℕ → ℕ → List (List ℕ)
block_updates seed count = map (block_update seed count) (range_with_len 0 (block_count count))

-- an OPEN, a KEEPALIVE, and the UPDATEs
abbrev pub generated_messages : ℕ → ℕ → List (List ℕ)
generated_messages seed count = opening ∷ keepalive ∷ block_updates seed count

-- the transport comes up, and each message comes in one event
abbrev pub generated_events : ℕ → ℕ → List Event
generated_events seed count = up ∷ map octets (generated_messages seed count)
