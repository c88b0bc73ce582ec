-- What a header without a fault says, and that octets behind it do not count.
use Rattle.std.proofs.Common.{◌≡◌, ℕ, ◌≤◌, Bool, true, false, List, ◌++◌, length, drop, Option, Some, None, ap, sym}
use Rattle.std.proofs.Common.{◌∙◌, refl, inl, inr, arith, subst, length-append}
use Rattle.std.proofs.Math.ListN.{get_or-append}
use Rattle.std.proofs.lemmas.Bool.Decides.{nat_tests}
use Rattle.std.proofs.lemmas.List.{take-append-le, drop-append-le, length-drop}
use Rattle.std.specs.List.{list_all}
use Rattle.std.specs.Prelude.{◌==◌, not, nat_le, if◌then◌else◌}
use Rattle.byteorder.specs.Endian.{big_number}
use Rattle.byteorder.specs.Numbers.{big_from-append}
use Rattle.bgp_wire.specs.Header.{has_marker, length_field, type_field, is_length, is_type, fits_type, first_fault}
use Rattle.bgp_wire.specs.Header.{header_fault}
use Rattle.bgp_wire.specs.Frames.{IsMessage, IsShort, IsFaulty}
use Rattle.bgp_wire.specs.States.{kind_of, FitsKind}
use Rattle.bgp_wire.specs.declared.kinds.MsgKind.TheVariants.{Open, Update, Notification, Keepalive}

pub has_marker-append : (octets more : List ℕ) → 19 ≤ length octets → has_marker (octets ++ more) ≡ has_marker octets
has_marker-append octets more header =
    ap (list_all (λ octet. octet == 255)) (take-append-le 16 octets more (omega arith))

pub length_field-append : (octets more : List ℕ) → 19 ≤ length octets
    → length_field (octets ++ more) ≡ length_field octets
length_field-append octets more header =
    ap (big_number 2) (drop-append-le 16 octets more (omega arith))
    ∙ big_from-append 2 (drop 16 octets) more (omega (arith, length-drop 16 octets))

pub type_field-append : (octets more : List ℕ) → 19 ≤ length octets → type_field (octets ++ more) ≡ type_field octets
type_field-append octets more header = get_or-append octets more 0 18 (omega arith)

first_fault-same : (marked other : Bool) (count length : ℕ) (code kind : ℕ) → marked ≡ other → count ≡ length
    → code ≡ kind → first_fault marked count code ≡ first_fault other length kind
first_fault-same marked other count length code kind same_marker same_length same_type =
    ap (λ m. first_fault m count code) same_marker ∙ ap (λ n. first_fault other n code) same_length
    ∙ ap (first_fault other length) same_type

-- the fault of a header stands in its 19 octets
pub header_fault-append : (octets more : List ℕ) → 19 ≤ length octets
    → header_fault (octets ++ more) ≡ header_fault octets
header_fault-append octets more header =
    first_fault-same _ _ _ _ _ _ (has_marker-append octets more header) (length_field-append octets more header)
    (type_field-append octets more header)

passed : (test : Bool) (fault : ℕ) (later : Option ℕ) → (if not test then Some fault else later) ≡ None
    → (test ≡ true) × (later ≡ None)
passed true fault later none = (refl, none)
passed false fault later none = cc

-- a header with no fault has passed each test
pub record IsGood (count code : ℕ) : Type 0 where
  pub length : is_length count ≡ true
  pub type : is_type code ≡ true
  pub fits : fits_type code count ≡ true

first_fault-None : (marked : Bool) (count code : ℕ) → first_fault marked count code ≡ None → IsGood count code
first_fault-None marked count code none =
    let a = passed marked _ _ none in
    let b = passed (is_length count) _ _ a.1 in
    let c = passed (is_type code) _ _ b.1 in
    let d = passed (fits_type code count) _ _ c.1 in
    record { length = b.0; type = c.0; fits = d.0 }

pub good_header : (octets : List ℕ) → header_fault octets ≡ None → IsGood (length_field octets) (type_field octets)
good_header octets none = first_fault-None (has_marker octets) _ _ none

is_length-true : (count : ℕ) → is_length count ≡ true → (19 ≤ count) × (count ≤ 4096)
is_length-true count is = grind (arith, nat_tests)

-- the length of a header with no fault is in its range
pub length_in_range : (octets : List ℕ) → header_fault octets ≡ None
    → (19 ≤ length_field octets) × (length_field octets ≤ 4096)
length_in_range octets none = is_length-true _ (good_header octets none).length

fits_kind-cases : (opens update notification : Bool) (count : ℕ)
    → (if opens then nat_le 29 count else if update then nat_le 23 count else if notification then nat_le 21 count
    else count == 19) ≡ true
    → FitsKind
    (if opens then Open else if update then Update else if notification then Notification else Keepalive)
    count
fits_kind-cases true update notification count fits = grind (arith, nat_tests)
fits_kind-cases false true notification count fits = grind (arith, nat_tests)
fits_kind-cases false false true count fits = grind (arith, nat_tests)
fits_kind-cases false false false count fits = grind (arith, nat_tests)

-- a message is as long as its kind asks
pub fits_kind : (octets : List ℕ) → IsMessage octets → FitsKind (kind_of (type_field octets)) (length octets)
fits_kind octets message =
    let fits : FitsKind (kind_of (type_field octets)) (length_field octets) = fits_kind-cases (type_field octets == 1)
    (type_field octets == 2) (type_field octets == 3) _ (good_header octets message.good).fits in
    subst (λ (n : ℕ). FitsKind (kind_of (type_field octets)) n) (sym message.whole) fits

-- what begins with a message has no header fault, and its length field is that of the message
pub message_in_front : (message more : List ℕ) → IsMessage message
    → (19 ≤ length (message ++ more)) × (header_fault (message ++ more) ≡ None)
    × (length_field (message ++ more) ≡ length message)
message_in_front message more is = (
  omega (arith, length-append message more, is.header),
  header_fault-append message more is.header ∙ is.good,
  length_field-append message more is.header ∙ sym is.whole,
)

-- a header with a fault waits for no octet
pub faulty_not_short : (octets : List ℕ) (subcode : ℕ) → IsFaulty octets subcode → IsShort octets → ⊥
faulty_not_short octets subcode faulty (inl few) = omega (arith, faulty.header)
faulty_not_short octets subcode faulty (inr partial) = let both : None ≡ Some subcode = sym partial.0 ∙ faulty.fault in
    cc

-- what begins with a message waits for no octet of it
pub message_not_short : (message more : List ℕ) → IsMessage message → IsShort (message ++ more) → ⊥
message_not_short message more is (inl few) = omega (arith, (message_in_front message more is).0)
message_not_short message more is (inr partial) =
    omega (arith, (message_in_front message more is).2, length-append message more)
