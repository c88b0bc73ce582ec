-- Which record a text begins with, and what is left behind it.
use Rattle.std.proofs.Common.{◌≡◌, ℕ, zero, suc, ◌<◌, ◌≤◌, Bool, true, false, ◌==◌, nat_lt, if◌then◌else◌, List, []}
use Rattle.std.proofs.Common.{◌∷◌, ◌++◌, length, take, drop, Option, Some, None, refl, ap, sym, ◌∙◌, arith, le-ltb, lt-ltb}
use Rattle.std.proofs.Common.{ltb-false, ltb-true, ne_eqb, length-append, length-drop}
use Rattle.std.proofs.Math.Seq.{take-append_seam, drop-append_seam}
use Rattle.std.proofs.lemmas.List.{take_all}
use Rattle.urpf_base.proofs.Series.{Shortens, values_in-found, values_in-none}
use Rattle.urpf_base.specs.declared.address.Addr.{Addr}
use Rattle.urpf_base.specs.Series.{values_in}
use Rattle.feed_io.proofs.Fronts.{behind}
use Rattle.mrt_feed.specs.Places.{past, is_whole}
use Rattle.mrt_feed.specs.Records.{Record, other, message, change, head_length, head_says, message_front}
use Rattle.mrt_feed.specs.Records.{body_front, record_front, left_behind, rest_within, rest_in, cut_records, broken_records}
use Rattle.mrt_feed.specs.Records.{records_in}
use Rattle.mrt_feed.specs.declared.record_head.Sender.{Sender}
use Rattle.mrt_feed.specs.declared.record_head.RecordHead.{RecordHead}
use Rattle.mrt_feed.specs.declared.record_head.RecordHead.TheVariants.{Malformed, Other, Message, Change}
use Rattle.mrt_feed.proofs.Heads.{head_length-low, head_length-append}

-- ---- what is left behind a record is shorter

-- a record and what is behind it; none where the text is too short
abbrev front_by : Bool → Record → List ℕ → Option (Record × List ℕ)
front_by short r rest = if◌then◌else◌ {A = Option (Record × List ℕ)} short None (Some (r, rest))

whole_shortens : (make : List ℕ → Record) (count : ℕ) (text rest : List ℕ) (r : Record) (short : Bool)
    → front_by short (make (take count text)) (drop count text) ≡ Some (r, rest)
    → length rest ≤ length text
whole_shortens make count text rest r true found = absurd cc
whole_shortens make count text rest r false found =
    omega (arith, ap length (behind (make (take count text)) r (drop count text) rest found), length-drop count text)

body_shortens : (says : RecordHead) (head text rest : List ℕ) (r : Record)
    → body_front says head text ≡ Some (r, rest) → length rest ≤ length text
body_shortens Malformed head text rest r found = absurd cc
body_shortens (Other count) head text rest r found =
    whole_shortens (λ body. other) count text rest r (nat_lt (length text) count) found
body_shortens (Message sender count) head text rest r found =
    whole_shortens (λ body. message sender (message_front head ++ body)) count text rest r (nat_lt (length text) count)
    found
body_shortens (Change peer state) head text rest r found =
    omega (arith, ap length (behind (change peer state) r text rest found))

guarded_shortens : (text rest : List ℕ) (r : Record) (n : ℕ) (short : Bool) → 12 ≤ n → nat_lt (length text) n ≡ short
    → (if short then None else body_front (head_says (take n text)) (take n text) (drop n text)) ≡ Some (r, rest)
    → length rest < length text
guarded_shortens text rest r n true some short_is found = absurd cc
guarded_shortens text rest r n false some short_is found =
    omega (
      arith,
      body_shortens (head_says (take n text)) (take n text) (drop n text) rest r found,
      ltb-false (length text) n short_is,
      length-drop n text,
      some,
    )

pub front_shortens : Shortens record_front
front_shortens text rest r found =
    guarded_shortens text rest r (head_length text) (nat_lt (length text) (head_length text)) (head_length-low text) refl
    found

-- ---- the rest behind all records

left_behind-never : (text : List ℕ) (more : List ℕ → List ℕ) (o : Option (Record × List ℕ))
    → ((found : Record × List ℕ) → o ≡ Some found → ⊥) → left_behind text more o ≡ text
left_behind-never text more None never = refl
left_behind-never text more (Some found) never = absurd (never found refl)

left_behind-same : (text : List ℕ) (f g : List ℕ → List ℕ) (o : Option (Record × List ℕ))
    → ((found : Record × List ℕ) → o ≡ Some found → f found.1 ≡ g found.1)
    → left_behind text f o ≡ left_behind text g o
left_behind-same text f g None same = refl
left_behind-same text f g (Some found) same = same found refl

rest_within-enough : (k m : ℕ) (text : List ℕ) → length text ≤ k → length text ≤ m
    → rest_within k text ≡ rest_within m text
rest_within-enough zero zero text le_k le_m = refl
rest_within-enough zero (suc m) text le_k le_m =
    sym (left_behind-never text _ (record_front text)
    (λ found is. absurd (omega (arith, front_shortens text found.1 found.0 is))))
rest_within-enough (suc k) zero text le_k le_m =
    left_behind-never text _ (record_front text)
    (λ found is. absurd (omega (arith, front_shortens text found.1 found.0 is)))
rest_within-enough (suc k) (suc m) text le_k le_m =
    left_behind-same text _ _ (record_front text) (λ found is.
    let less = front_shortens text found.1 found.0 is in
    rest_within-enough k m found.1 (omega (arith, less)) (omega (arith, less)))

rest_within-none : (k : ℕ) (text : List ℕ) → record_front text ≡ None → rest_within k text ≡ text
rest_within-none zero text none = refl
rest_within-none (suc k) text none = ap (left_behind text (rest_within k)) none

pub rest_in-none : (text : List ℕ) → record_front text ≡ None → rest_in text ≡ text
rest_in-none text none = rest_within-none (length text) text none

pub rest_in-found : (text rest : List ℕ) (r : Record) → record_front text ≡ Some (r, rest) → rest_in text ≡ rest_in rest
rest_in-found text rest r found =
    rest_within-enough (length text) (suc (length text)) text (omega arith) (omega arith)
    ∙ ap (left_behind text (rest_within (length text))) found
    ∙ rest_within-enough (length text) (length rest) rest (omega (arith, front_shortens text rest r found)) (omega arith)

-- ---- the records

records_in-found : (text rest : List ℕ) (r : Record) → record_front text ≡ Some (r, rest)
    → records_in text ≡ r ∷ records_in rest
records_in-found text rest r found =
    ap (λ rs. rs ++ broken_records (rest_in text)) (values_in-found record_front front_shortens text rest r found)
    ∙ ap (λ t. r ∷ (values_in record_front rest ++ broken_records t)) (rest_in-found text rest r found)

records_in-none : (text : List ℕ) → record_front text ≡ None → records_in text ≡ broken_records text
records_in-none text none =
    ap (λ rs. rs ++ broken_records (rest_in text)) (values_in-none record_front text none)
    ∙ ap broken_records (rest_in-none text none)

-- ---- a head that is not whole

short_front : (text : List ℕ) → length text < head_length text → record_front text ≡ None
short_front text short =
    let n = head_length text in
    ap (λ c. if c then None else body_front (head_says (take n text)) (take n text) (drop n text))
    (lt-ltb (length text) n short)

pub short_records : (text : List ℕ) → length text < head_length text → records_in text ≡ []
short_records text short =
    let n = head_length text in
    records_in-none text (short_front text short)
    ∙ ap (λ c. if c then [] else cut_records (head_says (take n text)) (take n text) (drop n text))
    (lt-ltb (length text) n short)

pub short_rest : (text : List ℕ) → length text < head_length text → rest_in text ≡ text
short_rest text short = rest_in-none text (short_front text short)

-- ---- a whole head, whatever stands behind it

by_head : {X : Type 0} (none : X) (value : RecordHead → List ℕ → List ℕ → X) (head text : List ℕ)
    → length head ≡ head_length head
    → (if nat_lt (length (head ++ text)) (head_length (head ++ text)) then none
    else value (head_says (take (head_length (head ++ text)) (head ++ text)))
    (take (head_length (head ++ text)) (head ++ text)) (drop (head_length (head ++ text)) (head ++ text)))
    ≡ value (head_says head) head text
by_head none value head text whole =
    let all = head ++ text in
    let n = length head in
    ap (λ k. if nat_lt (length all) k then none else value (head_says (take k all)) (take k all) (drop k all))
    (head_length-append head text (omega (arith, whole)) ∙ sym whole)
    ∙ ap (λ c. if c then none else value (head_says (take n all)) (take n all) (drop n all))
    (le-ltb (length all) n (omega (arith, length-append head text)))
    ∙ ap (λ h. value (head_says h) h (drop n all)) (take-append_seam head text)
    ∙ ap (value (head_says head) head) (drop-append_seam head text)

front_whole : (head text : List ℕ) → length head ≡ head_length head
    → record_front (head ++ text) ≡ body_front (head_says head) head text
front_whole head text whole = by_head None body_front head text whole

broken_whole : (head text : List ℕ) → length head ≡ head_length head
    → broken_records (head ++ text) ≡ cut_records (head_says head) head text
broken_whole head text whole = by_head [] cut_records head text whole

-- what the head says is given, and with it what the records and the rest are
record_found : (head text rest : List ℕ) (r : Record) (says : RecordHead) → length head ≡ head_length head
    → head_says head ≡ says → body_front says head text ≡ Some (r, rest)
    → (records_in (head ++ text) ≡ r ∷ records_in rest) × (is_whole (head ++ text) ≡ is_whole rest)
record_found head text rest r says whole is found =
    let front = front_whole head text whole ∙ ap (λ s. body_front s head text) is ∙ found in (
      records_in-found (head ++ text) rest r front,
      ap (λ t. length t == 0) (rest_in-found (head ++ text) rest r front),
    )

record_broken : (head text : List ℕ) (says : RecordHead) → length head ≡ head_length head → head_says head ≡ says
    → body_front says head text ≡ None
    → (records_in (head ++ text) ≡ cut_records says head text) × (is_whole (head ++ text) ≡ false)
record_broken head text says whole is none =
    let front = front_whole head text whole ∙ ap (λ s. body_front s head text) is ∙ none in
    let some : length (head ++ text) ≡ 0 → ⊥ =
    λ zero_is. omega (arith, zero_is, whole, head_length-low head, length-append head text) in (
      records_in-none (head ++ text) front ∙ broken_whole head text whole ∙ ap (λ s. cut_records s head text) is,
      ap (λ t. length t == 0) (rest_in-none (head ++ text) front) ∙ ne_eqb (length (head ++ text)) 0 some,
    )

pub malformed_record : (head text : List ℕ) → length head ≡ head_length head → head_says head ≡ Malformed
    → (records_in (head ++ text) ≡ []) × (is_whole (head ++ text) ≡ false)
malformed_record head text whole is = record_broken head text Malformed whole is refl

pub change_record : (head text : List ℕ) (peer : Addr) (state : ℕ) → length head ≡ head_length head
    → head_says head ≡ Change peer state
    → (records_in (head ++ text) ≡ change peer state ∷ records_in text) × (is_whole (head ++ text) ≡ is_whole text)
change_record head text peer state whole is =
    record_found head text text (change peer state) (Change peer state) whole is refl

other_record_by : (head text : List ℕ) (n : ℕ) (short : Bool) → length head ≡ head_length head → head_says head ≡ Other n
    → nat_lt (length text) n ≡ short
    → (records_in (head ++ text) ≡ (if short then [] else other ∷ records_in (drop n text)))
    × (is_whole (head ++ text) ≡ (if short then false else is_whole (drop n text)))
other_record_by head text n true whole is short_is =
    record_broken head text (Other n) whole is (ap (λ c. front_by c other (drop n text)) short_is)
other_record_by head text n false whole is short_is =
    record_found head text (drop n text) other (Other n) whole is
    (ap (λ c. front_by c other (drop n text)) short_is)

pub other_record : (head text : List ℕ) (n : ℕ) → length head ≡ head_length head → head_says head ≡ Other n
    → (records_in (head ++ text) ≡ past [] n (λ t. other ∷ records_in t) text)
    × (is_whole (head ++ text) ≡ past false n is_whole text)
other_record head text n whole is = other_record_by head text n (nat_lt (length text) n) whole is refl

message_record_by : (head text : List ℕ) (sender : Sender) (n : ℕ) (short : Bool) → length head ≡ head_length head
    → head_says head ≡ Message sender n → nat_lt (length text) n ≡ short
    → (records_in (head ++ text) ≡ message sender (message_front head ++ take n text)
    ∷ (if short then [] else records_in (drop n text)))
    × (is_whole (head ++ text) ≡ (if short then false else is_whole (drop n text)))
message_record_by head text sender n true whole is short_is =
    let r = message sender (message_front head ++ take n text) in
    let broken = record_broken head text (Message sender n) whole is
    (ap (λ c. front_by c r (drop n text)) short_is) in
    let all : take n text ≡ text = take_all n text (omega (arith, ltb-true (length text) n short_is)) in (
      broken.0 ∙ ap (λ t. message sender (message_front head ++ t) ∷ []) (sym all),
      broken.1,
    )
message_record_by head text sender n false whole is short_is =
    let r = message sender (message_front head ++ take n text) in
    record_found head text (drop n text) r (Message sender n) whole is
    (ap (λ c. front_by c r (drop n text)) short_is)

pub message_record : (head text : List ℕ) (sender : Sender) (n : ℕ) → length head ≡ head_length head
    → head_says head ≡ Message sender n
    → (records_in (head ++ text) ≡ message sender (message_front head ++ take n text) ∷ past [] n records_in text)
    × (is_whole (head ++ text) ≡ past false n is_whole text)
message_record head text sender n whole is = message_record_by head text sender n (nat_lt (length text) n) whole is refl
