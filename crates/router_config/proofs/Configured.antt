-- What a document configures that breaks no rule is within the bounds, and each session is on an interface.
use Rattle.std.proofs.Common.{◌≡◌, ◌⊎◌, inl, inr, ℕ, zero, suc, ◌<◌, ◌≤◌, ◌==◌, ◌&&◌, ◌||◌, Bool, true, false}
use Rattle.std.proofs.Common.{List, [], ◌∷◌, ◌++◌, length, Option, Some, None, is_some, IsSome, if◌then◌else◌}
use Rattle.std.proofs.Common.{refl, ap, sym, subst, ◌∙◌, arith, codes, not, cond, pos, negsuc}
use Rattle.std.specs.Prelude.{nat_le, nat_lt, option_map, option_and_then, find, slice_get}
use Rattle.std.specs.List.{AllByRecursion, cons_option, filter_map, list_any}
use Rattle.std.specs.Option.{option_map_or, option_or}
use Rattle.std.proofs.Math.Nat.{eq-or-lt_of_le}
use Rattle.std.proofs.lemmas.Bool.{eq-eqb, leb-true, eqb-true}
use Rattle.std.proofs.lemmas.List.{length-append, length-map}
use Rattle.std.proofs.lemmas.List.Folds.{find-append}
use Rattle.toml.specs.Data.{Data, string, integer, float, boolean, datetime, array, table, get}
use Rattle.urpf_base.specs.declared.kinds.Kind.{Kind}
use Rattle.urpf_base.specs.declared.kinds.Mode.{Mode}
use Rattle.urpf_base.specs.declared.kinds.Role.{Role}
use Rattle.urpf_base.specs.declared.sessions.SessionConfig.{SessionConfig}
use Rattle.router_config.specs.Configured.{AreConfigured, IsConfigured, IsSessionConfig}
use Rattle.router_config.specs.Documents.{as_number, number_at}
use Rattle.router_config.specs.Edits.{edited, edited_row}
use Rattle.router_config.specs.Kinds.{Row, kind_in}
use Rattle.router_config.specs.Rules.{Rule, as_hold, configured, each, first_broken, has_number, hold_of, iface_of}
use Rattle.router_config.specs.Rules.{
  interface_rules,
  interfaces_of,
  interfaces_rules,
  is_free,
  is_hold,
  max_of,
  mode_of,
}
use Rattle.router_config.specs.Rules.{peer_as_of, role_of, rule, rules, session_rules, sessions_at, sessions_of}
use Rattle.router_config.specs.Rules.{sessions_rules}
use Rattle.router_config.specs.Settings.{kind_at, kind_of, kind_with, row_of, rows_below, session_of}
use Rattle.router_config.specs.Settings.{session_with, settings_of}
use Rattle.router_config.specs.declared.edits.Edit.{Edit}
use Rattle.router_config.specs.declared.faults.ConfigFault.{ConfigFault}
use Rattle.router_config.specs.declared.faults.ConfigKind.TheVariants as kind
use Rattle.router_config.proofs.Ascending.{edited_row-number, numbers-edited}
use Rattle.router_config.proofs.Found.{rows_below-AllBelow, rows_below-zero}
use Rattle.router_config.proofs.Walk.{first_broken-append, or_else, top_rule}

of_some : {X : Type 0} {x y : X} → Some x ≡ Some y → x ≡ y
of_some e = cc

then_some : {X Y : Type 0} (P : Type 0) (f : X → Option Y) (o : Option X) (y : Y) → ((x : X) → f x ≡ Some y → P)
    → option_and_then f o ≡ Some y → P
then_some P f None y by is = cc
then_some P f (Some x) y by is = by x is

kept_some : (test : Bool) (m n : ℕ) → (if test then Some m else None) ≡ Some n → (test ≡ true) × (m ≡ n)
kept_some true m n is = (refl, of_some is)
kept_some false m n is = cc

-- both tests of a conjunction
and_true : (a b : Bool) → (a && b) ≡ true → (a ≡ true) × (b ≡ true)
and_true true b is = (refl, is)
and_true false b is = cc

bounded : (low high m n : ℕ) → (if nat_le low m && nat_le m high then Some m else None) ≡ Some n
    → (low ≤ n) × (n ≤ high)
bounded low high m n is =
    let kept = kept_some _ m n is in
    let both = and_true (nat_le low m) (nat_le m high) kept.0 in
    subst (λ k. (low ≤ k) × (k ≤ high)) kept.1 (leb-true low m both.0, leb-true m high both.1)

-- a whole number that was read is within its bounds
number_within : (low high : ℕ) (value : Data) (n : ℕ) → as_number low high value ≡ Some n → (low ≤ n) × (n ≤ high)
number_within low high (string s) n is = cc
number_within low high (integer (pos m)) n is = bounded low high m n is
number_within low high (integer (negsuc m)) n is = cc
number_within low high (float x) n is = cc
number_within low high (boolean b) n is = cc
number_within low high (datetime d) n is = cc
number_within low high (array items) n is = cc
number_within low high (table fields) n is = cc

at_within : (key : List ℕ) (low high : ℕ) (place : Data) (n : ℕ) → number_at key low high place ≡ Some n
    → (low ≤ n) × (n ≤ high)
at_within key low high place n is = then_some _ (as_number low high) (get key place) n
    (λ v. number_within low high v n) is

max_within : (o : Option Data) (n : ℕ) → option_map_or (as_number 1 4000000) o (Some 2000000) ≡ Some n
    → (1 ≤ n) × (n ≤ 4000000)
max_within None n is = subst (λ k. (1 ≤ k) × (k ≤ 4000000)) (of_some is) (omega arith, omega arith)
max_within (Some value) n is = number_within 1 4000000 value n is

abbrev IsHold : ℕ → Type 0
IsHold n = (n ≡ 0) ⊎ ((3 ≤ n) × (n ≤ 65535))

hold_by : (zero_is least : Bool) (n : ℕ) → (zero_is ≡ true → n ≡ 0) → (least ≡ true → 3 ≤ n) → n ≤ 65535
    → (zero_is || least) ≡ true → IsHold n
hold_by true least n is more most kept = inl (is refl)
hold_by false least n is more most kept = inr (more kept, most)

hold_kept : (m n : ℕ) → m ≤ 65535 → (if is_hold m then Some m else None) ≡ Some n → IsHold n
hold_kept m n most is =
    let kept = kept_some _ m n is in
    subst IsHold kept.1 (hold_by (m == 0) (nat_le 3 m) m (eqb-true m 0) (leb-true 3 m) most kept.0)

hold_read : (o : Option ℕ) (n : ℕ) → ((m : ℕ) → o ≡ Some m → m ≤ 65535)
    → option_and_then (λ k. if is_hold k then Some k else None) o ≡ Some n → IsHold n
hold_read None n most is = cc
hold_read (Some m) n most is = hold_kept m n (most m refl) is

hold_within : (o : Option Data) (n : ℕ) → option_map_or as_hold o (Some 90) ≡ Some n → IsHold n
hold_within None n is = subst IsHold (of_some is) (inr (omega arith, omega arith))
hold_within (Some value) n is =
    hold_read (as_number 0 65535 value) n (λ m read. (number_within 0 65535 value m read).1) is

-- what a session is made of
record Parts (iface peer hold most : Option ℕ) (session : SessionConfig) : Type 0 where
  iface_is : iface ≡ Some session.iface
  peer_is : peer ≡ Some session.peer_as
  hold_is : hold ≡ Some session.hold
  most_is : most ≡ Some session.max

parts_of : (iface peer hold most : Option ℕ) (session : SessionConfig) → session_with iface peer hold most ≡ Some
    session
    → Parts iface peer hold most session
parts_of None peer hold most session is = cc
parts_of (Some i) None hold most session is = cc
parts_of (Some i) (Some p) None most session is = cc
parts_of (Some i) (Some p) (Some h) None session is = cc
parts_of (Some i) (Some p) (Some h) (Some m) session is =
    let same = of_some is in
    record {
      iface_is = ap (λ s. Some s.iface) same;
      peer_is = ap (λ s. Some s.peer_as) same;
      hold_is = ap (λ s. Some s.hold) same;
      most_is = ap (λ s. Some s.max) same;
    }

-- no fault in two lists of rules
none_both : (first second : Option ConfigFault) → or_else first second ≡ None → (first ≡ None) × (second ≡ None)
none_both None second is = (refl, is)
none_both (Some fault) second is = cc

pub none_broken : (xs ys : List Rule) → first_broken (xs ++ ys) ≡ None
    → (first_broken xs ≡ None) × (first_broken ys ≡ None)
none_broken xs ys is = none_both _ _ (sym (first_broken-append xs ys) ∙ is)

kept_first : (kept : Bool) (fault : ConfigFault) (others : Option ConfigFault)
    → (if kept then others else Some fault) ≡ None → (kept ≡ true) × (others ≡ None)
kept_first true fault others is = (refl, is)
kept_first false fault others is = cc

some_kind : (role : Option Role) (mode : Option Mode) → IsSome role → IsSome mode → IsSome (kind_with role mode)
some_kind None mode r m = cc
some_kind (Some role) None r m = cc
some_kind (Some role) (Some mode) r m = refl

kept_rule : (r : Rule) (others : List Rule) → first_broken (r ∷ others) ≡ None
    → (r.kept ≡ true) × (first_broken others ≡ None)
kept_rule r others none = kept_first r.kept (record { kind = r.kind; index = r.index }) (first_broken others) none

all_kept : (rs : List Rule) → first_broken rs ≡ None → AllByRecursion (λ r. r.kept ≡ true) rs
all_kept [] none = tt
all_kept (r ∷ rs) none = let both = kept_rule r rs none in (both.0, all_kept rs both.1)

-- an interface that breaks no rule has a kind
kind_known : (before : List Data) (one : Data) → first_broken (interface_rules before one) ≡ None → IsSome (kind_of one)
kind_known before one none =
    let kept = all_kept (interface_rules before one) none in
    some_kind (role_of one) (mode_of one) kept.1.1.1.0 kept.1.1.1.1.0

kinds_known : (before interfaces : List Data) → first_broken (each interface_rules before interfaces) ≡ None
    → AllByRecursion (λ one. IsSome (kind_of one)) interfaces
kinds_known before [] none = tt
kinds_known before (one ∷ more) none =
    let both = none_broken (interface_rules before one) (each interface_rules (before ++ one ∷ []) more) none in
    (kind_known before one both.0, kinds_known (before ++ one ∷ []) more both.1)

found_by : (here : Bool) (n : ℕ) (one : Data) (more : List Data) → IsSome (kind_of one)
    → (list_any (has_number n) more ≡ true → IsSome (kind_at more n)) → (here || list_any (has_number n) more) ≡ true
    → IsSome (option_and_then kind_of (cond here (Some one) (find (has_number n) more)))
found_by true n one more known others any = known
found_by false n one more known others any = others any

kind_found : (n : ℕ) (interfaces : List Data) → AllByRecursion (λ one. IsSome (kind_of one)) interfaces
    → list_any (has_number n) interfaces ≡ true → IsSome (kind_at interfaces n)
kind_found n [] known any = cc
kind_found n (one ∷ more) known any = found_by (has_number n one) n one more known.0 (kind_found n more known.1) any

second_some : {X Y : Type 0} (f : X → Y) (first second : Option X) → IsSome (option_map f second)
    → IsSome (option_map f (option_or first second))
second_some f None second some = some
second_some f (Some x) second some = refl

first_some : {X Y : Type 0} (f : X → Y) (first second : Option X) → IsSome (option_map f first)
    → IsSome (option_map f (option_or first second))
first_some f None second some = cc
first_some f (Some x) second some = refl

kind_in-append : (xs ys : List Row) (n : ℕ) → kind_in (xs ++ ys) n
    ≡ option_map (λ row. row.1) (option_or (find (λ row. row.0 == n) xs) (find (λ row. row.0 == n) ys))
kind_in-append xs ys n = ap (option_map (λ row. row.1)) (find-append (λ row. row.0 == n) xs ys)

row_found : (n : ℕ) (kind : Option Kind) → IsSome kind → IsConfigured (row_of n kind) n
row_found n None some = cc
row_found n (Some kind) some = rw (eq-eqb n n refl) refl

rows_below-next : (interfaces : List Data) (m : ℕ)
    → rows_below interfaces (suc m) ≡ rows_below interfaces m ++ row_of m (kind_at interfaces m)
unfolding rows_below
rows_below-next interfaces m = refl

-- the interface of each number below the bound that has a kind is there
row_known : (interfaces : List Data) (n m : ℕ) → IsSome (kind_at interfaces n) → n < m
    → IsConfigured (rows_below interfaces m) n
row_known interfaces n zero some below = absurd (omega (arith, below))
row_known interfaces n (suc m) some below =
    let least : n ≤ m = omega (arith, below) in
    subst (λ rows. IsConfigured rows n) (sym (rows_below-next interfaces m))
    (subst IsSome (sym (kind_in-append (rows_below interfaces m) (row_of m (kind_at interfaces m)) n))
    (elim (eq-or-lt_of_le least) [
      | inl same ↦ second_some (λ row. row.1) _ _
          (subst (λ k. IsConfigured (row_of k (kind_at interfaces k)) n) same (row_found n (kind_at interfaces n) some))
      | inr less ↦ first_some (λ row. row.1) _ _ (row_known interfaces n m some less)
    ]))

row_of-length : (n : ℕ) (kind : Option Kind) → length (row_of n kind) ≤ 1
row_of-length n None = omega arith
row_of-length n (Some kind) = omega arith

rows_below-length : (interfaces : List Data) (m : ℕ) → length (rows_below interfaces m) ≤ m
rows_below-length interfaces zero = subst (λ rows. length rows ≤ 0) (sym (rows_below-zero interfaces)) (omega arith)
rows_below-length interfaces (suc m) =
    let front = rows_below-length interfaces m in
    let last = row_of-length m (kind_at interfaces m) in
    subst (λ k. k ≤ suc m)
    (sym (ap length (rows_below-next interfaces m) ∙ length-append (rows_below interfaces m) _))
    (omega (arith, front, last))

free_known : (free : Bool) (number n : ℕ) → (if free then None else Some number) ≡ Some n
    → (free ≡ false) × (number ≡ n)
free_known true number n is = cc
free_known false number n is = (refl, of_some is)

not_false : (b : Bool) → not b ≡ false → b ≡ true
not_false true is = refl
not_false false is = cc

used_known : (interfaces : List Data) (number n : ℕ) → AllByRecursion (λ one. IsSome (kind_of one)) interfaces
    → number ≤ 63 → configured interfaces number ≡ Some n → IsConfigured (rows_below interfaces 64) n
used_known interfaces number n known most is =
    let free = free_known (is_free interfaces number) number n is in
    subst (IsConfigured (rows_below interfaces 64)) free.1
    (row_known interfaces number 64
    (kind_found number interfaces known (not_false (list_any (has_number number) interfaces) free.0))
    (omega (arith, most)))

iface_read : (interfaces : List Data) (o : Option ℕ) (n : ℕ) → AllByRecursion (λ one. IsSome (kind_of one)) interfaces
    → ((m : ℕ) → o ≡ Some m → m ≤ 63) → option_and_then (configured interfaces) o ≡ Some n
    → IsConfigured (rows_below interfaces 64) n
iface_read interfaces None n known most is = cc
iface_read interfaces (Some m) n known most is = used_known interfaces m n known (most m refl) is

-- what is read of a session
session_known : (interfaces : List Data) (place : Data) (session : SessionConfig)
    → AllByRecursion (λ one. IsSome (kind_of one)) interfaces → session_of interfaces place ≡ Some session
    → IsSessionConfig (rows_below interfaces 64) session
session_known interfaces place session known is =
    let parts = parts_of (iface_of interfaces place) (peer_as_of place) (hold_of place) (max_of place) session is in
    record {
      interface = iface_read interfaces (number_at (codes "interface") 0 63 place) session.iface known
          (λ m read. (at_within (codes "interface") 0 63 place m read).1) parts.iface_is;
      peer = at_within (codes "peer_as") 1 4294967295 place session.peer_as parts.peer_is;
      hold = hold_within (get (codes "hold") place) session.hold parts.hold_is;
      most = max_within (get (codes "max_prefixes") place) session.max parts.most_is;
    }

all_more : {Y : Type 0} (P : Y → Type 0) (o : Option Y) (ys : List Y) → ((y : Y) → o ≡ Some y → P y)
    → AllByRecursion P ys → AllByRecursion P (cons_option o ys)
all_more P None ys by all = all
all_more P (Some y) ys by all = (by y refl, all)

all_given : {X Y : Type 0} (P : Y → Type 0) (gives : X → Option Y) (xs : List X)
    → ((x : X) (y : Y) → gives x ≡ Some y → P y) → AllByRecursion P (filter_map gives xs)
all_given P gives [] by = tt
all_given P gives (x ∷ xs) by = all_more P (gives x) (filter_map gives xs) (by x) (all_given P gives xs by)

fewer_more : {Y : Type 0} (o : Option Y) (ys : List Y) (n : ℕ) → length ys ≤ n → length (cons_option o ys) ≤ suc n
fewer_more None ys n less = omega (arith, less)
fewer_more (Some y) ys n less = omega (arith, less)

fewer_given : {X Y : Type 0} (gives : X → Option Y) (xs : List X) → length (filter_map gives xs) ≤ length xs
fewer_given gives [] = omega arith
fewer_given gives (x ∷ xs) = fewer_more (gives x) (filter_map gives xs) (length xs) (fewer_given gives xs)

known_kinds : (interfaces : List Data) → first_broken (interfaces_rules interfaces) ≡ None
    → AllByRecursion (λ one. IsSome (kind_of one)) interfaces
known_kinds interfaces none =
    let some = rule kind.Interfaces 0 (nat_lt 0 (length interfaces)) in
    let few = rule kind.TooManyInterfaces 0 (nat_le (length interfaces) 64) in
    let others = each interface_rules [] interfaces in
    kinds_known [] interfaces (kept_rule few others (kept_rule some (few ∷ others) none).1).1

few_sessions : (interfaces : List Data) (document : Data) → first_broken (sessions_rules interfaces document) ≡ None
    → nat_le (length (sessions_of document)) 128 ≡ true
few_sessions interfaces document none =
    let array = rule kind.Sessions 0 (is_some (sessions_at document)) in
    let few = rule kind.TooManySessions 0 (nat_le (length (sessions_of document)) 128) in
    let others = each (λ before. session_rules interfaces (length before)) [] (sessions_of document) in
    (kept_rule few others (kept_rule array (few ∷ others) none).1).0

-- a document that breaks no rule
pub settings_configured : (document : Data) → first_broken (rules document) ≡ None → AreConfigured
    (settings_of document)
settings_configured document none =
    let interfaces = interfaces_of document in
    let top = kept_rule (top_rule document) (interfaces_rules interfaces ++ sessions_rules interfaces document) none in
    let both = none_broken (interfaces_rules interfaces) (sessions_rules interfaces document) top.1 in
    let read = fewer_given (session_of interfaces) (sessions_of document) in
    let within = leb-true (length (sessions_of document)) 128 (few_sessions interfaces document both.1) in
    let known = known_kinds interfaces both.0 in
    record {
      interfaces = rows_below-length interfaces 64;
      numbers = rows_below-AllBelow interfaces 64;
      sessions = omega (arith, read, within);
      each = all_given _ (session_of interfaces) (sessions_of document)
          (λ place session is. session_known interfaces place session known is);
    }

edited_found : (here : Bool) (one row : Row) (changed rows : List Row) (n : ℕ)
    → IsSome (option_map (λ r. r.1) (cond here (Some row) (find (λ r. r.0 == n) rows)))
    → (IsConfigured rows n → IsConfigured changed n)
    → IsSome (option_map (λ r. r.1) (cond here (Some one) (find (λ r. r.0 == n) changed)))
edited_found true one row changed rows n some more = refl
edited_found false one row changed rows n some more = more some

-- an interface that is edited stays configured
pub edited_kind_at : (edit : Edit) (rows : List Row) (n : ℕ) → IsConfigured rows n → IsConfigured (edited edit rows) n
edited_kind_at edit [] n some = some
edited_kind_at edit (row ∷ rows) n some =
    rw (edited_row-number edit row)
    (edited_found (row.0 == n) (edited_row edit row) row (edited edit rows) rows n some (edited_kind_at edit rows n))

edited_session : (edit : Edit) (rows : List Row) (session : SessionConfig) → IsSessionConfig rows session
    → IsSessionConfig (edited edit rows) session
edited_session edit rows session is = record {
  interface = edited_kind_at edit rows session.iface is.interface;
  peer = is.peer;
  hold = is.hold;
  most = is.most;
}

all_by : {X : Type 0} (P Q : X → Type 0) (xs : List X) → ((x : X) → P x → Q x) → AllByRecursion P xs →
    AllByRecursion Q xs
all_by P Q [] by all = tt
all_by P Q (x ∷ xs) by all = (by x all.0, all_by P Q xs by all.1)

-- an edit leaves it so
pub edited_configured : (edit : Edit) (old : List Row) (sessions : List SessionConfig)
    → AreConfigured (record { interfaces = old; sessions = sessions })
    → AreConfigured (record { interfaces = edited edit old; sessions = sessions })
edited_configured edit old sessions is = record {
  interfaces = subst (λ k. k ≤ 64) (sym (length-map old (edited_row edit))) is.interfaces;
  numbers = subst (λ ns. AllByRecursion (λ n. n < 64) ns) (sym (numbers-edited edit old)) is.numbers;
  sessions = is.sessions;
  each = all_by _ _ sessions (edited_session edit old) is.each;
}

-- what holds of all holds of the one at a place
pub all_at : {X : Type 0} (P : X → Type 0) (xs : List X) (i : ℕ) (x : X) → AllByRecursion P xs
    → slice_get xs i ≡ Some x → P x
all_at P [] i x all is = cc
all_at P (y ∷ ys) zero x all is = subst P (of_some is) all.0
all_at P (y ∷ ys) (suc i) x all is = all_at P ys i x all.1 is
