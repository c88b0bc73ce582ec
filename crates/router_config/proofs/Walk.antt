-- The rules of tables that are walked one after the other.
use Rattle.std.proofs.Common.{◌≡◌, ℕ, ◌+◌, ◌<◌, Bool, true, false, List, [], ◌∷◌, ◌++◌, map, take, drop, get_or, length}
use Rattle.std.proofs.Common.{Option, Some, None, is_some, if◌then◌else◌, refl, ap, sym, ◌∙◌, arith, length-take-le}
use Rattle.std.proofs.lemmas.Bool.{false≢true}
use Rattle.std.proofs.lemmas.List.{take_more, drop_more, map-append, length-map}
use Rattle.toml.specs.Data.{Data}
use Rattle.toml.specs.View.{view}
use Rattle.toml.specs.declared.value.Value.{Value}
use Rattle.router_config.specs.Documents.{has_only, keys_at}
use Rattle.router_config.specs.Rules.{Rule, rule, rules, each, first_broken, interfaces_of, interfaces_rules}
use Rattle.router_config.specs.Rules.{session_rules, sessions_rules}
use Rattle.router_config.specs.declared.documents.Place.TheVariants as place
use Rattle.router_config.specs.declared.faults.ConfigKind.TheVariants as kind
use Rattle.router_config.specs.declared.faults.ConfigFault.{ConfigFault}

-- the first fault, and where there is none the second
abbrev pub or_else : Option ConfigFault → Option ConfigFault → Option ConfigFault
or_else None second = second
or_else (Some fault) second = Some fault

one_more : (kept : Bool) (fault : ConfigFault) (both first second : Option ConfigFault) → both ≡ or_else first second
    → (if kept then both else Some fault) ≡ or_else (if kept then first else Some fault) second
one_more true fault both first second same = same
one_more false fault both first second same = refl

-- the fault of two lists of rules is that of the first, and where it is kept that of the second
pub first_broken-append : (xs ys : List Rule) → first_broken (xs ++ ys) ≡ or_else (first_broken xs) (first_broken ys)
first_broken-append [] ys = refl
first_broken-append (x ∷ xs) ys =
    one_more x.kept (record { kind = x.kind; index = x.index }) _ _ _ (first_broken-append xs ys)

-- the fault of the tables from a place on, behind those before it
abbrev pub fault_from : (List Data → Data → List Rule) → List Value → ℕ → Option ConfigFault
fault_from rules tables i = first_broken (each rules (map view (take i tables)) (map view (drop i tables)))

-- it is that of the table there, and where it has none that of the tables behind
fault_from-step : (rules : List Data → Data → List Rule) (tables : List Value) (i : ℕ) (x : Value) → i < length tables
    → x ≡ get_or tables i x
    → fault_from rules tables i
    ≡ or_else (first_broken (rules (map view (take i tables)) (view x))) (fault_from rules tables (i + 1))
fault_from-step rules tables i x within is =
    let before = map view (take i tables) in
    let behind = map view (drop (i + 1) tables) in
    let rest : map view (drop i tables) ≡ view x ∷ behind =
    ap (map view) (drop_more tables i x within) ∙ ap (λ v. view v ∷ behind) (sym is) in
    let front : map view (take (i + 1) tables) ≡ before ++ view x ∷ [] =
    ap (map view) (take_more tables i x within ∙ ap (λ v. take i tables ++ v ∷ []) (sym is))
    ∙ map-append view (take i tables) (x ∷ []) in
    ap (λ ts. first_broken (each rules before ts)) rest
    ∙ first_broken-append (rules before (view x)) (each rules (before ++ view x ∷ []) behind)
    ∙ ap (λ ts. or_else (first_broken (rules before (view x))) (first_broken (each rules ts behind))) (sym front)

some_first : (first second : Option ConfigFault) → is_some first ≡ true → first ≡ or_else first second
some_first None second some = absurd (false≢true some)
some_first (Some fault) second some = refl

none_first : (first second : Option ConfigFault) → is_some first ≡ false → or_else first second ≡ second
none_first None second none = refl
none_first (Some fault) second none = absurd (false≢true (sym none))

-- a table with a fault
pub fault_here : (rules : List Data → Data → List Rule) (tables : List Value) (i : ℕ) (x : Value)
    (fault : Option ConfigFault) → i < length tables → x ≡ get_or tables i x
    → fault ≡ first_broken (rules (map view (take i tables)) (view x)) → is_some fault ≡ true
    → fault ≡ fault_from rules tables i
fault_here rules tables i x fault within is told some =
    some_first fault (fault_from rules tables (i + 1)) some ∙ ap (λ f. or_else f (fault_from rules tables (i + 1))) told
    ∙ sym (fault_from-step rules tables i x within is)

-- a table with none
pub fault_behind : (rules : List Data → Data → List Rule) (tables : List Value) (i : ℕ) (x : Value)
    (fault : Option ConfigFault) → i < length tables → x ≡ get_or tables i x
    → fault ≡ first_broken (rules (map view (take i tables)) (view x)) → is_some fault ≡ false
    → fault_from rules tables i ≡ fault_from rules tables (i + 1)
fault_behind rules tables i x fault within is told none =
    fault_from-step rules tables i x within is ∙ ap (λ f. or_else f (fault_from rules tables (i + 1))) (sym told)
    ∙ none_first fault (fault_from rules tables (i + 1)) none

-- the rules of the sessions, each told by its place
abbrev pub by_place : List Data → List Data → Data → List Rule
by_place interfaces before session = session_rules interfaces (length before) session

-- a session is told by its place
pub told_by_place : (interfaces : List Data) (sessions : List Value) (i : ℕ) (x : Value) (fault : Option ConfigFault)
    → i < length sessions → fault ≡ first_broken (session_rules interfaces i (view x))
    → fault ≡ first_broken (by_place interfaces (map view (take i sessions)) (view x))
told_by_place interfaces sessions i x fault within told =
    let place : i
    ≡ length (map view (take i sessions)) =
    sym (length-map (take i sessions) view ∙ length-take-le i sessions (omega arith)) in
    told ∙ ap (λ n. first_broken (session_rules interfaces n (view x))) place

kept_step : (x : Rule) (rest : List Rule) → x.kept ≡ true → first_broken (x ∷ rest) ≡ first_broken rest
kept_step x rest kept =
    ap (λ b. if b then first_broken rest else Some (record { kind = x.kind; index = x.index })) kept

-- the rule on the whole and those on the interfaces
abbrev pub top_rule : Data → Rule
top_rule document = rule kind.UnknownKey 0 (has_only (keys_at place.Top) document)

-- the keys are known, and a rule on the interfaces is broken
pub fault_of_interfaces : (document : Data) (fault : Option ConfigFault) → has_only (keys_at place.Top) document ≡ true
    → fault ≡ first_broken (interfaces_rules (interfaces_of document)) → is_some fault ≡ true
    → fault ≡ first_broken (rules document)
fault_of_interfaces document fault known told some =
    let xs = interfaces_rules (interfaces_of document) in
    let ys = sessions_rules (interfaces_of document) document in
    some_first fault (first_broken ys) some ∙ ap (λ f. or_else f (first_broken ys)) told
    ∙ sym (first_broken-append xs ys) ∙ sym (kept_step (top_rule document) (xs ++ ys) known)

-- the keys are known and the rules on the interfaces are kept
pub fault_of_sessions : (document : Data) (first second : Option ConfigFault)
    → has_only (keys_at place.Top) document ≡ true → first ≡ first_broken (interfaces_rules (interfaces_of document))
    → is_some first ≡ false
    → second ≡ first_broken (sessions_rules (interfaces_of document) document) → second ≡ first_broken (rules document)
fault_of_sessions document first second known told none last =
    let xs = interfaces_rules (interfaces_of document) in
    let ys = sessions_rules (interfaces_of document) document in
    last ∙ sym (none_first first (first_broken ys) none) ∙ ap (λ f. or_else f (first_broken ys)) told
    ∙ sym (first_broken-append xs ys) ∙ sym (kept_step (top_rule document) (xs ++ ys) known)
