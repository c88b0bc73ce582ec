-- The interfaces and sessions that a document configures, one after the other.
use Rattle.std.proofs.Common.{◌≡◌, ℕ, zero, suc, ◌+◌, ◌<◌, List, [], ◌∷◌, ◌++◌, map, take, get_or, length, Option, Some}
use Rattle.std.proofs.Common.{None, refl, ap, sym, subst, ◌∙◌, add-one, append-nil}
use Rattle.std.specs.List.{cons_option, filter_map}
use Rattle.std.proofs.lemmas.List.{take_more, map-append}
use Rattle.std.proofs.lemmas.List.Elements.{filter_map-append}
use Rattle.toml.specs.Data.{Data}
use Rattle.toml.specs.View.{view}
use Rattle.toml.specs.declared.value.Value.{Value}
use Rattle.urpf_base.specs.declared.kinds.Kind.{Kind}
use Rattle.router_config.specs.Kinds.{Row, AllBelow}
use Rattle.router_config.specs.Settings.{kind_at, row_of, rows_below}
use Rattle.router_config.proofs.Ascending.{AllBelow-further, AllBelow-push}

-- no number is below 0
pub rows_below-zero : (interfaces : List Data) → rows_below interfaces 0 ≡ []
unfolding rows_below
rows_below-zero interfaces = refl

-- below the next number there is also the interface with this one
pub rows_below-more : (interfaces : List Data) (n : ℕ)
    → rows_below interfaces (n + 1) ≡ rows_below interfaces n ++ row_of n (kind_at interfaces n)
unfolding rows_below
rows_below-more interfaces n = ap (rows_below interfaces) (add-one n)

AllBelow-row : (rows : List Row) (n : ℕ) (kind : Option Kind) → AllBelow rows n
    → AllBelow (rows ++ row_of n kind) (n + 1)
AllBelow-row rows n None below =
    subst (λ rs. AllBelow rs (n + 1)) (sym (append-nil rows)) (AllBelow-further rows n below)
AllBelow-row rows n (Some kind) below = AllBelow-push rows (n, kind) below

rows_below-suc : (interfaces : List Data) (n : ℕ)
    → AllBelow (rows_below interfaces n ++ row_of n (kind_at interfaces n)) (n + 1)
    → AllBelow (rows_below interfaces (suc n)) (suc n)
unfolding rows_below
rows_below-suc interfaces n below = subst (λ k. AllBelow (rows_below interfaces (suc n)) k) (add-one n) below

-- they are below that number
pub rows_below-AllBelow : (interfaces : List Data) (n : ℕ) → AllBelow (rows_below interfaces n) n
rows_below-AllBelow interfaces zero = subst (λ rows. AllBelow rows 0) (sym (rows_below-zero interfaces)) tt
rows_below-AllBelow interfaces (suc n) =
    rows_below-suc interfaces n
    (AllBelow-row (rows_below interfaces n) n (kind_at interfaces n) (rows_below-AllBelow interfaces n))

-- one more table, and what it gives
pub filter_map-more : {Y : Type 0} (gives : Data → Option Y) (tables : List Value) (i : ℕ) (x : Value)
    → i < length tables → x ≡ get_or tables i x
    → filter_map gives (map view (take (i + 1) tables)) ≡ filter_map gives (map view (take i tables))
    ++ cons_option (gives (view x)) []
filter_map-more gives tables i x within is =
    ap (λ ts. filter_map gives (map view ts)) (take_more tables i x within ∙ ap (λ v. take i tables ++ v ∷ []) (sym is))
    ∙ ap (filter_map gives) (map-append view (take i tables) (x ∷ []))
    ∙ filter_map-append gives (map view (take i tables)) (view x ∷ [])

pub filter_map-none : {Y : Type 0} (gives : Data → Option Y) (tables : List Value) (i : ℕ) (x : Value)
    → i < length tables → x ≡ get_or tables i x → None ≡ gives (view x)
    → filter_map gives (map view (take i tables)) ≡ filter_map gives (map view (take (i + 1) tables))
filter_map-none gives tables i x within is none =
    sym (filter_map-more gives tables i x within is
    ∙ ap (λ given. filter_map gives (map view (take i tables)) ++ cons_option given []) (sym none) ∙ append-nil _)

pub filter_map-some : {Y : Type 0} (gives : Data → Option Y) (tables : List Value) (i : ℕ) (x : Value) (y : Y)
    → i < length tables → x ≡ get_or tables i x → Some y ≡ gives (view x)
    → filter_map gives (map view (take i tables)) ++ y ∷ [] ≡ filter_map gives (map view (take (i + 1) tables))
filter_map-some gives tables i x y within is some =
    sym (filter_map-more gives tables i x within is
    ∙ ap (λ given. filter_map gives (map view (take i tables)) ++ cons_option given []) (sym some))
