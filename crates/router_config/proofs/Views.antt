-- What a table and an array of a document are seen as.
use Rattle.std.proofs.Common.{◌≡◌, ◌||◌, Bool, true, false, cond, List, [], ◌∷◌, map, Some, None, String, Vec, BTreeMap}
use Rattle.std.proofs.Common.{Global, string_bytes, ℕ, refl, ap, sym, ◌∙◌}
use Rattle.std.specs.BTreeMap.{keys}
use Rattle.std.specs.List.{list_all, list_any}
use Rattle.std.proofs.lemmas.List.Folds.{list_all-map}
use Rattle.toml.proofs.Views.{view-Array, view-Table}
use Rattle.toml.specs.Data.{Data}
use Rattle.toml.specs.View.{view, items_of, members_view}
use Rattle.toml.specs.declared.value.Value.{Value, Array, Table}
use Rattle.router_config.specs.Documents.{values_of, keys_of, is_table, as_tables, has_only, is_one_of}

values_of-items_of : (values : List Data) → values_of (items_of values) ≡ values
values_of-items_of [] = refl
values_of-items_of (value ∷ more) = ap (λ rest. value ∷ rest) (values_of-items_of more)

-- what an array is as a list of tables
as_tables-Array : (array : Vec Value Global)
    → as_tables (view (Array array))
    ≡ cond (list_all (λ value. is_table (view value)) array.items) (Some (map view array.items)) None
as_tables-Array array =
    ap as_tables (view-Array array)
    ∙ ap (λ values. cond (list_all is_table values) (Some values) None) (values_of-items_of (map view array.items))
    ∙ ap (λ test. cond test (Some (map view array.items)) None) (list_all-map is_table view array.items)

pub as_tables-some : (array : Vec Value Global) (values : List Value) (test : Bool) → values ≡ array.items
    → test ≡ list_all (λ value. is_table (view value)) values → test ≡ true
    → Some (map view array.items) ≡ as_tables (view (Array array))
as_tables-some array values test same is true_is =
    sym (as_tables-Array array
    ∙ ap (λ b. cond b (Some (map view array.items)) None)
    (ap (list_all (λ value. is_table (view value))) (sym same) ∙ sym is ∙ true_is))

pub as_tables-none : (array : Vec Value Global) (values : List Value) (test : Bool) → values ≡ array.items
    → test ≡ list_all (λ value. is_table (view value)) values → test ≡ false
    → None ≡ as_tables (view (Array array))
as_tables-none array values test same is false_is =
    sym (as_tables-Array array
    ∙ ap (λ b. cond b (Some (map view array.items)) None)
    (ap (list_all (λ value. is_table (view value))) (sym same) ∙ sym is ∙ false_is))

keys_of-members_view : (entries : List (String Global × Value))
    → keys_of (members_view entries) ≡ map string_bytes (map (λ e. e.0) entries)
keys_of-members_view [] = refl
keys_of-members_view (e ∷ more) = ap (λ rest. string_bytes e.0 ∷ rest) (keys_of-members_view more)

-- a table has only known keys where each of its keys is one of them
pub has_only-Table : (known : List (List ℕ)) (table : BTreeMap (String Global) Value)
    → has_only known (view (Table table)) ≡ list_all (λ key. is_one_of known (string_bytes key)) (keys table)
has_only-Table known table =
    ap (has_only known) (view-Table table)
    ∙ ap (list_all (is_one_of known)) (keys_of-members_view table.entries)
    ∙ list_all-map (is_one_of known) string_bytes (keys table)

-- a test of the images of a list
pub list_any-map : {X Y : Type 0} (test : X → Bool) (f : Y → X) (ys : List Y)
    → list_any test (map f ys) ≡ list_any (λ y. test (f y)) ys
list_any-map test f [] = refl
list_any-map test f (y ∷ ys) = ap (λ rest. test (f y) || rest) (list_any-map test f ys)
