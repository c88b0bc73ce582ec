-- Each text has one table of each kind.
use Rattle.std.proofs.Common.{◌≡◌, inl, inr, ℕ, zero, suc, ◌<◌, List, [], ◌∷◌, ◌++◌, length, Option, Some, None}
use Rattle.std.proofs.Common.{refl, sym, ap, subst, ◌∙◌, arith, append-nil}
use Rattle.std.specs.Prelude.{codes}
use Rattle.std.specs.List.{AllZip}
use Rattle.csv.specs.Machine.{Read, next_record}
use Rattle.csv.specs.Reading.{AreRecords, Reached, default_config, strip_bom}
use Rattle.csv.specs.Records.{field_at}
use Rattle.csv.specs.declared.parser.Config.{Config}
use Rattle.csv.specs.declared.parser.State.{State}
use Rattle.csv.specs.declared.parser.State.TheVariants as st
use Rattle.urpf_base.specs.Address.{Block, width_of}
use Rattle.ip_text.specs.Prefixes.{SpellsAsn, SpellsPrefix}
use Rattle.ip_text.proofs.Known.{Known, known_same}
use Rattle.ip_text.proofs.PrefixTexts.{known_asn, known_prefix, one_asn, one_prefix}
use Rattle.roa_irr.specs.declared.pairs.Outcome.{Outcome}
use Rattle.roa_irr.specs.declared.pairs.Outcome.TheVariants as outcome
use Rattle.roa_irr.specs.Irr.{AttributesComeTo, ClassComesTo, GivesRoute, IsIrrTable, ObjectComesTo, RouteComesTo}
use Rattle.roa_irr.specs.Irr.{SpellsOfWidth, class_width}
use Rattle.roa_irr.specs.Lines.{objects_of}
use Rattle.roa_irr.specs.Objects.{Attribute, attributes_of, first_named, value_of}
use Rattle.roa_irr.specs.Tables.{Table, table_of}
use Rattle.roa_irr.specs.Vrps.{ComesTo, GivesPair, IsVrpTable}
use Rattle.roa_irr.proofs.Outcomes.{Rows}
use Rattle.roa_irr.proofs.Reading.{none_more}
use Rattle.roa_irr.proofs.Records.{at_end, begins, shorter}

-- items, of which each comes to one outcome
module _ {A : Type 0} (R : A → Outcome → Type 0) where
  all_some : ((item : A) → (one : Outcome) × R item one) → (items : List A)
      → (outcomes : List Outcome) × AllZip R items outcomes
  all_some each [] = ([], tt)
  all_some each (item ∷ items) =
      let one = each item in
      let more = all_some each items in
      (one.0 ∷ more.0, (one.1, more.1))

  all_one : ((item : A) (a b : Outcome) → R item a → R item b → a ≡ b) → (items : List A) (os ps : List Outcome)
      → AllZip R items os → AllZip R items ps → os ≡ ps
  all_one each [] [] [] is is_too = refl
  all_one each [] [] (p ∷ ps) is is_too = absurd is_too
  all_one each [] (o ∷ os) ps is is_too = absurd is
  all_one each (item ∷ items) [] ps is is_too = absurd is
  all_one each (item ∷ items) (o ∷ os) [] is is_too = absurd is_too
  all_one each (item ∷ items) (o ∷ os) (p ∷ ps) is is_too =
      ap (λ x. x ∷ os) (each item o p is.0 is_too.0) ∙ ap (λ xs. p ∷ xs) (all_one each items os ps is.1 is_too.1)

same_holder : (o : Option Attribute) (a b : Attribute) → o ≡ Some a → o ≡ Some b → b ≡ a
same_holder o a b is is_too = cc

-- an object gives a pair or none
module _ (width : ℕ) (first : Attribute) (attributes : List Attribute) where
  abbrev Gives : Type 0
  Gives = (prefix : Block) × (origin : ℕ) × GivesRoute width first attributes prefix origin

  asn_of : (p : Block) (holder : Attribute) → SpellsOfWidth width (value_of first) p
      → first_named (codes "origin") attributes ≡ Some holder → Known ((n : ℕ) × SpellsAsn (value_of holder) n)
      → Known Gives
  asn_of p holder block at (inl (n, asn)) =
      inl (p, n, record { block = block; holder = holder; at_holder = at; asn = asn })
  asn_of p holder block at (inr never) =
      inr (λ h. never (
        h.1,
        subst (λ a. SpellsAsn (value_of a) h.1)
            (same_holder (first_named (codes "origin") attributes) holder h.2.holder at h.2.at_holder) h.2.asn,
      ))

  asn_by : (p : Block) (o : Option Attribute) → SpellsOfWidth width (value_of first) p
      → first_named (codes "origin") attributes ≡ o → Known Gives
  asn_by p None block at = inr (λ h. let is = h.2.at_holder in cc)
  asn_by p (Some holder) block at = asn_of p holder block at (known_asn (value_of holder))

  width_by : (p : Block) → SpellsPrefix (value_of first) p → Known (width_of p.addr ≡ width) → Known Gives
  width_by p spelled (inl same) = asn_by p (first_named (codes "origin") attributes) (spelled, same) refl
  width_by p spelled (inr off) =
      inr (λ h. off (ap (λ b. width_of b.addr) (one_prefix (value_of first) p h.0 spelled h.2.block.0) ∙ h.2.block.1))

  prefix_by : Known ((p : Block) × SpellsPrefix (value_of first) p) → Known Gives
  prefix_by (inl (p, spelled)) = width_by p spelled (known_same (width_of p.addr) width)
  prefix_by (inr never) = inr (λ h. never (h.0, h.2.block.0))

  route_by : Known Gives → (one : Outcome) × RouteComesTo width first attributes one
  route_by (inl (p, n, gives)) = (outcome.Pair p n, gives)
  route_by (inr never) = (outcome.Skipped, λ p n gives. never (p, n, gives))

  route_some : (one : Outcome) × RouteComesTo width first attributes one
  route_some = route_by (prefix_by (known_prefix (value_of first)))

  route_one : (a b : Outcome) → RouteComesTo width first attributes a → RouteComesTo width first attributes b → a ≡ b
  route_one (outcome.Pair p n) (outcome.Pair q m) is is_too =
      let holder = same_holder (first_named (codes "origin") attributes) is_too.holder is.holder is_too.at_holder
      is.at_holder in
      ap (λ b. outcome.Pair b n) (one_prefix (value_of first) p q is.block.0 is_too.block.0)
      ∙ ap (λ k. outcome.Pair q k)
      (one_asn (value_of is_too.holder) n m (subst (λ a. SpellsAsn (value_of a) n) holder is.asn) is_too.asn)
  route_one (outcome.Pair p n) outcome.Skipped is is_too = absurd (is_too p n is)
  route_one (outcome.Pair p n) outcome.Ignored is is_too = absurd is_too
  route_one outcome.Skipped (outcome.Pair q m) is is_too = absurd (is q m is_too)
  route_one outcome.Skipped outcome.Skipped is is_too = refl
  route_one outcome.Skipped outcome.Ignored is is_too = absurd is_too
  route_one outcome.Ignored b is is_too = absurd is

class_some : (class : Option ℕ) (first : Attribute) (attributes : List Attribute)
    → (one : Outcome) × ClassComesTo class first attributes one
class_some None first attributes = (outcome.Ignored, refl)
class_some (Some width) first attributes = route_some width first attributes

class_one : (class : Option ℕ) (first : Attribute) (attributes : List Attribute) (a b : Outcome)
    → ClassComesTo class first attributes a → ClassComesTo class first attributes b → a ≡ b
class_one None first attributes a b is is_too = is ∙ sym is_too
class_one (Some width) first attributes a b is is_too = route_one width first attributes a b is is_too

attributes_some : (attributes : List Attribute) → (one : Outcome) × AttributesComeTo attributes one
attributes_some [] = (outcome.Ignored, refl)
attributes_some (first ∷ more) = class_some (class_width first.name) first (first ∷ more)

attributes_one : (attributes : List Attribute) (a b : Outcome) → AttributesComeTo attributes a
    → AttributesComeTo attributes b → a ≡ b
attributes_one [] a b is is_too = is ∙ sym is_too
attributes_one (first ∷ more) a b is is_too = class_one (class_width first.name) first (first ∷ more) a b is is_too

pub irr_some : (text : List ℕ) → (table : Table) × IsIrrTable text table
irr_some text =
    let all = all_some ObjectComesTo (λ lines. attributes_some (attributes_of lines)) (objects_of text) in
    (table_of all.0, record { outcomes = all.0; each = all.1; value = refl })

pub irr_one : (text : List ℕ) (table other : Table) → IsIrrTable text table → IsIrrTable text other → table ≡ other
irr_one text table other is is_too =
    is.value
    ∙ ap table_of (all_one ObjectComesTo (λ lines. attributes_one (attributes_of lines)) (objects_of text) is.outcomes
    is_too.outcomes is.each is_too.each)
    ∙ sym is_too.value

-- a record gives a pair or none
abbrev Pairs : List (List ℕ) → Type 0
Pairs fields = (prefix : Block) × (origin : ℕ) × GivesPair fields prefix origin

same_field : (o : Option (List ℕ)) (a b : List ℕ) → o ≡ Some a → o ≡ Some b → b ≡ a
same_field o a b is is_too = cc

pair_by : (first second : List ℕ) (more : List (List ℕ)) → Known ((n : ℕ) × SpellsAsn first n)
    → Known ((p : Block) × SpellsPrefix second p) → Known (Pairs (first ∷ second ∷ more))
unfolding field_at
pair_by first second more (inl (n, asn)) (inl (p, block)) =
    inl (p, n, record { first = first; second = second; at_first = refl; at_second = refl; asn = asn; block = block })
pair_by first second more (inl (n, asn)) (inr never) =
    inr (λ h. never (
      h.0,
      subst (λ t. SpellsPrefix t h.0) (same_field (Some second) second h.2.second refl h.2.at_second) h.2.block,
    ))
pair_by first second more (inr never) other =
    inr (λ h. never (
      h.1,
      subst (λ t. SpellsAsn t h.1) (same_field (Some first) first h.2.first refl h.2.at_first) h.2.asn,
    ))

known_pair : (fields : List (List ℕ)) → Known (Pairs fields)
unfolding field_at
known_pair [] = inr (λ h. let at = h.2.at_first in cc)
known_pair (first ∷ []) = inr (λ h. let at = h.2.at_second in cc)
known_pair (first ∷ second ∷ more) = pair_by first second more (known_asn first) (known_prefix second)

row_by : (fields : List (List ℕ)) → Known (Pairs fields) → (one : Outcome) × ComesTo fields one
row_by fields (inl (p, n, gives)) = (outcome.Pair p n, gives)
row_by fields (inr never) = (outcome.Skipped, λ p n gives. never (p, n, gives))

row_one : (fields : List (List ℕ)) (a b : Outcome) → ComesTo fields a → ComesTo fields b → a ≡ b
row_one fields (outcome.Pair p n) (outcome.Pair q m) is is_too =
    let first = same_field _ is_too.first is.first is_too.at_first is.at_first in
    let second = same_field _ is_too.second is.second is_too.at_second is.at_second in
    ap (λ b. outcome.Pair b n)
    (one_prefix is_too.second p q (subst (λ t. SpellsPrefix t p) second is.block) is_too.block)
    ∙ ap (λ k. outcome.Pair q k) (one_asn is_too.first n m (subst (λ t. SpellsAsn t n) first is.asn) is_too.asn)
row_one fields (outcome.Pair p n) outcome.Skipped is is_too = absurd (is_too p n is)
row_one fields (outcome.Pair p n) outcome.Ignored is is_too = absurd is_too
row_one fields outcome.Skipped (outcome.Pair q m) is is_too = absurd (is q m is_too)
row_one fields outcome.Skipped outcome.Skipped is is_too = refl
row_one fields outcome.Skipped outcome.Ignored is is_too = absurd is_too
row_one fields outcome.Ignored b is is_too = absurd is

abbrev Some_rows : Config → State → List ℕ → Type 0
Some_rows cfg s xs = (rows : Rows) × AreRecords cfg s xs rows

with_row : (cfg : Config) (s : State) (xs : List ℕ) (p : Read) → next_record cfg s [] [] xs ≡ Some p
    → Some_rows cfg p.1 p.2 → Some_rows cfg s xs
unfolding Reached
with_row cfg s xs p is (rows, (s2, ys, reached, none)) =
    (p.0 ∷ rows, (s2, ys, (p, is, refl, reached), none))

no_row : (cfg : Config) (s : State) (xs : List ℕ) → next_record cfg s [] [] xs ≡ None → Some_rows cfg s xs
unfolding Reached
no_row cfg s xs none = ([], (s, xs, (refl, refl), none))

rows_by : (cfg : Config) (s : State) (xs : List ℕ) (o : Option Read) → next_record cfg s [] [] xs ≡ o
    → ((p : Read) → next_record cfg s [] [] xs ≡ Some p → Some_rows cfg p.1 p.2) → Some_rows cfg s xs
rows_by cfg s xs None is go = no_row cfg s xs is
rows_by cfg s xs (Some p) is go = with_row cfg s xs p is (go p is)

at_start : (cfg : Config) → next_record cfg st.StartRecord [] [] [] ≡ None
unfolding next_record
at_start cfg = refl

rows_within : (cfg : Config) (n : ℕ) (s : State) (xs : List ℕ) → length xs < n → Some_rows cfg s xs
rows_within cfg zero s xs less = absurd (omega arith)
rows_within cfg (suc n) s [] less =
    rows_by cfg s [] (next_record cfg s [] [] []) refl
    (λ p is.
    let last = at_end cfg s p is in
    no_row cfg p.1 p.2
    (ap (λ t. next_record cfg t [] [] p.2) last.0 ∙ ap (λ t. next_record cfg st.StartRecord [] [] t) last.1
    ∙ at_start cfg))
rows_within cfg (suc n) s (c ∷ rest) less =
    rows_by cfg s (c ∷ rest) (next_record cfg s [] [] (c ∷ rest)) refl
    (λ p is. let short = shorter cfg s [] [] c rest p is in rows_within cfg n p.1 p.2 (omega arith))

rows_one : (cfg : Config) (s : State) (xs : List ℕ) (rows all : Rows) → AreRecords cfg s xs rows
    → AreRecords cfg s xs all → rows ≡ all
rows_one cfg s xs rows all (s2, ys, reached, none) are =
    let front = begins cfg s xs rows all s2 ys reached are in
    sym (front.1 ∙ ap (λ more. rows ++ more) (none_more cfg s2 ys front.0 front.2 none) ∙ append-nil rows)

pub vrp_some : (text : List ℕ) → (table : Table) × IsVrpTable text table
vrp_some text =
    let rows = rows_within default_config (suc (length (strip_bom text))) st.StartRecord (strip_bom text)
    (omega arith) in
    let all = all_some ComesTo (λ fields. row_by fields (known_pair fields)) rows.0 in (
      table_of all.0,
      record { rows = rows.0; outcomes = all.0; records = rows.1; each = all.1; value = refl },
    )

pub vrp_one : (text : List ℕ) (table other : Table) → IsVrpTable text table → IsVrpTable text other → table ≡ other
vrp_one text table other is is_too =
    let same = rows_one default_config st.StartRecord (strip_bom text) is.rows is_too.rows is.records is_too.records in
    is.value
    ∙ ap table_of (all_one ComesTo row_one is_too.rows is.outcomes is_too.outcomes
    (subst (λ rs. AllZip ComesTo rs is.outcomes) same is.each) is_too.each)
    ∙ sym is_too.value
