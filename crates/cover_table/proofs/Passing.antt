-- A source passes where the cell of some prefix that covers it says so.
use Rattle.std.proofs.Common.{◌≡◌, ◌↔◌, ℕ, ◌<◌, ◌==◌, Bool, true, ◌&&◌, not, IsTrue, List, [], ◌∷◌}
use Rattle.std.proofs.Common.{Option, Some, None, refl, sym, ap, subst, inl, inr, arith, nat_lt}
use Rattle.std.specs.FinMap.{entries, get}
use Rattle.std.specs.List.{list_any}
use Rattle.std.proofs.lemmas.Bool.{and_from, and_parts, cases_Bool, eq-eqb, eqb-true, lt-ltb, ltb-true}
use Rattle.urpf_base.specs.Address.{Block, Covers}
use Rattle.urpf_base.specs.Lists.{Has}
use Rattle.urpf_base.specs.declared.address.Addr.{Addr}
use Rattle.urpf_base.specs.declared.address.Addr.TheVariants.{V4, V6}
use Rattle.urpf_base.specs.declared.cells.Cell.{Cell}
use Rattle.urpf_base.specs.declared.kinds.Mode.{Mode}
use Rattle.urpf_base.specs.declared.kinds.Mode.TheVariants.{Off, Feasible, Loose, LooseNoDefault, EfpA, EfpB}
use Rattle.prefix_map.specs.Mapped.{Mapped}
use Rattle.prefix_map.proofs.Held.{has_pair}
use Rattle.rpf_plain.specs.Cells.{cell_at, cell_or_empty, empty_cell}
use Rattle.rpf_plain.specs.Modes.{Says}
use Rattle.rpf_plain.proofs.Turns.{no_member}
use Rattle.cover_table.specs.Judging.{admits, covers, passes, told}
use Rattle.cover_table.proofs.Covering.{covers_is}

-- the cell of some prefix that covers the source says so
abbrev pub SomeSays : Mode → ℕ → Mapped Cell → Addr → Type 0
SomeSays mode iface cells source = (p : Block) × Says mode iface p (cell_at cells p) × Covers p source

found_row : {X : Type 0} (test : X → Bool) (rows : List X) → list_any test rows ≡ true
    → (row : X) × Has rows row × (test row ≡ true)
found_row test [] is = absurd cc
found_row test (x ∷ rows) is =
    elim (cases_Bool (test x)) [
      | inl here ↦ (x, inl refl, here)
      | inr not_here ↦
          let later : list_any test rows ≡ true = rw not_here at is in
          let (row, has, passed) = found_row test rows later in
          (row, inr has, passed)
    ]

row_found : {X : Type 0} (test : X → Bool) (rows : List X) (row : X) → Has rows row → test row ≡ true
    → list_any test rows ≡ true
row_found test [] row has passed = absurd has
row_found test (x ∷ rows) row (inl same) passed =
    let here : test x ≡ true = subst (λ y. test y ≡ true) same passed in rw here refl
row_found test (x ∷ rows) row (inr has) passed =
    elim (cases_Bool (test x)) [
      | inl here ↦ rw here refl
      | inr not_here ↦ rw not_here (row_found test rows row has passed)
    ]

some_is : (mask : ℕ) → (not (mask == 0) ≡ true) ↔ (¬ (mask ≡ 0))
some_is mask = (
  λ is same. let yes : (mask == 0) ≡ true = eq-eqb mask 0 same in cc,
  λ other. elim (cases_Bool (mask == 0)) [
    | inl zeroed ↦ absurd (other (eqb-true mask 0 zeroed))
    | inr is ↦ ap not is
  ],
)

long_is : (len mask : ℕ) → (nat_lt 0 len && not (mask == 0) ≡ true) ↔ ((0 < len) × ¬ (mask ≡ 0))
long_is len mask = (
  λ is. let parts : (nat_lt 0 len ≡ true) × (not (mask == 0) ≡ true) = and_parts (nat_lt 0 len) (not (mask == 0)) is in
      (ltb-true 0 len parts.0, (some_is mask).0 parts.1),
  λ h. and_from (nat_lt 0 len) (not (mask == 0)) (lt-ltb 0 len h.0) ((some_is mask).1 h.1),
)

module _ (mode : Mode) (iface : ℕ) (tells : (p : Block) (c : Cell) → (told mode iface p c ≡ true) ↔ Says mode iface p c)
    (no_empty : (p : Block) → ¬ Says mode iface p empty_cell) (cells : Mapped Cell) (source : Addr) where
  says_so : list_any (admits mode iface source) (entries cells) ≡ true → SomeSays mode iface cells source
  says_so is =
      let (row, has, passed) = found_row (admits mode iface source) (entries cells) is in
      let parts : (told mode iface row.0 row.1 ≡ true) × (covers row.0 source ≡ true) =
      and_parts (told mode iface row.0 row.1) (covers row.0 source) passed in
      let held : get cells row.0 ≡ Some row.1 = (has_pair cells row.0 row.1).0 has in (
        row.0,
        subst (λ o. Says mode iface row.0 (cell_or_empty o)) (sym held) ((tells row.0 row.1).0 parts.0),
        (covers_is row.0 source).0 parts.1,
      )

  is_found : (p : Block) (o : Option Cell) → get cells p ≡ o → Says mode iface p (cell_or_empty o) → Covers p source
      → list_any (admits mode iface source) (entries cells) ≡ true
  is_found p None is says over = absurd (no_empty p says)
  is_found p (Some c) is says over =
      row_found (admits mode iface source) (entries cells) (p, c) ((has_pair cells p c).1 is)
      (and_from (told mode iface p c) (covers p source) ((tells p c).1 says) ((covers_is p source).1 over))

  says_is : (list_any (admits mode iface source) (entries cells) ≡ true) ↔ SomeSays mode iface cells source
  says_is = (says_so, λ (p, says, over). is_found p (get cells p) refl says over)

by_default : (cells : Mapped Cell) (iface : ℕ) (source : Addr) → SomeSays Off iface cells source
by_default cells iface (V4 a) = (record { addr = V4 0; len = 0 }, inl refl, λ i below. absurd (omega arith))
by_default cells iface (V6 a) = (record { addr = V6 0; len = 0 }, inr (inl refl), λ i below. absurd (omega arith))

pub passes_is : (mode : Mode) (iface : ℕ) (cells : Mapped Cell) (source : Addr)
    → IsTrue (passes mode iface cells source) ↔ SomeSays mode iface cells source
passes_is Off iface cells source = (λ is. by_default cells iface source, λ says. refl)
passes_is Feasible iface cells source =
    says_is Feasible iface (λ p c. (eqb-true _ _, eq-eqb _ _)) (λ p. no_member iface) cells source
passes_is Loose iface cells source =
    says_is Loose iface (λ p c. some_is c.f) (λ p says. says refl) cells source
passes_is LooseNoDefault iface cells source =
    says_is LooseNoDefault iface (λ p c. long_is p.len c.f) (λ p says. says.1 refl) cells source
passes_is EfpA iface cells source =
    says_is EfpA iface (λ p c. (eqb-true _ _, eq-eqb _ _)) (λ p. no_member iface) cells source
passes_is EfpB iface cells source = says_is EfpB iface (λ p c. (λ h. h, λ h. h)) (λ p says. cc) cells source
