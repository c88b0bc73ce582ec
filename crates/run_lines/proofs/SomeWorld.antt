-- Each mark of a run has kinds and a world: the routes that effects leave can be listed.
use Rattle.std.proofs.Common.{◌≡◌, ◌⊎◌, ◌↔◌, inl, inr, ℕ, List, [], ◌∷◌, ◌++◌, take, Option, refl, sym, ap, subst}
use Rattle.std.specs.List.{AllByRecursion}
use Rattle.urpf_base.specs.Address.{Block}
use Rattle.urpf_base.specs.Lists.{Has}
use Rattle.urpf_base.specs.declared.kinds.Kind.{Kind}
use Rattle.urpf_base.proofs.Membership.{has_or_not}
use Rattle.router_config.specs.declared.edits.Edit.{Edit}
use Rattle.rpf_plain.specs.World.{World, world_for}
use Rattle.rpf_plain.specs.declared.rows.Row.{Row}
use Rattle.rpf_plain.proofs.Members.{has_append}
use Rattle.session_fsm.specs.declared.items.Effect.{Effect}
use Rattle.session_fsm.specs.declared.items.Effect.TheVariants.{Nothing, Advanced, Reset, Changes}
use Rattle.control_core.specs.Effects.{Announces, Holds, Leaves}
use Rattle.control_core.specs.Worlds.{Course, IsRowOfAny, IsWorldAt, Opening, Position, kinds_after, pairs_after}
use Rattle.origin_pairs.proofs.Sets.{some_set}

-- these are just the rows of which this holds
abbrev AreJust : List Row → (Row → Type 0) → Type 0
AreJust rows Is = (r : Row) → Has rows r ↔ Is r

-- an effect leaves a route to the prefix as it was or it does not
leaves_or_not : (p : Block) (effect : Effect) → Leaves p effect ⊎ (Leaves p effect → ⊥)
leaves_or_not p Nothing = inl tt
leaves_or_not p Advanced = inl tt
leaves_or_not p (Reset cause) = inr (λ never. never)
leaves_or_not p (Changes update) =
    elim (has_or_not update.withdrawn p) [
      | inl gone ↦ inr (λ silent. silent.0 gone)
      | inr kept ↦ elim (has_or_not update.announced p) [
        | inl new ↦ inr (λ silent. silent.1 new)
        | inr old ↦ inl (kept, old)
      ]
    ]

-- so do several
leave_or_not : (later : List Effect) (p : Block)
    → AllByRecursion (Leaves p) later ⊎ (AllByRecursion (Leaves p) later → ⊥)
leave_or_not [] p = inl tt
leave_or_not (effect ∷ later) p =
    elim (leaves_or_not p effect) [
      | inr never ↦ inr (λ all. never all.0)
      | inl leaves ↦ elim (leave_or_not later p) [
        | inl rest ↦ inl (leaves, rest)
        | inr never ↦ inr (λ all. never all.1)
      ]
    ]

abbrev row_with : ℕ → Block → Option ℕ → Row
row_with iface prefix origin = record { prefix = prefix; iface = iface; origin = origin }

-- the row is of one of these prefixes, on the interface and with the origin, and later effects leave it as it was
abbrev StaysOf : ℕ → Option ℕ → List Effect → List Block → Row → Type 0
StaysOf iface origin later ps r =
    (r.iface ≡ iface) × Has ps r.prefix × (r.origin ≡ origin) × AllByRecursion (Leaves r.prefix) later

some_of : (iface : ℕ) (origin : Option ℕ) (later : List Effect) (ps : List Block)
    → (rows : List Row) × AreJust rows (StaysOf iface origin later ps)
some_of iface origin later [] = ([], λ r. (λ never. absurd never, λ is. absurd is.1))
some_of iface origin later (p ∷ ps) =
    let (rows, just) = some_of iface origin later ps in
    elim (leave_or_not later p) [
      | inl stays ↦ (
        row_with iface p origin ∷ rows,
        λ r. (
          λ h. elim h [
            | inl same ↦ (
              ap (λ x. x.iface) same,
              inl (ap (λ x. x.prefix) same),
              ap (λ x. x.origin) same,
              subst (λ (x : Row). AllByRecursion (Leaves x.prefix) later) (sym same) stays,
            )
            | inr more ↦ let is = (just r).0 more in (is.0, inr is.1, is.2, is.3)
          ],
          λ is. elim is.1 [
            | inl same ↦ inl (λ i. record { prefix = same i; iface = is.0 i; origin = is.2 i })
            | inr other ↦ inr ((just r).1 (is.0, other, is.2, is.3))
          ],
        ),
      )
      | inr goes ↦ (
        rows,
        λ r. (
          λ h. let is = (just r).0 h in (is.0, inr is.1, is.2, is.3),
          λ is. elim is.1 [
            | inl same ↦ absurd (goes (subst (λ (q : Block). AllByRecursion (Leaves q) later) same is.3))
            | inr other ↦ (just r).1 (is.0, other, is.2, is.3)
          ],
        ),
      )
    ]

-- the row is on the interface, the effect announces its route, and later effects leave it as it was
abbrev IsNewIn : ℕ → Effect → List Effect → Row → Type 0
IsNewIn iface effect later r =
    (r.iface ≡ iface) × Announces effect r.prefix r.origin × AllByRecursion (Leaves r.prefix) later

some_new : (iface : ℕ) (effect : Effect) (later : List Effect)
    → (rows : List Row) × AreJust rows (IsNewIn iface effect later)
some_new iface Nothing later = ([], λ r. (λ never. absurd never, λ is. absurd is.1))
some_new iface Advanced later = ([], λ r. (λ never. absurd never, λ is. absurd is.1))
some_new iface (Reset cause) later = ([], λ r. (λ never. absurd never, λ is. absurd is.1))
some_new iface (Changes update) later =
    let (rows, just) = some_of iface update.origin later update.announced in (
      rows,
      λ r. (
        λ h. let is = (just r).0 h in (is.0, (is.1, is.2), is.3),
        λ is. (just r).1 (is.0, is.1.0, is.1.1, is.2),
      ),
    )

-- the row is on the interface, and the effects leave its route
abbrev IsHeld : ℕ → List Effect → Row → Type 0
IsHeld iface effects r = (r.iface ≡ iface) × Holds effects r.prefix r.origin

some_held : (iface : ℕ) (effects : List Effect) → (rows : List Row) × AreJust rows (IsHeld iface effects)
some_held iface [] = ([], λ r. (λ never. absurd never, λ is. absurd is.1))
some_held iface (effect ∷ later) =
    let (old, of_old) = some_held iface later in
    let (new, of_new) = some_new iface effect later in (
      old ++ new,
      λ r. (
        λ h. elim ((has_append old new r).0 h) [
          | inl before ↦ let is = (of_old r).0 before in (is.0, inl is.1)
          | inr now ↦ let is = (of_new r).0 now in (is.0, inr (is.1, is.2))
        ],
        λ is. (has_append old new r).1 (elim is.1 [
          | inl before ↦ inl ((of_old r).1 (is.0, before))
          | inr now ↦ inr ((of_new r).1 (is.0, now.0, now.1))
        ]),
      ),
    )

-- the rows of all sessions, where each took so many items
some_rows : (courses : List Course) (counts : List ℕ)
    → (rows : List Row) × AreJust rows (IsRowOfAny courses counts)
some_rows [] counts = ([], λ r. (λ never. never, λ never. never))
some_rows (course ∷ courses) [] = ([], λ r. (λ never. never, λ never. never))
some_rows (course ∷ courses) (count ∷ counts) =
    let (own, of_own) = some_held course.config.iface (take count course.effects) in
    let (others, of_others) = some_rows courses counts in (
      own ++ others,
      λ r. (
        λ h. elim ((has_append own others r).0 h) [
          | inl one ↦ inl ((of_own r).0 one)
          | inr other ↦ inr ((of_others r).0 other)
        ],
        λ is. (has_append own others r).1 (elim is [
          | inl one ↦ inl ((of_own r).1 one)
          | inr other ↦ inr ((of_others r).1 other)
        ]),
      ),
    )

-- there are kinds and a world at each position
pub some_world : (opening : Opening) (edits : List Edit) (courses : List Course) (at : Position)
    → (kinds : List (ℕ × Kind)) × (world : World) × IsWorldAt opening edits courses at kinds world
some_world opening edits courses at =
    let kinds : List (ℕ × Kind) = kinds_after (take at.edits edits) opening.settings.interfaces in
    let (pairs, set) = some_set (pairs_after (take at.edits edits) opening.pairs) in
    let (rows, just) = some_rows courses at.items in
    (kinds, world_for kinds rows pairs, record { edited = refl; roles = refl; pairs = set; rows = just })
