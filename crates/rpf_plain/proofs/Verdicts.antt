-- There is one verdict on each source, and it depends on which rows there are alone.
use Rattle.std.proofs.Common.{◌≡◌, ◌⊎◌, ◌↔◌, inl, inr, ℕ, zero, suc, List, [], ◌∷◌, Option, Some, None, refl, sym}
use Rattle.std.proofs.Common.{subst, ◌∙◌, arith}
use Rattle.std.proofs.lemmas.Bool.{cases_eq}
use Rattle.urpf_base.specs.Address.{AgreeUpTo, Block, Covers, FirstBitsAgree, bit_from_highest}
use Rattle.urpf_base.specs.Kinds.{mode_for}
use Rattle.urpf_base.specs.Lists.{Has}
use Rattle.urpf_base.specs.declared.address.Addr.{Addr}
use Rattle.urpf_base.specs.declared.address.Addr.TheVariants.{V4, V6}
use Rattle.urpf_base.specs.declared.kinds.Kind.{Kind}
use Rattle.urpf_base.specs.declared.kinds.Mode.{Mode}
use Rattle.urpf_base.specs.declared.kinds.Mode.TheVariants.{Off, Feasible, Loose, LooseNoDefault, EfpA, EfpB}
use Rattle.urpf_base.specs.declared.verdicts.Verdict.{Verdict}
use Rattle.urpf_base.specs.declared.verdicts.Verdict.TheVariants.{Pass, Drop, BadHead, NoIface}
use Rattle.router_config.specs.Kinds.{kind_in}
use Rattle.rpf_plain.specs.declared.rows.Row.{Row}
use Rattle.rpf_plain.specs.Modes.{IsVerdict, IsVerdictBy, IsVerdictFor, SomeCovers, set_in, set_of}
use Rattle.rpf_plain.specs.Sets.{prefixes_of}
use Rattle.origin_pairs.specs.Pairs.{AreSamePairs, Pair}
use Rattle.rpf_plain.specs.World.{Roles, World, roles_of, world_for}
use Rattle.rpf_plain.proofs.Alike.{AreIn, ArePairsIn, in_feasible, in_list, in_z, world}
use Rattle.rpf_plain.proofs.Modal.{a_prefix, in_no_defaults, some_prefix}

-- the first bits agree or they do not
bits_or_not : (width len a b : ℕ) → FirstBitsAgree width len a b ⊎ (¬ FirstBitsAgree width len a b)
bits_or_not width zero a b = inl (λ i below. absurd (omega arith))
bits_or_not width (suc len) a b =
    elim (bits_or_not width len a b) [
      | inr differ ↦ inr (λ all. differ (λ i below. all i (omega arith)))
      | inl agree ↦ elim (cases_eq (bit_from_highest width a len) (bit_from_highest width b len)) [
        | inr other ↦ inr (λ all. other (all len (omega arith)))
        | inl last ↦ inl (λ i below. elim (cases_eq i len) [
          | inl same ↦ subst (λ k. bit_from_highest width a k ≡ bit_from_highest width b k) (sym same) last
          | inr before ↦ agree i (omega arith)
        ])
      ]
    ]

agree_or_not : (len : ℕ) (x y : Addr) → AgreeUpTo len x y ⊎ (¬ AgreeUpTo len x y)
agree_or_not len (V4 a) (V4 b) = bits_or_not 32 len a b
agree_or_not len (V4 a) (V6 b) = inr (λ h. h)
agree_or_not len (V6 a) (V4 b) = inr (λ h. h)
agree_or_not len (V6 a) (V6 b) = bits_or_not 128 len a b

-- some prefix of a list covers the address or none does
some_or_none : (ps : List Block) (addr : Addr) → SomeCovers ps addr ⊎ (¬ SomeCovers ps addr)
some_or_none [] addr = inr (λ some. some.1)
some_or_none (p ∷ ps) addr =
    elim (agree_or_not p.len p.addr addr) [
      | inl covers ↦ inl (p, inl refl, covers)
      | inr other ↦ elim (some_or_none ps addr) [
        | inl (q, has, covers) ↦ inl (q, inr has, covers)
        | inr none ↦ inr (λ (q, has, covers). elim has [
          | inl same ↦ other (subst (λ x. Covers x addr) same covers)
          | inr later ↦ none (q, later, covers)
        ])
      ]
    ]

some_by : (kind : Kind) (w : World) (iface : ℕ) (source : Addr)
    → (answer : Verdict) × IsVerdictBy kind w iface source answer
some_by kind w iface source =
    elim (some_or_none (set_of kind w iface) source) [ inl some ↦ (Pass, some) | inr none ↦ (Drop, none) ]

some_for : (o : Option Kind) (w : World) (iface : ℕ) (source : Option Addr)
    → (answer : Verdict) × IsVerdictFor o w iface source answer
some_for None w iface source = (NoIface, refl)
some_for (Some kind) w iface None = (BadHead, refl)
some_for (Some kind) w iface (Some source) = some_by kind w iface source

-- there is a verdict
pub some_verdict : (kinds : List (ℕ × Kind)) (rows : List Row) (pairs : List Pair) (iface : ℕ) (source : Option Addr)
    → (answer : Verdict) × IsVerdict kinds rows pairs iface source answer
some_verdict kinds rows pairs iface source = some_for (kind_in kinds iface) (world_for kinds rows pairs) iface source

-- a verdict by the set of an interface is one of two
which : (kind : Kind) (w : World) (iface : ℕ) (source : Addr) (a : Verdict) → IsVerdictBy kind w iface source a
    → ((a ≡ Pass) × SomeCovers (set_of kind w iface) source) ⊎ ((a ≡ Drop) × ¬ SomeCovers (set_of kind w iface) source)
which kind w iface source Pass is = inl (refl, is)
which kind w iface source Drop is = inr (refl, is)
which kind w iface source BadHead is = absurd is
which kind w iface source NoIface is = absurd is

one_by : (kind : Kind) (w : World) (iface : ℕ) (source : Addr) (a b : Verdict) → IsVerdictBy kind w iface source a
    → IsVerdictBy kind w iface source b → a ≡ b
one_by kind w iface source a b x y =
    elim (which kind w iface source a x) [
      | inl passes ↦ elim (which kind w iface source b y) [
        | inl other ↦ passes.0 ∙ sym other.0
        | inr other ↦ absurd (other.1 passes.1)
      ]
      | inr drops ↦ elim (which kind w iface source b y) [
        | inl other ↦ absurd (drops.1 other.1)
        | inr other ↦ drops.0 ∙ sym other.0
      ]
    ]

one_for : (o : Option Kind) (w : World) (iface : ℕ) (source : Option Addr) (a b : Verdict)
    → IsVerdictFor o w iface source a → IsVerdictFor o w iface source b → a ≡ b
one_for None w iface source a b x y = x ∙ sym y
one_for (Some kind) w iface None a b x y = x ∙ sym y
one_for (Some kind) w iface (Some source) a b x y = one_by kind w iface source a b x y

-- and no other
pub one_verdict : (kinds : List (ℕ × Kind)) (rows : List Row) (pairs : List Pair) (iface : ℕ) (source : Option Addr)
    (a b : Verdict) → IsVerdict kinds rows pairs iface source a → IsVerdict kinds rows pairs iface source b → a ≡ b
one_verdict kinds rows pairs iface source a b =
    one_for (kind_in kinds iface) (world_for kinds rows pairs) iface source a b

in_any : (a b : List Row) → AreIn a b → (p : Block) → Has (prefixes_of a) p → Has (prefixes_of b) p
in_any a b within p h =
    let (r, has, is) = some_prefix a p h in subst (Has (prefixes_of b)) is (a_prefix b r (within r has))

module _ (a b : List Row) (within : AreIn a b) (roles : Roles) (pairs like : List Pair)
    (pairs_within : ArePairsIn pairs like) (i : ℕ) where
  -- the set of each mode has no fewer prefixes where there are more rows and pairs
  pub in_mode : (m : Mode) (p : Block) → Has (set_in m (world roles pairs a) i) p
      → Has (set_in m (world roles like b) i) p
  in_mode Off p h = h
  in_mode Feasible p h = in_feasible a b within roles pairs like pairs_within i p h
  in_mode Loose p h = in_any a b within p h
  in_mode LooseNoDefault p h =
      let told = (in_no_defaults (prefixes_of a) p).0 h in
      (in_no_defaults (prefixes_of b) p).1 (in_any a b within p told.0, told.1)
  in_mode EfpA p h = in_list a b within roles pairs like pairs_within i p h
  in_mode EfpB p h = in_z a b within roles pairs like pairs_within p h

  pub covers_by : (kind : Kind) (source : Addr) → SomeCovers (set_of kind (world roles pairs a) i) source
      → SomeCovers (set_of kind (world roles like b) i) source
  covers_by kind source some =
      let (p, has, covers) = some in (p, in_mode (mode_for kind.role kind.mode) p has, covers)

module _ (a b : List Row) (to : AreIn a b) (from : AreIn b a) (roles : Roles) (pairs like : List Pair)
    (there : ArePairsIn pairs like) (back : ArePairsIn like pairs) (i : ℕ) where
  same_by : (kind : Kind) (source : Addr) (answer : Verdict) → IsVerdictBy kind (world roles pairs a) i source answer
      → IsVerdictBy kind (world roles like b) i source answer
  same_by kind source Pass is = covers_by a b to roles pairs like there i kind source is
  same_by kind source Drop is = λ some. is (covers_by b a from roles like pairs back i kind source some)
  same_by kind source BadHead is = is
  same_by kind source NoIface is = is

  same_for : (o : Option Kind) (source : Option Addr) (answer : Verdict)
      → IsVerdictFor o (world roles pairs a) i source answer → IsVerdictFor o (world roles like b) i source answer
  same_for None source answer is = is
  same_for (Some kind) None answer is = is
  same_for (Some kind) (Some source) answer is = same_by kind source answer is

-- where the same rows and pairs are there the verdict is the same
pub same_verdict : (kinds : List (ℕ × Kind)) (rows others : List Row)
    → ((row : Row) → Has rows row ↔ Has others row) → (pairs like : List Pair) → AreSamePairs pairs like → (iface : ℕ)
    (source : Option Addr) (answer : Verdict) → IsVerdict kinds rows pairs iface source answer
    → IsVerdict kinds others like iface source answer
same_verdict kinds rows others same pairs like same_pairs iface source answer is =
    same_for rows others (λ r. (same r).0) (λ r. (same r).1) (roles_of kinds) pairs like (λ q. (same_pairs q).0)
    (λ q. (same_pairs q).1) iface (kind_in kinds iface) source answer is
