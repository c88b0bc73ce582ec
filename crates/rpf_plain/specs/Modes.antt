-- The set that an interface is checked against, by its mode, and the verdict on a source (RFC 8704, section 3;
-- RFC 3704, section 2).
use Rattle.std.specs.Prelude.{◌≡◌, ℕ, ◌<◌, nat_lt, List, [], ◌∷◌, Option, Some, None, IsTrue}
use Rattle.std.specs.List.{filter}
use Rattle.urpf_base.specs.Address.{Block, Covers}
use Rattle.urpf_base.specs.Kinds.{mode_for}
use Rattle.urpf_base.specs.Lists.{Has}
use Rattle.urpf_base.specs.Masks.{InMask}
use Rattle.urpf_base.specs.declared.address.Addr.{Addr}
use Rattle.urpf_base.specs.declared.address.Addr.TheVariants.{V4, V6}
use Rattle.urpf_base.specs.declared.cells.Cell.{Cell}
use Rattle.urpf_base.specs.declared.kinds.Kind.{Kind}
use Rattle.urpf_base.specs.declared.kinds.Mode.{Mode}
use Rattle.urpf_base.specs.declared.kinds.Mode.TheVariants.{Off, Feasible, Loose, LooseNoDefault, EfpA, EfpB}
use Rattle.urpf_base.specs.declared.verdicts.Verdict.{Verdict}
use Rattle.urpf_base.specs.declared.verdicts.Verdict.TheVariants as verdict
use Rattle.router_config.specs.Kinds.{kind_in}
use Rattle.origin_pairs.specs.Pairs.{Pair}
use Rattle.rpf_plain.specs.World.{World, world_for}
use Rattle.rpf_plain.specs.declared.rows.Row.{Row}
use Rattle.rpf_plain.specs.Sets.{any, feasible, list_a_with_pairs, set_z_with_pairs}

-- the default routes, one a family
abbrev pub defaults : List Block
defaults = record { addr = V4 0; len = 0 } ∷ record { addr = V6 0; len = 0 } ∷ []

-- the prefixes that are no default route
abbrev pub no_defaults : List Block → List Block
no_defaults prefixes = filter (λ p. nat_lt 0 p.len) prefixes

-- the set of an interface that is checked in this mode
abbrev pub set_in : Mode → World → ℕ → List Block
set_in Off w iface = defaults
set_in Feasible w iface = feasible w iface
set_in Loose w iface = any w
set_in LooseNoDefault w iface = no_defaults (any w)
set_in EfpA w iface = list_a_with_pairs w iface
set_in EfpB w iface = set_z_with_pairs w

-- the set of an interface of this kind, by its effective mode
abbrev pub set_of : Kind → World → ℕ → List Block
set_of kind w iface = set_in (mode_for kind.role kind.mode) w iface

-- what the cell of a prefix says of its being in the set of an interface
abbrev pub Says : Mode → ℕ → Block → Cell → Type 0
Says Off iface prefix cell = Has defaults prefix
Says Feasible iface prefix cell = InMask cell.f iface
Says Loose iface prefix cell = ¬ (cell.f ≡ 0)
Says LooseNoDefault iface prefix cell = (0 < prefix.len) × ¬ (cell.f ≡ 0)
Says EfpA iface prefix cell = InMask cell.a iface
Says EfpB iface prefix cell = IsTrue cell.z

-- some prefix of the list covers the address
abbrev pub SomeCovers : List Block → Addr → Type 0
SomeCovers prefixes addr = (p : Block) × Has prefixes p × Covers p addr

-- the verdict on a source by the set of an interface of this kind: it passes just where a prefix of the set covers it
abbrev pub IsVerdictBy : Kind → World → ℕ → Addr → Verdict → Type 0
IsVerdictBy kind w iface source verdict.Pass = SomeCovers (set_of kind w iface) source
IsVerdictBy kind w iface source verdict.Drop = ¬ SomeCovers (set_of kind w iface) source
IsVerdictBy kind w iface source verdict.BadHead = ⊥
IsVerdictBy kind w iface source verdict.NoIface = ⊥

-- the verdict of an interface that may not be configured on a source that there may not be
abbrev pub IsVerdictFor : Option Kind → World → ℕ → Option Addr → Verdict → Type 0
IsVerdictFor None w iface source answer = answer ≡ verdict.NoIface
IsVerdictFor (Some kind) w iface None answer = answer ≡ verdict.BadHead
IsVerdictFor (Some kind) w iface (Some source) answer = IsVerdictBy kind w iface source answer

-- the verdict on the source of a packet that came in on an interface
abbrev pub IsVerdict : List (ℕ × Kind) → List Row → List Pair → ℕ → Option Addr → Verdict → Type 0
IsVerdict kinds rows pairs iface source answer =
    IsVerdictFor (kind_in kinds iface) (world_for kinds rows pairs) iface source answer
