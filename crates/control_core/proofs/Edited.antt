-- What always holds of a control still holds where its interfaces were edited, and where it published.
use Rattle.std.proofs.Common.{◌≡◌, ℕ, List, [], ◌∷◌, refl, sym, ap, subst, ◌∙◌}
use Rattle.std.specs.List.{AllByRecursion}
use Rattle.urpf_base.specs.Lists.{AreDistinct}
use Rattle.urpf_base.specs.declared.kinds.Kind.{Kind}
use Rattle.origin_pairs.specs.Pairs.{IsPairSet}
use Rattle.router_config.specs.Edits.{IsForConfigured, edited}
use Rattle.router_config.specs.declared.edits.Edit.{Edit}
use Rattle.router_config.specs.declared.edits.Edit.TheVariants as edit
use Rattle.urpf_base.specs.declared.kinds.Mode.{Mode}
use Rattle.urpf_base.specs.declared.kinds.Role.{Role}
use Rattle.rpf_plain.proofs.Listed.{configured, mode_edited, pair_edited, role_kept, roles_edited}
use Rattle.rpf_plain.specs.Engine.{EngineState, SetsRole}
use Rattle.rpf_plain.specs.Rows.{repeats}
use Rattle.rpf_plain.specs.World.{IsConfigured, Roles, World, roles_of, with_role}
use Rattle.rpf_plain.specs.declared.rows.Row.{Row}
use Rattle.control_core.specs.Controls.{EditsSets}
use Rattle.control_core.specs.Kept.{IsKept}
use Rattle.control_core.specs.States.{PeerState}
use Rattle.control_core.specs.Loads.{GrowsPairs}
use Rattle.control_core.specs.declared.limits.Limits.{Limits}
use Rattle.control_core.proofs.PairEdits.{own_set}

-- an edit leaves the interfaces that there are
still_configured : (change : Edit) (kinds : List (ℕ × Kind)) (i : ℕ) → IsConfigured (roles_of kinds) i
    → IsConfigured (roles_of (edited change kinds)) i
still_configured (edit.Role iface role) kinds i there =
    subst (λ (rs : Roles). IsConfigured rs i) (sym (roles_edited iface role kinds))
    ((role_kept (roles_of kinds) iface role i).1 there)
still_configured (edit.Mode iface mode) kinds i there =
    subst (λ (rs : Roles). IsConfigured rs i) (sym (mode_edited kinds iface mode)) there
still_configured (edit.PairAdd prefix asn) kinds i there =
    subst (λ (rs : Roles). IsConfigured rs i) (sym (pair_edited kinds prefix asn).0) there
still_configured (edit.PairDel prefix asn) kinds i there =
    subst (λ (rs : Roles). IsConfigured rs i) (sym (pair_edited kinds prefix asn).1) there

each_by : (P Q : PeerState → Type 0) → ((p : PeerState) → P p → Q p) → (peers : List PeerState)
    → AllByRecursion P peers → AllByRecursion Q peers
each_by P Q more [] each = tt
each_by P Q more (p ∷ peers) each = (more p each.0, each_by P Q more peers each.1)

pub kept_edited : (peers : List PeerState) (kinds : List (ℕ × Kind)) (change : Edit) (old new : EngineState)
    (limits : Limits) → IsKept peers kinds old limits → EditsSets change old new
    → IsKept peers (edited change kinds) new limits
kept_edited peers kinds change old new limits kept edits = record {
  rows = λ row. ap (λ (rows : List Row). repeats rows row) edits.rows ∙ kept.rows row;
  roles = roles;
  pairs = (edits.pairs old.world.pairs (own_set old.world.pairs kept.pairs)).distinct;
  configured =
      each_by (λ p. IsConfigured old.world.roles p.session.config.iface)
      (λ p. IsConfigured new.world.roles p.session.config.iface)
      (λ p there.
      subst (λ (rs : Roles). IsConfigured rs p.session.config.iface) (sym roles)
      (still_configured change kinds p.session.config.iface
      (subst (λ (rs : Roles). IsConfigured rs p.session.config.iface) kept.roles there)))
      peers kept.configured;
  numbered = kept.numbered;
  few = kept.few;
}
  where
    roles : new.world.roles ≡ roles_of (edited change kinds)
    roles = edits.roles kinds kept.roles

-- what is drained does not count
pub kept_drained : (peers : List PeerState) (kinds : List (ℕ × Kind)) (old new : EngineState) (limits : Limits)
    → IsKept peers kinds old limits → new.world ≡ old.world → IsKept peers kinds new limits
kept_drained peers kinds old new limits kept same = record {
  rows = λ row. ap (λ (w : World). repeats w.rows row) same ∙ kept.rows row;
  roles = ap (λ (w : World). w.roles) same ∙ kept.roles;
  pairs = subst (λ (w : World). AreDistinct w.pairs) (sym same) kept.pairs;
  configured =
      subst (λ (w : World). AllByRecursion (λ p. IsConfigured w.roles p.session.config.iface) peers) (sym same)
      kept.configured;
  numbered = kept.numbered;
  few = kept.few;
}

-- a role that is given to an interface is an edit of the role
pub role_edits : (iface : ℕ) (role : Role) (old new : EngineState) → SetsRole iface role old new
    → EditsSets (edit.Role iface role) old new
role_edits iface role old new sets = record {
  rows = sets.rows;
  roles = λ kinds were. sets.roles ∙ ap (with_role iface role) were ∙ sym (roles_edited iface role kinds);
  pairs = λ pairs is. subst (IsPairSet pairs) (sym sets.pairs) is;
  base = sets.base;
}

-- an edit of a mode leaves the engine as it is
pub mode_leaves : (iface : ℕ) (mode : Mode) (engine : EngineState) → EditsSets (edit.Mode iface mode) engine engine
mode_leaves iface mode engine = record {
  rows = refl;
  roles = λ kinds were. were ∙ sym (mode_edited kinds iface mode);
  pairs = λ pairs is. is;
  base = refl;
}

-- the roles of the interfaces name that of an edit of a role
pub role_there : (change : Edit) (kinds : List (ℕ × Kind)) (roles : Roles) (iface : ℕ) (role : Role)
    → roles ≡ roles_of kinds → IsForConfigured kinds change → change ≡ edit.Role iface role → IsConfigured roles iface
role_there change kinds roles iface role were there is =
    subst (λ (rs : Roles). IsConfigured rs iface) (sym were)
    ((configured kinds iface).1 (subst (IsForConfigured kinds) is there))

-- pairs were loaded
pub kept_loaded : (peers : List PeerState) (kinds : List (ℕ × Kind)) (old new : EngineState) (limits : Limits)
    → IsKept peers kinds old limits → GrowsPairs old new → IsKept peers kinds new limits
kept_loaded peers kinds old new limits kept grows = record {
  rows = λ row. ap (λ (rows : List Row). repeats rows row) grows.rows ∙ kept.rows row;
  roles = grows.roles ∙ kept.roles;
  pairs = grows.distinct kept.pairs;
  configured = subst (λ (rs : Roles). AllByRecursion (λ p. IsConfigured rs p.session.config.iface) peers)
      (sym grows.roles) kept.configured;
  numbered = kept.numbered;
  few = kept.few;
}
