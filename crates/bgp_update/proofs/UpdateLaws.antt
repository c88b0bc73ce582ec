-- A body is one UPDATE, and what is read of it is this UPDATE.
use Rattle.std.proofs.Common.{◌≡◌, ℕ, Bool, List, ◌++◌, Option, ap, sym, subst, ◌∙◌}
use Rattle.urpf_base.specs.Address.{Block}
use Rattle.urpf_base.specs.RouteUpdates.{RouteUpdate}
use Rattle.bgp_nlri.specs.Front.{prefixes_in}
use Rattle.bgp_nlri.specs.Nlri.{SpellsPrefixes}
use Rattle.bgp_nlri.specs.declared.family.Family.TheVariants.{V4, V6}
use Rattle.bgp_nlri.proofs.Laws.{in_spelled, spelled_in}
use Rattle.as_path.specs.declared.merge.Aggregators.{Aggregators}
use Rattle.as_path.specs.declared.widths.Width.{Width}
use Rattle.bgp_attr.specs.declared.attrs.Attrs.{Attrs}
use Rattle.bgp_attr.specs.Attribute.{Attribute}
use Rattle.bgp_attr.specs.Faults.{AreAttributes}
use Rattle.bgp_attr.specs.Slots.{Values, values_of}
use Rattle.bgp_attr.specs.Told.{TellsValues, IsRead, reach_in, unreach_in}
use Rattle.bgp_attr.proofs.FaultLaws.{one_list}
use Rattle.bgp_update.specs.Layout.{IsLaidOut}
use Rattle.bgp_update.specs.Update.{SpellsBoth, HasMandatory, TellsOrigin, IsUpdate, route_origin, aggregators_in}
use Rattle.bgp_update.specs.View.{both_in, AreFields}
use Rattle.bgp_update.proofs.LayoutLaws.{one_layout}
use Rattle.bgp_update.proofs.OriginLaws.{one_origin}

-- two fields that spell prefixes are well formed
pub fields_of : (ipv4 ipv6 : List ℕ) → ((ps : List Block) × SpellsPrefixes V4 ipv4 ps)
    → ((ps : List Block) × SpellsPrefixes V6 ipv6 ps) → AreFields ipv4 ipv6
fields_of ipv4 ipv6 first second =
    record { front = spelled_in V4 ipv4 first.0 first.1; back = spelled_in V6 ipv6 second.0 second.1 }

-- well formed fields spell the prefixes in them
pub both_spelled : (ipv4 ipv6 : List ℕ) (prefixes : List Block) → AreFields ipv4 ipv6 → prefixes ≡ both_in ipv4 ipv6
    → SpellsBoth ipv4 ipv6 prefixes
both_spelled ipv4 ipv6 prefixes fields same =
    record {
      front = prefixes_in V4 ipv4;
      back = prefixes_in V6 ipv6;
      spells_front = fields.front;
      spells_back = fields.back;
      joined = same;
    }

-- what two fields spell are the prefixes in them
spelled_both : (ipv4 ipv6 : List ℕ) (prefixes : List Block) → SpellsBoth ipv4 ipv6 prefixes
    → prefixes ≡ both_in ipv4 ipv6
spelled_both ipv4 ipv6 prefixes s =
    s.joined
    ∙ ap (λ ps. ps ++ s.back) (sym (in_spelled V4 ipv4 s.front s.spells_front))
    ∙ ap (λ ps. prefixes_in V4 ipv4 ++ ps) (sym (in_spelled V6 ipv6 s.back s.spells_back))

both_once : (a b c d : List ℕ) (ps qs : List Block) → a ≡ c → b ≡ d → SpellsBoth a b ps → SpellsBoth c d qs → ps ≡ qs
both_once a b c d ps qs same_front same_back first second =
    spelled_both a b ps first ∙ ap (λ x. both_in x b) same_front ∙ ap (λ y. both_in c y) same_back
    ∙ sym (spelled_both c d qs second)

same_update : (u v : RouteUpdate) → u.withdrawn ≡ v.withdrawn → u.announced ≡ v.announced → u.origin ≡ v.origin → u ≡ v
same_update u v same_withdrawn same_announced same_origin =
    let make : List Block → List Block → Option ℕ
    → RouteUpdate = λ w a o. record { withdrawn = w; announced = a; origin = o } in
    ap (λ w. make w u.announced u.origin) same_withdrawn ∙ ap (λ a. make v.withdrawn a u.origin) same_announced
    ∙ ap (λ o. make v.withdrawn v.announced o) same_origin

-- a body is one UPDATE
pub one_update : (width : Width) (v6 : Bool) (body : List ℕ) (u v : RouteUpdate) → IsUpdate width v6 body u
    → IsUpdate width v6 body v → u ≡ v
one_update width v6 body u v a b =
    let fields = one_layout body a.withdrawn a.field a.nlri b.withdrawn b.field b.nlri a.laid_out b.laid_out in
    let good = subst (λ (f : List ℕ). AreAttributes width v6 f a.attributes) fields.same_field a.good in
    let list : a.attributes ≡ b.attributes = one_list width v6 b.field a.attributes b.attributes good b.good in
    let origin = subst (λ (xs : List Attribute). TellsOrigin width (values_of xs) u.origin) list a.origin in
    same_update u v
    (both_once a.withdrawn _ b.withdrawn _ u.withdrawn v.withdrawn fields.same_withdrawn
    (ap (λ xs. unreach_in v6 (values_of xs).unreach) list) a.withdraws b.withdraws)
    (both_once a.nlri _ b.nlri _ u.announced v.announced fields.same_nlri
    (ap (λ xs. reach_in v6 (values_of xs).reach) list) a.announces b.announces)
    (one_origin width (values_of b.attributes) u.origin v.origin origin b.origin)

same_aggregators : (a b : Aggregators) → a.own ≡ b.own → a.four ≡ b.four → a ≡ b
same_aggregators a b own four =
    let make : Option ℕ → Option ℕ → Aggregators = λ o f. record { own = o; four = f } in
    ap (λ o. make o a.four) own ∙ ap (λ f. make b.own f) four

told_origin : (width : Width) (v6 : Bool) (held : Values) (attrs : Attrs) (o : Option ℕ)
    → TellsValues width v6 held attrs → o ≡ route_origin attrs.path attrs.as4 attrs.aggregators
    → TellsOrigin width held o
told_origin width v6 held attrs o tells same = record {
  path = attrs.path;
  four = attrs.as4;
  tells_path = tells.path;
  tells_four = tells.as4;
  value = same
      ∙ ap (route_origin attrs.path attrs.as4)
      (same_aggregators attrs.aggregators (aggregators_in width held) tells.own tells.four);
}

-- what is found in the fields of a body makes an UPDATE
pub record AreFound (width : Width) (v6 : Bool) (withdrawn field nlri : List ℕ) (attrs : Attrs)
    (update : RouteUpdate) : Type 0 where
  pub read : IsRead width v6 field attrs
  pub mandatory : HasMandatory v6 nlri (values_of read.attributes)
  pub withdraws : AreFields withdrawn attrs.unreach.now
  pub announces : AreFields nlri attrs.reach.now
  pub same_withdrawn : update.withdrawn ≡ both_in withdrawn attrs.unreach.now
  pub same_announced : update.announced ≡ both_in nlri attrs.reach.now
  pub same_origin : update.origin ≡ route_origin attrs.path attrs.as4 attrs.aggregators

pub found_update : (width : Width) (v6 : Bool) (body w f n : List ℕ) (attrs : Attrs) (u : RouteUpdate)
    → IsLaidOut body w f n → AreFound width v6 w f n attrs u → IsUpdate width v6 body u
found_update width v6 body w f n attrs u laid found =
    let held = values_of found.read.attributes in
    let tells : TellsValues width v6 held attrs = found.read.tells in
    record {
      withdrawn = w;
      field = f;
      nlri = n;
      laid_out = laid;
      attributes = found.read.attributes;
      good = found.read.good;
      mandatory = found.mandatory;
      withdraws =
          subst (λ (t : List ℕ). SpellsBoth w t u.withdrawn) tells.unreach
          (both_spelled w attrs.unreach.now u.withdrawn found.withdraws found.same_withdrawn);
      announces =
          subst (λ (t : List ℕ). SpellsBoth n t u.announced) tells.reach
          (both_spelled n attrs.reach.now u.announced found.announces found.same_announced);
      origin = told_origin width v6 held attrs u.origin tells found.same_origin;
    }
