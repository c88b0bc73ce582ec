-- Attributes tell one origin.
use Rattle.std.proofs.Common.{◌≡◌, ◌⊎◌, inl, inr, ℕ, List, [], ◌∷◌, length, Option, Some, None, refl, ap, sym, ◌∙◌}
use Rattle.std.proofs.Common.{arith}
use Rattle.std.specs.Option.{ForSome}
use Rattle.urpf_base.proofs.Series.{one_series}
use Rattle.as_path.specs.declared.widths.Width.{Width}
use Rattle.as_path.specs.declared.widths.Width.TheVariants.{Two, Four}
use Rattle.as_path.specs.Front.{segment_front}
use Rattle.as_path.specs.Path.{Segment, IsPath}
use Rattle.as_path.proofs.PathLaws.{segment_reads}
use Rattle.bgp_attr.specs.Slots.{Values}
use Rattle.bgp_attr.specs.Table.{IsAsPath}
use Rattle.bgp_attr.specs.Told.{TellsPath, TellsAs4Path, TellsAs4}
use Rattle.bgp_attr.proofs.DecideLaws.{series}
use Rattle.bgp_update.specs.Update.{TellsOrigin, route_origin, aggregators_in}

one_path : (width : Width) (value : List ℕ) (xs ys : List Segment) → IsPath width value xs → IsPath width value ys
    → xs ≡ ys
one_path width value xs ys first second =
    one_series (segment_front width) (segment_reads width) value xs ys first second

path_once : (width : Width) (value : Option (List ℕ)) (p q : Option (List Segment)) → TellsPath width value p
    → TellsPath width value q → p ≡ q
path_once width None None None first second = refl
path_once width None None (Some ys) first second = absurd second
path_once width None (Some xs) q first second = absurd first
path_once width (Some value) None q first second = absurd first
path_once width (Some value) (Some xs) None first second = absurd second
path_once width (Some value) (Some xs) (Some ys) first second =
    ap (λ s. Some s) (one_path width value xs ys first second)

four_once : (value : List ℕ) (p q : Option (List Segment)) → TellsAs4Path value p → TellsAs4Path value q → p ≡ q
four_once value None None first second = refl
four_once value None (Some ys) first second = absurd (first ys second.0 second.1)
four_once value (Some xs) None first second = absurd (second xs first.0 first.1)
four_once value (Some xs) (Some ys) first second = ap (λ s. Some s) (one_path Four value xs ys first.1 second.1)

as4_once : (width : Width) (value : Option (List ℕ)) (p q : Option (List Segment)) → TellsAs4 width value p
    → TellsAs4 width value q → p ≡ q
as4_once Four value p q first second = first ∙ sym second
as4_once Two None p q first second = first ∙ sym second
as4_once Two (Some value) p q first second = four_once value p q first second

-- no two origins are told
pub one_origin : (width : Width) (held : Values) (o q : Option ℕ) → TellsOrigin width held o → TellsOrigin width held q
    → o ≡ q
one_origin width held o q a b =
    a.value
    ∙ ap (λ p. route_origin p a.four (aggregators_in width held))
    (path_once width held.path a.path b.path a.tells_path b.tells_path)
    ∙ ap (λ f. route_origin b.path f (aggregators_in width held))
    (as4_once width held.as4 a.four b.four a.tells_four b.tells_four)
    ∙ sym b.value

some_path : (width : Width) (value : Option (List ℕ)) → ForSome value (IsAsPath width)
    → (path : Option (List Segment)) × TellsPath width value path
some_path width None fit = (None, tt)
some_path width (Some value) fit = let s = fit value refl in (Some s.0, s.1)

four_at : (value : List ℕ) → ((xs : List Segment) × IsPath Four value xs)
    ⊎ ((xs : List Segment) × IsPath Four value xs → ⊥) → (four : Option (List Segment)) × TellsAs4Path value four
four_at value (inl ([], spelled)) =
    (None, λ xs some is. omega (arith, some, ap length (one_path Four value xs [] is spelled)))
four_at value (inl (s ∷ xs, spelled)) = (Some (s ∷ xs), (omega arith, spelled))
four_at value (inr never) = (None, λ xs some is. never (xs, is))

some_as4 : (width : Width) (value : Option (List ℕ)) → (four : Option (List Segment)) × TellsAs4 width value four
some_as4 Four value = (None, refl)
some_as4 Two None = (None, refl)
some_as4 Two (Some value) = four_at value (series (segment_front Four) (segment_reads Four) value)

-- an origin is told where AS_PATH is well formed
pub some_origin : (width : Width) (held : Values) → ForSome held.path (IsAsPath width)
    → (o : Option ℕ) × TellsOrigin width held o
some_origin width held fit =
    let path = some_path width held.path fit in
    let four = some_as4 width held.as4 in
    (_, record { path = path.0; four = four.0; tells_path = path.1; tells_four = four.1; value = refl })
