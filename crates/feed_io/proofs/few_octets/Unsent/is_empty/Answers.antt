use Rattle.std.proofs.Common.{◌≡◌, ◌≤◌, ℕ, List, [], length, drop, ap, arith, length-drop, eqb-true, eq-eqb}
use Rattle.std.proofs.lemmas.List.{drop_all}
use Rattle.feed_io.proofs.few_octets.Unsent.is_empty.Goals as goal

none_left : (at : ℕ) (xs ys : List ℕ) → at ≡ length ys → ys ≡ xs → drop at xs ≡ []
none_left at xs ys is same = drop_all at xs (omega (arith, is, ap length same))

all_given : (at : ℕ) (xs ys : List ℕ) → at ≤ length xs → ys ≡ xs → drop at xs ≡ [] → at ≡ length ys
all_given at xs ys within same none = omega (arith, within, ap length same, ap length none, length-drop at xs)

pub returns : goal.returns
returns c =
    let inside = c.self.inside in
    let same = c.octets.ensures.octets in
    rw (← c.self.view_is) (
      λ yes. none_left inside.at inside.octets c.octets.result.now (eqb-true _ _ yes) same,
      λ none. eq-eqb inside.at (length c.octets.result.now)
          (all_given inside.at inside.octets c.octets.result.now c.self.invariant same none),
    )
