-- Blocks of addresses: their halves, and the blocks in them.
use Rattle.std.proofs.Common.{◌≡◌, inl, inr, ℕ, ◌+◌, ◌-◌, ◌*◌, ◌/◌, ◌^◌, ◌<◌, ◌≤◌, refl, sym, ap, subst, ◌∙◌, arith}
use Rattle.std.proofs.lemmas.Bool.{cases_eq}
use Rattle.std.proofs.Math.Nat.{lt_of_mul-lt-mul_right, mul-le-mul_right}
use Rattle.std.proofs.lemmas.Nat.{pow_pos, pow-add, shl-shr}
use Rattle.urpf_base.specs.Address.{cleared}
use Rattle.cover_table.specs.declared.nodes.Entry.{Entry}
use Rattle.cover_table.specs.Trees.{IsWithin, size}

pub size_is : (w len : ℕ) → size w len ≡ 2 ^ (w - len)
unfolding size
size_is w len = refl

pub size_some : (w len : ℕ) → 0 < size w len
unfolding size
size_some w len = pow_pos (w - len)

-- a block is as large as the blocks in it are together
pub size_of_parts : (w d len : ℕ) → d ≤ len → len ≤ w → size w d ≡ 2 ^ (len - d) * size w len
unfolding size
size_of_parts w d len deeper within =
    let both : w - d ≡ (len - d) + (w - len) = omega arith in
    ap (λ k. 2 ^ k) both ∙ pow-add 2 (len - d) (w - len)

pub two_halves : (w d : ℕ) → d < w → size w d ≡ size w (d + 1) + size w (d + 1)
two_halves w d more =
    let parts : size w d ≡ 2 ^ (d + 1 - d) * size w (d + 1) = size_of_parts w d (d + 1) (omega arith) (omega arith) in
    let one : d + 1 - d ≡ 1 = omega arith in
    parts ∙ ap (λ k. 2 ^ k * size w (d + 1)) one ∙ (omega arith)

pub larger : (w d len : ℕ) → d ≤ len → len ≤ w → size w len ≤ size w d
larger w d len deeper within =
    let parts = size_of_parts w d len deeper within in
    let some : 1 ≤ 2 ^ (len - d) = pow_pos (len - d) in
    let least : 1 * size w len ≤ 2 ^ (len - d) * size w len = mul-le-mul_right (size w len) some in
    omega arith

-- a number that is so many blocks
pub from_parts : (w len a m : ℕ) → a ≡ m * size w len → cleared w len a ≡ a
unfolding size
from_parts w len a m is =
    ap (λ x. x / 2 ^ (w - len) * 2 ^ (w - len)) is ∙ ap (λ x. x * 2 ^ (w - len)) (shl-shr m (w - len)) ∙ sym is

pub in_parts : (w len a : ℕ) → cleared w len a ≡ a → a ≡ a / size w len * size w len
unfolding size
in_parts w len a zeros = sym zeros

module _ (w d len low : ℕ) (deeper : d < len) (within : len ≤ w) (zeros : cleared w d low ≡ low) where
  abbrev m : ℕ
  m = low / size w d * 2 ^ (len - d)

  low_parts : low ≡ m * size w len
  low_parts =
      in_parts w d low zeros
      ∙ ap (λ s. low / size w d * s) (size_of_parts w d len (omega arith) within)
      ∙ (omega arith)

  middle_parts : low + size w (d + 1) ≡ (m + 2 ^ (len - (d + 1))) * size w len
  middle_parts =
      let half = size_of_parts w (d + 1) len (omega arith) within in
      let own = low_parts in
      omega arith

  -- what begins below the middle ends there
  pub lower_half : (a : ℕ) → cleared w len a ≡ a → a < low + size w (d + 1)
      → a + size w len ≤ low + size w (d + 1)
  lower_half a own below =
      let c : ℕ = a / size w len in
      let n : ℕ = m + 2 ^ (len - (d + 1)) in
      let a_parts : a ≡ c * size w len = in_parts w len a own in
      let mid : low + size w (d + 1) ≡ n * size w len = middle_parts in
      let less : c * size w len < n * size w len = omega arith in
      let fewer : c < n = lt_of_mul-lt-mul_right (size w len) less in
      let most : (c + 1) * size w len ≤ n * size w len = mul-le-mul_right (size w len) (omega arith) in
      omega arith

-- the halves of a block begin with whole blocks
pub lower_zeros : (w d low : ℕ) → d < w → cleared w d low ≡ low → cleared w (d + 1) low ≡ low
lower_zeros w d low more zeros =
    from_parts w (d + 1) low (low / size w d * 2 ^ (d + 1 - d))
    (in_parts w d low zeros
    ∙ ap (λ s. low / size w d * s) (size_of_parts w d (d + 1) (omega arith) (omega arith))
    ∙ (omega arith))

pub upper_zeros : (w d low : ℕ) → d < w → cleared w d low ≡ low
    → cleared w (d + 1) (low + size w (d + 1)) ≡ low + size w (d + 1)
upper_zeros w d low more zeros =
    let q : ℕ = low / size w d in
    let own : low ≡ q * size w d = in_parts w d low zeros in
    let halves = two_halves w d more in
    let parts : q * size w d ≡ q * (size w (d + 1) + size w (d + 1)) = ap (λ s. q * s) halves in
    from_parts w (d + 1) (low + size w (d + 1)) (2 * q + 1) (omega arith)

-- what is within a half of a block is within the block
pub within_lower : (w low d : ℕ) (node entry : Entry) → IsWithin w low d node
    → IsWithin w node.bits (node.len + 1) entry → IsWithin w low d entry
within_lower w low d node entry outer inner =
    let more : node.len < w = omega (arith, inner.deeper, inner.within) in
    let halves = two_halves w node.len more in
    record {
      deeper = omega (arith, inner.deeper, outer.deeper);
      within = inner.within;
      from = omega (arith, inner.from, outer.from);
      to = omega (arith, inner.to, outer.to);
      zeros = inner.zeros;
    }

pub within_upper : (w low d : ℕ) (node entry : Entry) → IsWithin w low d node
    → IsWithin w (node.bits + size w (node.len + 1)) (node.len + 1) entry → IsWithin w low d entry
within_upper w low d node entry outer inner =
    let more : node.len < w = omega (arith, inner.deeper, inner.within) in
    let halves = two_halves w node.len more in
    record {
      deeper = omega (arith, inner.deeper, outer.deeper);
      within = inner.within;
      from = omega (arith, inner.from, outer.from);
      to = omega (arith, inner.to, outer.to);
      zeros = inner.zeros;
    }

-- a prefix of a block that is longer than the block is of one of its halves
pub into_lower : (w low d : ℕ) (entry : Entry) → IsWithin w low d entry → cleared w d low ≡ low → d < entry.len
    → entry.bits < low + size w (d + 1) → IsWithin w low (d + 1) entry
into_lower w low d entry inner zeros longer below = record {
  deeper = omega arith;
  within = inner.within;
  from = inner.from;
  to = lower_half w d entry.len low longer inner.within zeros entry.bits inner.zeros below;
  zeros = inner.zeros;
}

pub into_upper : (w low d : ℕ) (entry : Entry) → IsWithin w low d entry → d < entry.len
    → low + size w (d + 1) ≤ entry.bits → IsWithin w (low + size w (d + 1)) (d + 1) entry
into_upper w low d entry inner longer above =
    let halves = two_halves w d (omega (arith, inner.within)) in
    record {
      deeper = omega arith;
      within = inner.within;
      from = above;
      to = omega (arith, inner.to);
      zeros = inner.zeros;
    }

-- two prefixes of one block of which one begins behind the other are longer than the block
pub both_longer : (w low d : ℕ) (lower upper : Entry) → IsWithin w low d lower → IsWithin w low d upper
    → lower.bits + size w lower.len ≤ upper.bits → (d < lower.len) × (d < upper.len)
both_longer w low d lower upper inner_lower inner_upper apart = (
  elim (cases_eq lower.len d) [
    | inl same ↦
        let is = ap (size w) same in
        let some = size_some w upper.len in
        absurd (omega (arith, inner_lower.from, inner_upper.to))
    | inr other ↦ omega (arith, inner_lower.deeper)
  ],
  elim (cases_eq upper.len d) [
    | inl same ↦
        let is = ap (size w) same in
        let some = size_some w lower.len in
        absurd (omega (arith, inner_lower.from, inner_upper.to))
    | inr other ↦ omega (arith, inner_upper.deeper)
  ],
)

-- of two prefixes the one that begins first ends before the other begins, where that one is no longer
pub ends_before : (w : ℕ) (first second : Entry) → first.len ≤ w → cleared w first.len first.bits ≡ first.bits
    → second.len ≤ first.len → cleared w second.len second.bits ≡ second.bits → first.bits < second.bits
    → first.bits + size w first.len ≤ second.bits
ends_before w first second within zeros shorter zeros' less =
    let s : ℕ = size w first.len in
    let c : ℕ = first.bits / s in
    let q : ℕ = second.bits / size w second.len in
    let m : ℕ = q * 2 ^ (first.len - second.len) in
    let own : first.bits ≡ c * s = in_parts w first.len first.bits zeros in
    let parts : size w second.len ≡ 2 ^ (first.len - second.len) * s = size_of_parts w second.len first.len shorter within in
    let more : q * size w second.len ≡ q * (2 ^ (first.len - second.len) * s) = ap (λ x. q * x) parts in
    let other : second.bits ≡ q * size w second.len = in_parts w second.len second.bits zeros' in
    let whole : second.bits ≡ m * s = omega arith in
    let fewer : c * s < m * s = omega arith in
    let fewer' : c < m = lt_of_mul-lt-mul_right s fewer in
    let most : (c + 1) * s ≤ m * s = mul-le-mul_right s (omega arith) in
    omega arith

-- a block whose first address has 128 bits or fewer ends there
pub block_fits : (w len a : ℕ) → w ≤ 128 → cleared w len a ≡ a → a < 2 ^ 128 → a + size w len ≤ 2 ^ 128
unfolding size
block_fits w len a few zeros small =
    let k : ℕ = w - len in
    let q : ℕ = a / 2 ^ k in
    let rest : ℕ = 128 - k in
    let own : a ≡ q * 2 ^ k = sym zeros in
    let all : rest + k ≡ 128 = omega arith in
    let whole : 2 ^ 128 ≡ 2 ^ rest * 2 ^ k = sym (ap (λ i. 2 ^ i) all) ∙ pow-add 2 rest k in
    let less : q * 2 ^ k < 2 ^ rest * 2 ^ k = subst (λ x. x < 2 ^ rest * 2 ^ k) own (subst (λ x. a < x) whole small) in
    let fewer : q < 2 ^ rest = lt_of_mul-lt-mul_right (2 ^ k) less in
    let most : (q + 1) * 2 ^ k ≤ 2 ^ rest * 2 ^ k = mul-le-mul_right (2 ^ k) (omega arith) in
    let step : a + 2 ^ k ≡ (q + 1) * 2 ^ k = omega arith in
    subst (λ x. a + 2 ^ k ≤ x) (sym whole) (subst (λ x. x ≤ 2 ^ rest * 2 ^ k) (sym step) most)

-- half of a block
pub half_is : (w len : ℕ) → 2 ^ (w - len - 1) ≡ size w (len + 1)
unfolding size
half_is w len = let same : w - len - 1 ≡ w - (len + 1) = omega arith in ap (λ k. 2 ^ k) same

-- what a prefix covers of longer ones is within its block
pub covered_within : (w : ℕ) (outer inner : Entry) → outer.len ≤ inner.len → inner.len ≤ w
    → cleared w outer.len outer.bits ≡ outer.bits → cleared w inner.len inner.bits ≡ inner.bits
    → outer.bits ≤ inner.bits → inner.bits < outer.bits + size w outer.len
    → IsWithin w outer.bits outer.len inner
covered_within w outer inner deeper within zeros zeros' from below =
    let q : ℕ = outer.bits / size w outer.len in
    let own : outer.bits ≡ q * size w outer.len = in_parts w outer.len outer.bits zeros in
    let next : Entry = record outer { bits = outer.bits + size w outer.len } in
    let zeros'' : cleared w outer.len (outer.bits + size w outer.len) ≡ outer.bits + size w outer.len =
    from_parts w outer.len (outer.bits + size w outer.len) (q + 1) (omega arith) in
    record {
      deeper = deeper;
      within = within;
      from = from;
      to = ends_before w inner next within zeros' deeper zeros'' below;
      zeros = zeros';
    }

-- prefixes of one length that begin in one block are the same
pub same_bits : (w : ℕ) (a b : Entry) → a.len ≡ b.len → b.len ≤ w → cleared w a.len a.bits ≡ a.bits
    → cleared w b.len b.bits ≡ b.bits → a.bits ≤ b.bits → b.bits < a.bits + size w a.len → a.bits ≡ b.bits
same_bits w a b len within zeros zeros' from below =
    elim (cases_eq a.bits b.bits) [
      | inl same ↦ same
      | inr other ↦
          let ends = ends_before w a b (omega arith) zeros (omega arith) zeros' (omega arith) in absurd (omega arith)
    ]

-- how far the search for a fork has come: both prefixes are in the block, and each on its half where it is not the last
pub fork_longer : (w low d : ℕ) (lower upper : Entry) → IsWithin w low d lower → IsWithin w low d upper
    → lower.bits + size w lower.len ≤ upper.bits → d < w
fork_longer w low d lower upper a b apart =
    let longer = both_longer w low d lower upper a b apart in omega (arith, longer.0, a.within)

pub fork_fits : (w d low : ℕ) → d < w → w ≤ 128 → cleared w d low ≡ low → low < 2 ^ 128
    → low + 2 ^ (w - d - 1) < 2 ^ 128
fork_fits w d low more few whole small =
    let fits = block_fits w d low few whole small in
    let halves = two_halves w d more in
    let is = half_is w d in
    let some = size_some w (d + 1) in
    omega (arith, fits)

module _ (w low d : ℕ) (lower upper : Entry) (a : IsWithin w low d lower) (b : IsWithin w low d upper)
    (whole : cleared w d low ≡ low) (apart : lower.bits + size w lower.len ≤ upper.bits) where
  abbrev longer : (d < lower.len) × (d < upper.len)
  longer = both_longer w low d lower upper a b apart

  -- both are on the lower half
  pub fork_left : upper.bits < low + size w (d + 1)
      → IsWithin w low (d + 1) lower × IsWithin w low (d + 1) upper × (cleared w (d + 1) low ≡ low)
  fork_left below =
      let some = size_some w lower.len in (
        into_lower w low d lower a whole longer.0 (omega arith),
        into_lower w low d upper b whole longer.1 below,
        lower_zeros w d low (fork_longer w low d lower upper a b apart) whole,
      )

  -- both are on the upper half
  pub fork_right : low + size w (d + 1) ≤ lower.bits
      → IsWithin w (low + size w (d + 1)) (d + 1) lower × IsWithin w (low + size w (d + 1)) (d + 1) upper
      × (cleared w (d + 1) (low + size w (d + 1)) ≡ low + size w (d + 1))
  fork_right above =
      let some = size_some w lower.len in (
        into_upper w low d lower a longer.0 above,
        into_upper w low d upper b longer.1 (omega arith),
        upper_zeros w d low (fork_longer w low d lower upper a b apart) whole,
      )

  pub fork_lower : lower.bits < low + size w (d + 1) → IsWithin w low (d + 1) lower
  fork_lower below = into_lower w low d lower a whole longer.0 below

  pub fork_upper : low + size w (d + 1) ≤ upper.bits → IsWithin w (low + size w (d + 1)) (d + 1) upper
  fork_upper above = into_upper w low d upper b longer.1 above

-- what is within a part of the block is within it
pub in_lower : (w low d : ℕ) (entry : Entry) → d < w → IsWithin w low (d + 1) entry → IsWithin w low d entry
in_lower w low d entry more inner =
    let halves = two_halves w d more in
    record {
      deeper = omega (arith, inner.deeper);
      within = inner.within;
      from = inner.from;
      to = omega (arith, inner.to);
      zeros = inner.zeros;
    }

pub in_upper : (w low d : ℕ) (entry : Entry) → d < w → IsWithin w (low + size w (d + 1)) (d + 1) entry
    → IsWithin w low d entry
in_upper w low d entry more inner =
    let halves = two_halves w d more in
    record {
      deeper = omega (arith, inner.deeper);
      within = inner.within;
      from = omega (arith, inner.from);
      to = omega (arith, inner.to);
      zeros = inner.zeros;
    }
