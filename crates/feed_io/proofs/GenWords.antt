-- The words that name a generator are cut at their second colon, and nowhere else.
use Rattle.std.proofs.Common.{◌≡◌, ℕ, ◌≤◌, List, ◌∷◌, ◌++◌, Some, ap, ◌∙◌, arith, decimal}
use Rattle.std.specs.Str.Iter.{LacksByte}
use Rattle.ip_text.proofs.Decimals.{decimal_lacks}
use Rattle.feed_io.specs.declared.gen_words.GenSpec.{GenSpec}

-- no colon stands in a seed
pub seed_lacks : (seed : ℕ) → seed ≤ 65535 → LacksByte 58 (decimal seed)
seed_lacks seed within = decimal_lacks seed 58 (omega (arith, within)) (λ digit. omega arith)

-- the seed and the count make the whole
pub joined : (text front rest : List ℕ) (seed count : ℕ) → text ≡ front ++ (58 ∷ rest) → front ≡ decimal seed
    → rest ≡ decimal count → text ≡ decimal seed ++ (58 ∷ decimal count)
joined text front rest seed count parts fronts rests =
    parts ∙ ap (λ xs. xs ++ (58 ∷ rest)) fronts ∙ ap (λ xs. decimal seed ++ (58 ∷ xs)) rests

abbrev spec_of : ℕ → ℕ → GenSpec
spec_of seed count = record { seed = seed; count = count }

-- a seed and a count are the whole of what a word spells
pub same_spec : (spec : GenSpec) (seed count : ℕ) → Some seed ≡ Some spec.seed → Some count ≡ Some spec.count
    → Some (spec_of seed count) ≡ Some spec
same_spec spec seed count seeds counts =
    let e : seed ≡ spec.seed = cc in
    let n : count ≡ spec.count = cc in
    ap (λ s. Some (spec_of s count)) e ∙ ap (λ k. Some (spec_of spec.seed k)) n
