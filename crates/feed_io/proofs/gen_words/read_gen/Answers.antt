use Rattle.std.proofs.Common.{◌≡◌, ◌∷◌, None, Some, ap, ◌∙◌, arith, decimal}
use Rattle.feed_io.proofs.GenWords.{seed_lacks, joined, same_spec}
use Rattle.feed_io.proofs.gen_words.read_gen.Goals as goal

pub returns-in_default-cut-clause-only : goal.returns-in_default-cut-clause-only
returns-in_default-cut-clause-only c spec is =
    absurd (c.in_default-cut.ensures.only (decimal spec.seed) (decimal spec.count) (seed_lacks spec.seed is.seed)
    (c.in-Some.ensures.only _ is.parts))

pub returns-in_default-read_number-clause-only : goal.returns-in_default-read_number-clause-only
returns-in_default-read_number-clause-only c spec is =
    let cut = c.in-Some-cut.ensures.only (decimal spec.seed) (decimal spec.count) (seed_lacks spec.seed is.seed)
    (c.in-Some.ensures.only _ is.parts) in
    let read : None ≡ Some spec.seed = c.in_default-read_number.ensures.only spec.seed is.seed cut.0 in
    cc

pub returns-in_default-read_number-2-clause-only : goal.returns-in_default-read_number-2-clause-only
returns-in_default-read_number-2-clause-only c spec is =
    let cut = c.in-Some-cut.ensures.only (decimal spec.seed) (decimal spec.count) (seed_lacks spec.seed is.seed)
    (c.in-Some.ensures.only _ is.parts) in
    let read : None ≡ Some spec.count = c.in_default-read_number-2.ensures.only spec.count is.count cut.1 in
    cc

pub returns-then-count-eq0-clause-only : goal.returns-then-count-eq0-clause-only
returns-then-count-eq0-clause-only c spec is =
    let cut = c.in-Some-cut.ensures.only (decimal spec.seed) (decimal spec.count) (seed_lacks spec.seed is.seed)
    (c.in-Some.ensures.only _ is.parts) in
    let read : Some c.in-Some-read_number-2.count ≡ Some spec.count =
    c.in-Some-read_number-2.ensures.only spec.count is.count cut.1 in
    let same : c.in-Some-read_number-2.count ≡ spec.count = cc in
    absurd (omega (arith, same, is.some, c.if-count-eq0.true))

pub returns-clause-found : goal.returns-clause-found
returns-clause-found c =
    let seed = c.in-Some-read_number.ensures.found in
    let count = c.in-Some-read_number-2.ensures.found in
    record {
      seed = seed.0;
      some = omega (arith, c.if-count-eq0.false);
      count = count.0;
      parts = c.in-Some.ensures.found ∙ ap (λ xs. 103 ∷ 101 ∷ 110 ∷ 58 ∷ xs)
          (joined c.in-Some.numbers.now _ _ _ _ c.in-Some-cut.ensures.found seed.1 count.1);
    }

pub returns-clause-only : goal.returns-clause-only
returns-clause-only c spec is =
    let cut = c.in-Some-cut.ensures.only (decimal spec.seed) (decimal spec.count) (seed_lacks spec.seed is.seed)
    (c.in-Some.ensures.only _ is.parts) in
    same_spec spec _ _ (c.in-Some-read_number.ensures.only spec.seed is.seed cut.0)
    (c.in-Some-read_number-2.ensures.only spec.count is.count cut.1)
