use Rattle.std.proofs.Common.{◌≡◌, ◌<◌, ◌^◌, true, subst, sym, arith}
use Rattle.ip_text.specs.Numbers.{StartsWell}
use Rattle.ip_text.proofs.Decimals.{starts_decimal, number_found, number_only}
use Rattle.ip_text.proofs.numbers.read_number.Goals as goal

pub returns-then-not-starts_well-clause-only : goal.returns-then-not-starts_well-clause-only
returns-then-not-starts_well-clause-only c n within is =
    let small : n < 2 ^ 64 = omega (arith, c.ranges.most.fits) in
    let well : c.starts_well.result ≡ true =
    c.starts_well.ensures.1 (subst StartsWell (sym is) (starts_decimal n small)) in
    let not_well = c.if-not-starts_well.true in
    cc

pub returns-clause-found : goal.returns-clause-found
returns-clause-found c =
    number_found c.args.text.now c.args.most c.value_of.result c.value_of.ensures
    (c.starts_well.ensures.0 c.if-not-starts_well.false) c.ranges.most.fits

pub returns-clause-only : goal.returns-clause-only
returns-clause-only c = number_only c.args.text.now c.args.most c.value_of.result c.value_of.ensures c.ranges.most.fits
