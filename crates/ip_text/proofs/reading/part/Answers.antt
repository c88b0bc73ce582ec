use Rattle.std.proofs.Common.{ℕ, ◌≡◌, ◌<◌, Some, None, decimal, arith}
use Rattle.std.specs.Str.Iter.{LacksByte}
use Rattle.ip_text.proofs.Decimals.{decimal_lacks}
use Rattle.ip_text.proofs.reading.part.Goals as goal

lacks_dot : (n : ℕ) → n < 256 → LacksByte 46 (decimal n)
lacks_dot n small = decimal_lacks n 46 (omega arith) (λ within. omega arith)

pub returns-in_default-clause-only : goal.returns-in_default-clause-only
returns-in_default-clause-only c n rest small parts =
    c.in_default.ensures.only (decimal n) rest (lacks_dot n small) parts

pub returns-in_default-octet-clause-only : goal.returns-in_default-octet-clause-only
returns-in_default-octet-clause-only c n rest small parts =
    let cut = c.in-Some.ensures.only (decimal n) rest (lacks_dot n small) parts in
    let read : None ≡ Some n = c.in_default-octet.ensures.only n small cut.0 in
    cc

pub returns-clause-only : goal.returns-clause-only
returns-clause-only c n rest small parts =
    let cut = c.in-Some.ensures.only (decimal n) rest (lacks_dot n small) parts in
    let read : Some c.in-Some-octet.number ≡ Some n = c.in-Some-octet.ensures.only n small cut.0 in
    (cc, cut.1)
