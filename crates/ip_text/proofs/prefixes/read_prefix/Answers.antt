use Rattle.std.proofs.Common.{◌≡◌, ℕ, ◌≤◌, List, Option, Some, None, ap, sym, subst, ◌∙◌, arith}
use Rattle.std.specs.Prelude.{decimal}
use Rattle.std.specs.Option.{SomeIff}
use Rattle.urpf_base.specs.Address.{Block, block_of, width_of}
use Rattle.urpf_base.specs.declared.address.Addr.{Addr}
use Rattle.ip_text.specs.Texts.{SpellsAddr}
use Rattle.ip_text.proofs.PrefixTexts.{width_small}
use Rattle.ip_text.proofs.Slashes.{addr_lacks_slash}
use Rattle.ip_text.proofs.prefixes.read_prefix.Goals as goal

some_made : (made : Option Block) (len : ℕ) (a : Addr) → SomeIff made (len ≤ width_of a) (block_of len a)
    → len ≤ width_of a → made ≡ Some (block_of len a)
some_made None len a is within = absurd (is within)
some_made (Some x) len a is within = ap Some is.1

made_of : (made : Option Block) (len m : ℕ) (a b : Addr) → SomeIff made (len ≤ width_of a) (block_of len a)
    → len ≡ m → a ≡ b → m ≤ width_of b → made ≡ Some (block_of m b)
made_of made len m a b is same_len same_addr within =
    some_made made m b (subst (λ (n : ℕ). SomeIff made (n ≤ width_of b) (block_of n b)) same_len
    (subst (λ (x : Addr). SomeIff made (len ≤ width_of x) (block_of len x)) same_addr is)) within

pub returns-in_default-clause-only : goal.returns-in_default-clause-only
returns-in_default-clause-only c prefix is =
    absurd (c.in_default.ensures.only is.front (decimal is.len) (addr_lacks_slash is.front is.addr is.spelled) is.parts)

pub returns-in_default-read_addr-clause-only : goal.returns-in_default-read_addr-clause-only
returns-in_default-read_addr-clause-only c prefix is =
    let lacks = addr_lacks_slash is.front is.addr is.spelled in
    let cut = c.in-Some.ensures.only is.front (decimal is.len) lacks is.parts in
    let read : None ≡ Some is.addr =
    c.in_default-read_addr.ensures.only is.addr (subst (λ (t : List ℕ). SpellsAddr t is.addr) (sym cut.0) is.spelled) in
    cc

pub returns-in_default-read_number-clause-only : goal.returns-in_default-read_number-clause-only
returns-in_default-read_number-clause-only c prefix is =
    let lacks = addr_lacks_slash is.front is.addr is.spelled in
    let cut = c.in-Some.ensures.only is.front (decimal is.len) lacks is.parts in
    let read : None ≡ Some is.len =
    c.in_default-read_number.ensures.only is.len (omega (arith, is.within, width_small is.addr)) cut.1 in
    cc

pub returns-clause-only : goal.returns-clause-only
returns-clause-only c prefix is =
    let lacks = addr_lacks_slash is.front is.addr is.spelled in
    let cut = c.in-Some.ensures.only is.front (decimal is.len) lacks is.parts in
    let addr_read : Some c.in-Some-read_addr.addr ≡ Some is.addr =
    c.in-Some-read_addr.ensures.only is.addr (subst (λ (t : List ℕ). SpellsAddr t is.addr) (sym cut.0) is.spelled) in
    let len_read : Some c.in-Some-read_number.len ≡ Some is.len =
    c.in-Some-read_number.ensures.only is.len (omega (arith, is.within, width_small is.addr)) cut.1 in
    let addr_same : c.in-Some-read_addr.addr ≡ is.addr = cc in
    let len_same : c.in-Some-read_number.len ≡ is.len = cc in
    made_of _ _ is.len _ is.addr c.new.ensures len_same addr_same is.within ∙ ap Some (sym is.value)
