use Rattle.router_config.proofs.Views.{as_tables-some, as_tables-none}
use Rattle.router_config.proofs.documents.as_tables.Goals as goal

pub returns-then-not-are_tables : goal.returns-then-not-are_tables
returns-then-not-are_tables c =
    rw c.in-Array.is
    (as_tables-none c.in-Array.array _ _ c.deref.ensures.value c.are_tables.ensures c.if-not-are_tables.true)

pub returns : goal.returns
returns c =
    rw (c.in-Array.is, c.deref-2.ensures.value)
    (as_tables-some c.in-Array.array _ _ c.deref.ensures.value c.are_tables.ensures c.if-not-are_tables.false)
