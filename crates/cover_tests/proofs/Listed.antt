-- Changes that come before a prefix, one by one.
use Rattle.std.proofs.Common.{◌≡◌, ℕ, ◌+◌, ◌<◌, ◌≤◌, true, List, ◌∷◌, length, get_or, drop, refl, sym, subst, ◌∙◌}
use Rattle.std.proofs.lemmas.List.{drop_all, drop_more}
use Rattle.std.specs.Ordering.{is_lt}
use Rattle.std.specs.declared.cmp.Ordering.{Ordering}
use Rattle.std.specs.declared.cmp.Ordering.TheVariants.{Less, Equal, Greater}
use Rattle.urpf_base.specs.Address.{Block}
use Rattle.urpf_base.specs.Cells.{AllBefore}
use Rattle.urpf_base.specs.Order.{IsBefore}
use Rattle.urpf_base.specs.declared.cells.CellChange.{CellChange}

pub is_less : (o : Ordering) → is_lt o ≡ true → o ≡ Less
is_less Less e = refl
is_less Equal e = cc
is_less Greater e = cc

-- where the next comes before the prefix, what is left are those behind it
pub next_before : (changes : List CellChange) (i : ℕ) (change : CellChange) (prefix : Block) → i < length changes
    → change ≡ get_or changes i change → IsBefore change.prefix prefix
    → (AllBefore (drop i changes) prefix → AllBefore changes prefix)
    → AllBefore (drop (i + 1) changes) prefix → AllBefore changes prefix
next_before changes i change prefix within is before so_far left =
    let next : drop i changes ≡ change ∷ drop (i + 1) changes =
    drop_more changes i change within ∙ (λ k. sym is k ∷ drop (i + 1) changes) in
    so_far (subst (λ (xs : List CellChange). AllBefore xs prefix) (sym next) (before, left))

pub none_left : (changes : List CellChange) (i : ℕ) (prefix : Block) → length changes ≤ i
    → (AllBefore (drop i changes) prefix → AllBefore changes prefix) → AllBefore changes prefix
none_left changes i prefix past so_far =
    so_far (subst (λ (xs : List CellChange). AllBefore xs prefix) (sym (drop_all i changes past)) tt)
