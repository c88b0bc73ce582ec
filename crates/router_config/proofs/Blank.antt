-- A blank text is a document without members, which breaks a rule.
use Rattle.std.proofs.Common.{◌≡◌, ℕ, List, Some, None, refl, sym, subst, ◌∙◌}
use Rattle.toml.specs.Data.{Members, table, no_members}
use Rattle.toml.specs.Errors.{IsBlank}
use Rattle.toml.specs.Parse.{lines, parse_document}
use Rattle.router_config.specs.Rules.{first_broken, rules}

blank_document : (text : List ℕ) → IsBlank text → parse_document text ≡ Some no_members
unfolding parse_document lines
blank_document text blank = rw blank refl

no_interfaces : first_broken (rules (table no_members)) ≡ None → ⊥
no_interfaces kept = absurd cc

-- so a text with a document that breaks no rule is not blank
pub kept_not_blank : (text : List ℕ) (members : Members) → parse_document text ≡ Some members
    → first_broken (rules (table members)) ≡ None → ¬ (IsBlank text)
kept_not_blank text members parsed kept blank =
    let both = sym (blank_document text blank) ∙ parsed in
    let same : no_members ≡ members = cc in
    no_interfaces (subst (λ m. first_broken (rules (table m)) ≡ None) (sym same) kept)
