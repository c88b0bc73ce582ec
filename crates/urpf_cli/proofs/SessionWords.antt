-- A word that begins with `mrt:` is that of a session exactly where it spells a recording and a peer.
use Rattle.std.proofs.Common.{◌≡◌, ◌↔◌, ℕ, List, [], ◌∷◌, Option, Some, None, IfSome, IsTrue, is_some, ap, refl, sym, ◌∙◌, arith}
use Rattle.mrt_feed.specs.Words.{SpellsMrt}
use Rattle.mrt_feed.specs.declared.words.MrtSpec.{MrtSpec}
use Rattle.urpf_cli.specs.Words.{IsSessionWord}

first : List ℕ → ℕ
first [] = 0
first (octet ∷ rest) = octet

firsts : (word rest other : List ℕ) → word ≡ 109 ∷ rest → word ≡ other → first other ≡ 109
unfolding first
firsts word rest other is also = ap first (sym also ∙ is)

mrt_fits : (word rest : List ℕ) → word ≡ 109 ∷ rest → (spec : MrtSpec) → SpellsMrt word spec → IsSessionWord word
unfolding first
mrt_fits word rest is spec spells = (
  (λ empty. omega (arith, firsts word rest [] is empty), λ colon. omega (arith, firsts word rest (58 ∷ []) is colon)),
  λ gen. absurd (omega (arith, firsts word rest (103 ∷ 101 ∷ 110 ∷ 58 ∷ gen.0) is gen.1)),
  λ mrt. (spec, spells),
)

pub mrt_decides : (word rest : List ℕ) → word ≡ 109 ∷ 114 ∷ 116 ∷ 58 ∷ rest → (found : Option MrtSpec)
    → IfSome found (SpellsMrt word) → ((spec : MrtSpec) → SpellsMrt word spec → found ≡ Some spec)
    → IsTrue (is_some found) ↔ IsSessionWord word
mrt_decides word rest is None spelled only = (
  λ yes. absurd cc,
  λ fits. let spec = fits.2 (rest, is) in let none = only spec.0 spec.1 in absurd cc,
)
mrt_decides word rest is (Some spec) spelled only = (
  λ yes. mrt_fits word (114 ∷ 116 ∷ 58 ∷ rest) is spec spelled,
  λ fits. refl,
)
