-- A text is taken or refused for one thing.
use Rattle.std.proofs.Common.{◌≡◌, ℕ, ◌≤◌, List, length, refl, ap, arith}
use Rattle.urpf_cli.specs.TextRefusals.{IsTextRefused}
use Rattle.urpf_cli.specs.declared.refusals.TextRefusal.{TextRefusal}
use Rattle.urpf_cli.specs.declared.refusals.TextRefusal.TheVariants.{ReadFault, TooLong, Bad, OutOfMemory}

module _ {F : Type 0} (limit : ℕ) (HasFault : F → Type 0) (text : List ℕ) where
  -- a text that is short enough and has no fault is not refused
  pub not_refused : length text ≤ limit → ((fault : F) → HasFault fault → ⊥) → (r : TextRefusal F)
      → IsTextRefused limit HasFault text r → ⊥
  not_refused short well ReadFault refused = refused
  not_refused short well TooLong refused = omega (arith, short, refused)
  not_refused short well (Bad fault) refused = well fault refused.1
  not_refused short well OutOfMemory refused = refused

  -- where there is at most one fault, a text is refused for one thing
  pub one_text_refusal : ((f g : F) → HasFault f → HasFault g → f ≡ g) → (q r : TextRefusal F)
      → IsTextRefused limit HasFault text q → IsTextRefused limit HasFault text r → q ≡ r
  one_text_refusal one ReadFault r a b = absurd a
  one_text_refusal one OutOfMemory r a b = absurd a
  one_text_refusal one TooLong ReadFault a b = absurd b
  one_text_refusal one TooLong TooLong a b = refl
  one_text_refusal one TooLong (Bad f) a b = absurd (omega (arith, a, b.0))
  one_text_refusal one TooLong OutOfMemory a b = absurd b
  one_text_refusal one (Bad f) ReadFault a b = absurd b
  one_text_refusal one (Bad f) TooLong a b = absurd (omega (arith, a.0, b))
  one_text_refusal one (Bad f) (Bad g) a b = ap (λ x. Bad x) (one f g a.1 b.1)
  one_text_refusal one (Bad f) OutOfMemory a b = absurd b
