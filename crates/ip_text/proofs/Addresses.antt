-- A text spells one address at most.
use Rattle.std.proofs.Common.{◌≡◌, ℕ, List, ap, sym, ◌∙◌}
use Rattle.urpf_base.specs.declared.address.Addr.{Addr}
use Rattle.urpf_base.specs.declared.address.Addr.TheVariants.{V4, V6}
use Rattle.ip_text.specs.Texts.{SpellsAddr}
use Rattle.ip_text.proofs.Families.{one_family}
use Rattle.ip_text.proofs.Forms.{one_v6}
use Rattle.ip_text.proofs.Once.{dotted_once}

pub one_addr : (text : List ℕ) (a b : Addr) → SpellsAddr text a → SpellsAddr text b → a ≡ b
one_addr text (V4 n) (V4 m) is other = ap V4 (dotted_once n m is.0 other.0 (sym is.1 ∙ other.1))
one_addr text (V4 n) (V6 m) is other = absurd (one_family text n m is.1 other)
one_addr text (V6 n) (V4 m) is other = absurd (one_family text m n other.1 is)
one_addr text (V6 n) (V6 m) is other = ap V6 (one_v6 text n m is other)
