use Rattle.std.proofs.Common.{ℕ, ◌≡◌, ◌<◌, ◌^◌, List, Some, None, subst, sym}
use Rattle.urpf_base.specs.declared.address.Addr.{Addr}
use Rattle.urpf_base.specs.declared.address.Addr.TheVariants.{V4, V6}
use Rattle.ip_text.specs.Texts.{SpellsAddr, IsV6, IsAddr, addr_text, dotted}
use Rattle.ip_text.proofs.Families.{one_family}
use Rattle.ip_text.proofs.Printed.{spells_printed}
use Rattle.ip_text.proofs.reading.read_addr.Goals as goal

four : (text : List ℕ) (number : ℕ) → text ≡ dotted number
    → ((n : ℕ) → n < 2 ^ 32 → text ≡ dotted n → Some number ≡ Some n) → (a : Addr) → SpellsAddr text a
    → Some (V4 number) ≡ Some a
four text number found only (V4 n) spelled = let e = only n spelled.0 spelled.1 in cc
four text number found only (V6 n) spelled = absurd (one_family text number n found spelled)

six : (text : List ℕ) (number : ℕ) → ((n : ℕ) → n < 2 ^ 32 → text ≡ dotted n → None ≡ Some n)
    → ((n : ℕ) → IsV6 text n → Some number ≡ Some n) → (a : Addr) → SpellsAddr text a → Some (V6 number) ≡ Some a
six text number never only (V4 n) spelled = let e = never n spelled.0 spelled.1 in cc
six text number never only (V6 n) spelled = let e = only n spelled in cc

neither : (text : List ℕ) → ((n : ℕ) → n < 2 ^ 32 → text ≡ dotted n → None ≡ Some n)
    → ((n : ℕ) → IsV6 text n → None ≡ Some n) → (a : Addr) → SpellsAddr text a → None ≡ Some a
neither text no_four no_six (V4 n) spelled = let e = no_four n spelled.0 spelled.1 in cc
neither text no_four no_six (V6 n) spelled = let e = no_six n spelled in cc

spelled : (text : List ℕ) (a : Addr) → IsAddr a → text ≡ addr_text a → SpellsAddr text a
spelled text a small is = subst (λ (t : List ℕ). SpellsAddr t a) (sym is) (spells_printed a small)

pub returns-in-Some-clause-only : goal.returns-in-Some-clause-only
returns-in-Some-clause-only c = four c.args.text.now c.in-Some.number c.in-Some.ensures.found c.in-Some.ensures.only

pub returns-in-Some-clause-printed : goal.returns-in-Some-clause-printed
returns-in-Some-clause-printed c a small is =
    four c.args.text.now c.in-Some.number c.in-Some.ensures.found c.in-Some.ensures.only a
    (spelled c.args.text.now a small is)

pub returns-in_default-read_v6-clause-printed : goal.returns-in_default-read_v6-clause-printed
returns-in_default-read_v6-clause-printed c a small is =
    neither c.args.text.now c.in_default.ensures.only c.in_default-read_v6.ensures.only a
    (spelled c.args.text.now a small is)

pub returns-clause-printed : goal.returns-clause-printed
returns-clause-printed c a small is =
    six c.args.text.now c.in-Some-read_v6.number c.in_default.ensures.only c.in-Some-read_v6.ensures.only a
    (spelled c.args.text.now a small is)
