-- A text is one table of pairs, in each form, and the words and the text say which table a run begins with.
use Rattle.std.proofs.Common.{◌≡◌, ◌⊎◌, inl, inr, ℕ, ◌≤◌, List, [], length, get_or, drop, refl, sym, ap, ◌∙◌}
use Rattle.std.proofs.Common.{arith, Option, Some, None}
use Rattle.std.proofs.Common.{Result, Ok, Err}
use Rattle.std.proofs.lemmas.Bool.{cases_lt}
use Rattle.roa_irr.specs.declared.pairs.PairsFault.{PairsFault}
use Rattle.roa_irr.specs.declared.pairs.PairsFault.TheVariants as fault
use Rattle.roa_irr.proofs.OneTable.{irr_one, irr_some, vrp_one, vrp_some}
use Rattle.roa_irr.specs.Tables.{Table, pairs_max}
use Rattle.urpf_cli.specs.PairTables.{HasTable, HasTooMany, IsPairsRefused, IsTable}
use Rattle.urpf_cli.specs.Words.{AreOfflineWords, PairsFrom, nowhere, table, pairs_word}
use Rattle.urpf_cli.specs.declared.refusals.TextRefusal.{TextRefusal}
use Rattle.urpf_cli.specs.declared.refusals.TooManyPairs.{TooManyPairs}
use Rattle.urpf_cli.specs.declared.words.TableForm.{TableForm}
use Rattle.urpf_cli.specs.declared.words.TableForm.TheVariants.{Vrp, Irr}
use Rattle.urpf_cli.proofs.TextLaws.{not_refused, one_text_refusal}

-- a text is a table
pub some_table : (form : TableForm) (text : List ℕ) → (pairs : Table) × IsTable form text pairs
some_table Vrp text = vrp_some text
some_table Irr text = irr_some text

-- and no other one
pub one_table : (form : TableForm) (text : List ℕ) (a b : Table) → IsTable form text a → IsTable form text b → a ≡ b
one_table Vrp text = vrp_one text
one_table Irr text = irr_one text

-- a word says one thing
one_said : (p q : PairsFrom) → pairs_word p ≡ pairs_word q → p ≡ q
one_said nowhere nowhere is = refl
one_said nowhere (table Vrp name) is =
    let clash : 110 ≡ 118 = ap (λ (w : List ℕ). get_or w 0 0) is in absurd (omega (arith, clash))
one_said nowhere (table Irr name) is =
    let clash : 110 ≡ 105 = ap (λ (w : List ℕ). get_or w 0 0) is in absurd (omega (arith, clash))
one_said (table Vrp name) nowhere is =
    let clash : 118 ≡ 110 = ap (λ (w : List ℕ). get_or w 0 0) is in absurd (omega (arith, clash))
one_said (table Irr name) nowhere is =
    let clash : 105 ≡ 110 = ap (λ (w : List ℕ). get_or w 0 0) is in absurd (omega (arith, clash))
one_said (table Vrp name) (table Irr other) is =
    let clash : 118 ≡ 105 = ap (λ (w : List ℕ). get_or w 0 0) is in absurd (omega (arith, clash))
one_said (table Irr name) (table Vrp other) is =
    let clash : 105 ≡ 118 = ap (λ (w : List ℕ). get_or w 0 0) is in absurd (omega (arith, clash))
one_said (table Vrp name) (table Vrp other) is =
    let same : name ≡ other = ap (drop 4) is in ap (table Vrp) same
one_said (table Irr name) (table Irr other) is =
    let same : name ≡ other = ap (drop 4) is in ap (table Irr) same

-- and so do all words
pub one_from : (words : List (List ℕ)) (a b : AreOfflineWords words) → a.pairs ≡ b.pairs
one_from words a b = one_said a.pairs b.pairs (ap (λ (ws : List (List ℕ)). get_or ws 3 []) (sym a.parts ∙ b.parts))

-- a run begins with one table
pub one_has : (from : PairsFrom) (text : List ℕ) (a b : Option Table) → HasTable from text a → HasTable from text b
    → a ≡ b
one_has nowhere text a b is other = is ∙ sym other
one_has (table form name) text None b is other = absurd is
one_has (table form name) text (Some a) None is other = absurd other
one_has (table form name) text (Some a) (Some b) is other = ap (λ t. Some t) (one_table form text a b is.is other.is)

-- a text that a run begins with is not refused
pub has_or_refused : (from : PairsFrom) (text : List ℕ) (pairs : Option Table) (r : TextRefusal TooManyPairs)
    → HasTable from text pairs → IsPairsRefused from text r → ⊥
has_or_refused nowhere text pairs r is refused = refused
has_or_refused (table form name) text None r is refused = is
has_or_refused (table form name) text (Some pairs) r is refused =
    not_refused _ (λ fault. HasTooMany form text) text is.short
    (λ fault many. let same = one_table form text many.0 pairs many.1 is.is in
    omega (arith, many.2, is.few, ap (λ (t : Table). length t.pairs) same)) r refused

-- a text is refused for one thing
pub one_pairs_refusal : (from : PairsFrom) (text : List ℕ) (q r : TextRefusal TooManyPairs)
    → IsPairsRefused from text q → IsPairsRefused from text r → q ≡ r
one_pairs_refusal nowhere text q r a b = absurd a
one_pairs_refusal (table form name) text q r a b =
    one_text_refusal _ (λ fault. HasTooMany form text) text (λ f g one two. refl) q r a b

-- a reader that answers the table where there is one of few enough pairs refuses only a table of too many
pub refused_many : (form : TableForm) (text : List ℕ) (r : Result Table PairsFault)
    → ((pairs : Table) → IsTable form text pairs → length pairs.pairs ≤ pairs_max
    → (r ≡ Ok pairs) ⊎ (r ≡ Err fault.OutOfMemory))
    → r ≡ Err fault.TooMany → HasTooMany form text
refused_many form text r only is =
    let (pairs, are) = some_table form text in
    elim (cases_lt pairs_max (length pairs.pairs)) [
      | inl many ↦ (pairs, are, many)
      | inr few ↦ elim (only pairs are few) [
        | inl read ↦ let clash = sym is ∙ read in absurd cc
        | inr memory ↦ let clash = sym is ∙ memory in absurd cc
      ]
    ]
