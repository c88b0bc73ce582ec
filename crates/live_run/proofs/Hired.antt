-- A worker more is made, of the next packets.
use Rattle.std.proofs.Common.{◌≡◌, ◌∙◌, ℕ, ◌+◌, List, [], ◌∷◌, ◌++◌, length, map, reverse, ap, arith, subst, sym}
use Rattle.std.proofs.lemmas.List.{append_assoc, map-append, reverse-append}
use Rattle.live_rounds.specs.Stations.{Station}
use Rattle.live_run.specs.Hiring.{AreNew, IsNew}

-- what was made and what is left are together as before
pub parts_next : {A B : Type 0} (of : A → B) (made new : List A) (left old all : List B) (one : A) (next : B)
    → map of made ++ reverse old ≡ all → old ≡ left ++ next ∷ [] → new ≡ made ++ one ∷ [] → of one ≡ next
    → map of new ++ reverse left ≡ all
parts_next of made new left old all one next parts old_is new_is same =
    ap (λ ws. map of ws ++ reverse left) new_is ∙ ap (λ xs. xs ++ reverse left) (map-append of made (one ∷ []))
    ∙ append_assoc (map of made) (of one ∷ []) (reverse left)
    ∙ ap (λ x. map of made ++ (x ∷ reverse left)) same
    ∙ ap (λ xs. map of made ++ xs) (sym (ap reverse old_is ∙ reverse-append left (next ∷ []))) ∙ parts

-- workers behind one another have the numbers behind one another
pub new_next : (number : ℕ) (made : List Station) (one : Station) → AreNew number made
    → IsNew (number + length made) one → AreNew number (made ++ one ∷ [])
new_next number [] one new is = (subst (λ n. IsNew n one) (omega arith) is, tt)
new_next number (first ∷ made) one new is =
    (new.0, new_next (number + 1) made one new.1 (subst (λ n. IsNew n one) (omega arith) is))
