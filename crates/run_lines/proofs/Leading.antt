-- Where a pull leads from a position.
use Rattle.std.proofs.Common.{◌≡◌, ℕ, ◌+◌, ◌-◌, ◌<◌, ◌≤◌, Bool, true, false, Option, Some, None, Ok, Err, refl, sym, ap}
use Rattle.std.proofs.Common.{subst, ◌∙◌, arith, inl, inr}
use Rattle.std.specs.Prelude.{nat_lt, not, ◌&&◌, ◌||◌}
use Rattle.std.proofs.lemmas.Bool.Decides.{nat_tests}
use Rattle.control_core.specs.declared.limits.Limits.{Limits}
use Rattle.control_core.specs.declared.limits.RunFault.{RunFault}
use Rattle.control_core.specs.declared.limits.RunFault.TheVariants as fault
use Rattle.control_core.specs.States.{PeerState}
use Rattle.control_core.specs.Pulls.{asks_more, met_end, EndsBy, TakesAtMost}
use Rattle.run_lines.specs.Places.{Reached, pulled}

-- where a pull leads from a position: the items that were taken, and whether the end was met
pub record Leads (total : ℕ) (count : Option ℕ) (at : Reached) (taken : ℕ) (ended : Bool) : Type 0 where
  pub taken_is : (pulled total count at).taken ≡ taken
  pub ended_is : (pulled total count at).ended ≡ ended
  pub all_taken : ended ≡ true → taken ≡ total

pub or_true : (b : Bool) → (b || true) ≡ true
or_true true = refl
or_true false = refl

pub is_below : (a b : ℕ) → a < b → nat_lt a b ≡ true
is_below a b less = grind (arith, nat_tests)

not_below : (a b : ℕ) → b ≤ a → nat_lt a b ≡ false
not_below a b le = grind (arith, nat_tests)

pub below_is : (a b : ℕ) → nat_lt a b ≡ true → a < b
below_is a b is = grind (arith, nat_tests)

pub below_not : (a b : ℕ) → nat_lt a b ≡ false → b ≤ a
below_not a b is = grind (arith, nat_tests)

-- a pull after the end
pub leads_after_end : (total : ℕ) (count : Option ℕ) (at : Reached) → at.ended ≡ true → at.taken ≡ total
    → Leads total count at at.taken true
leads_after_end total None at ended all = record { taken_is = sym all; ended_is = refl; all_taken = λ is. all }
leads_after_end total (Some count) at ended all = record {
  taken_is = omega (arith, all);
  ended_is = ap (λ (b : Bool). b || nat_lt total (at.taken + count)) ended;
  all_taken = λ is. all;
}

-- a pull that met the end
pub leads_to_end : (total : ℕ) (count : Option ℕ) (at : Reached) (taken : ℕ) → taken ≡ total → at.taken ≤ taken
    → asks_more count (taken - at.taken) ≡ true → Leads total count at taken true
leads_to_end total None at taken all from asks = record { taken_is = sym all; ended_is = refl; all_taken = λ is. all }
leads_to_end total (Some count) at taken all from asks =
    let less = below_is (taken - at.taken) count asks in
    let past : total < at.taken + count = omega (arith, less, all, from) in
    record {
      taken_is = omega (arith, all, past);
      ended_is = ap (λ (b : Bool). at.ended || b) (is_below total (at.taken + count) past) ∙ or_true at.ended;
      all_taken = λ is. all;
    }

-- a pull that took all that it asked for
pub leads_on : (total : ℕ) (count : Option ℕ) (at : Reached) (taken : ℕ) → at.ended ≡ false → taken ≤ total
    → at.taken ≤ taken → ((n : ℕ) → count ≡ Some n → taken ≤ at.taken + n) → asks_more count (taken - at.taken) ≡ false
    → Leads total count at taken false
leads_on total None at taken unmet within from most asks = let clash : true ≡ false = asks in cc
leads_on total (Some count) at taken unmet within from most asks =
    let enough = below_not (taken - at.taken) count asks in
    let same : taken ≡ at.taken + count = omega (arith, enough, most count refl, from) in
    record {
      taken_is = omega (arith, same, within);
      ended_is = ap (λ (b : Bool). at.ended || b) (not_below total (at.taken + count) (omega (arith, same, within)))
          ∙ ap (λ (b : Bool). b || false) unmet;
      all_taken = λ is. let clash : false ≡ true = is in cc;
    }

pub at_most : (count : Option ℕ) (old new : PeerState) → TakesAtMost count old new
    → (old.session.items ≤ new.session.items) × ((n : ℕ) → count ≡ Some n → new.session.items ≤ old.session.items + n)
at_most None old new within = (within, λ n is. cc)
at_most (Some count) old new within = (within.0, λ n is. let same : count ≡ n = cc in omega (arith, within.1, same))

-- where a pull that ended well leads
pub leads : (at : Reached) (count : Option ℕ) (limits : Limits) (old new : PeerState) (total : ℕ)
    → at.taken ≡ old.session.items → old.ended ≡ at.ended → (at.ended ≡ true → at.taken ≡ total)
    → new.session.items ≤ total → (met_end old new ≡ true → new.session.items ≡ total)
    → TakesAtMost count old new → EndsBy count limits old new (Ok tt) → Leads total count at new.session.items new.ended
leads at count limits old new total taken ended all_taken within met most (inl after) =
    let same : new.session.items ≡ at.taken = ap (λ (p : PeerState). p.session.items) after.1 ∙ sym taken in
    let end : new.ended ≡ true = ap (λ (p : PeerState). p.ended) after.1 ∙ after.0 in
    let full = all_taken (sym ended ∙ after.0) in
    subst (λ (b : Bool). Leads total count at new.session.items b) (sym end)
    (subst (λ (n : ℕ). Leads total count at n true) (sym same)
    (leads_after_end total count at (sym ended ∙ after.0) full))
leads at count limits old new total taken ended all_taken within met most (inr (unmet, inl end)) =
    let from = (at_most count old new most).0 in
    let now : met_end old new ≡ true = ap (λ (b : Bool). not b && new.ended) unmet ∙ end.0 in
    let asks : asks_more count (new.session.items - at.taken)
    ≡ true = ap (λ (n : ℕ). asks_more count (new.session.items - n)) taken ∙ end.1 in
    subst (λ (b : Bool). Leads total count at new.session.items b) (sym end.0)
    (leads_to_end total count at new.session.items (met now) (omega (arith, from, taken)) asks)
leads at count limits old new total taken ended all_taken within met most (inr (unmet, inr on)) =
    let steps = at_most count old new most in
    let asks : asks_more count (new.session.items - at.taken)
    ≡ false = ap (λ (n : ℕ). asks_more count (new.session.items - n)) taken ∙ on.1 in
    subst (λ (b : Bool). Leads total count at new.session.items b) (sym on.0)
    (leads_on total count at new.session.items (sym ended ∙ unmet) within (omega (arith, steps.0, taken))
    (λ n is. let few = steps.1 n is in omega (arith, few, taken)) asks)

pub unmet_clash : (old new : PeerState) → new.ended ≡ false → met_end old new ≡ true → ⊥
unmet_clash old new unmet met = never (not old.ended) (ap (λ (b : Bool). not old.ended && b) (sym unmet) ∙ met)
  where
    never : (b : Bool) → (b && false) ≡ true → ⊥
    never true is = cc
    never false is = cc

-- a pull takes no more items than its whole text has
pub most_taken : (total : ℕ) (count : Option ℕ) (at : Reached) (old new : PeerState) → at.taken ≡ old.session.items
    → TakesAtMost count old new → new.session.items ≤ total → new.session.items ≤ (pulled total count at).taken
most_taken total None at old new taken most within = within
most_taken total (Some n) at old new taken most within = omega (arith, taken, most.1, within)

-- a pull that stopped behind the end line had asked past the last item
pub told_end : (total : ℕ) (count : Option ℕ) (at : Reached) (limits : Limits) (old new : PeerState) (fault : RunFault)
    (upto : ℕ)
    → at.taken ≡ old.session.items → old.ended ≡ at.ended
    → EndsBy count limits old new (Err fault) → new.session.items ≡ upto → old.session.items ≤ new.session.items
    → upto ≡ total → met_end old new ≡ true
    → (upto ≡ (pulled total count at).taken) × ((not at.ended && (pulled total count at).ended) ≡ true)
told_end total count at limits old new (fault.ReadFault n) upto taken ended ends items from all met =
    absurd (unmet_clash old new ends.1.1 met)
told_end total count at limits old new fault.WriteFault upto taken ended ends items from all met =
    let now : new.ended ≡ true = sym (ap (λ (b : Bool). not b && new.ended) ends.0) ∙ met in
    let asks : asks_more count (upto - at.taken) ≡ true = ap (λ (n : ℕ). asks_more count (upto - n)) taken
    ∙ ap (λ (n : ℕ). asks_more count (n - old.session.items)) (sym items) ∙ ends.1 now in
    let lead = leads_to_end total count at upto all (omega (arith, taken, from, items)) asks in
    (sym lead.taken_is, ap (λ (b : Bool). not b && (pulled total count at).ended) (sym ended ∙ ends.0) ∙ lead.ended_is)
told_end total count at limits old new (fault.ItemLimit n) upto taken ended ends items from all met =
    absurd (unmet_clash old new ends.1.1 met)
told_end total count at limits old new (fault.OctetLimit n) upto taken ended ends items from all met =
    absurd (unmet_clash old new ends.1.1 met)
told_end total count at limits old new fault.OutOfMemory upto taken ended ends items from all met =
    absurd (unmet_clash old new ends.1 met)
