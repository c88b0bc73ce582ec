-- Counts of faults over the calls of a function.
use Rattle.std.proofs.Common.{◌≡◌, ℕ, Result, Ok, Err, refl, ◌∙◌, subst, arith}
use Rattle.urpf_base.specs.Faults.{Rose, HasCause, CountsFault}

-- a count that stayed, where the call did not fail so
pub counts_none : {failed : Type 0} (before now : ℕ) → now ≡ before → (failed → ⊥) → CountsFault failed before now
counts_none before now same never = record {
  later = omega (arith, same);
  kept = λ _. same;
  rose = λ failed. absurd (never failed);
  once = omega (arith, same);
}

-- the count of the one call that may have failed, behind calls that left it
pub counts_through : {first second : Type 0} (before mid now : ℕ) → mid ≡ before → CountsFault first mid now
    → (first → second) → (second → first) → CountsFault second before now
counts_through before mid now same counts to from = record {
  later = omega (arith, same, counts.later);
  kept = λ never. counts.kept (λ failed. never (to failed)) ∙ same;
  rose = λ failed. subst (λ n. Rose n now) same (counts.rose (from failed));
  once = omega (arith, same, counts.once);
}

-- the count of a call that answers a failure as an error
pub counts_cause : {T E : Type 0} {failed : Type 0} (before now : ℕ) (result : Result T E) → HasCause before now result
    → ((x : T) → result ≡ Ok x → failed → ⊥) → ((e : E) → result ≡ Err e → failed) → CountsFault failed before now
counts_cause before now (Ok x) cause never is = counts_none before now cause.kept (never x refl)
counts_cause before now (Err e) cause never is = record {
  later = cause.later;
  kept = λ not. absurd (not (is e refl));
  rose = λ failed. cause.failed;
  once = cause.once;
}
