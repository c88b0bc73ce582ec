-- Items have one list of effects.
use Rattle.std.proofs.Common.{◌≡◌, ℕ, List, [], ◌∷◌, ◌++◌, refl, sym, ap, subst, ◌∙◌, append_assoc}
use Rattle.std.proofs.lemmas.List.{append-nil}
use Rattle.std.specs.Prelude.{nat_lt, if◌then◌else◌}
use Rattle.bgp_wire.specs.Header.{type_field}
use Rattle.bgp_wire.specs.States.{kind_of}
use Rattle.urpf_base.specs.declared.sessions.ResetCause.TheVariants.{Fault}
use Rattle.urpf_base.specs.declared.sessions.SessionConfig.{SessionConfig}
use Rattle.session_fsm.specs.declared.codes.TheConstants.{CEASE, MAXIMUM_PREFIXES_REACHED}
use Rattle.session_fsm.specs.declared.items.Effect.{Effect}
use Rattle.session_fsm.specs.declared.items.Effect.TheVariants.{Nothing, Advanced, Reset, Changes}
use Rattle.session_fsm.specs.declared.items.Item.TheVariants as fsm
use Rattle.session_fsm.specs.declared.states.State.{State}
use Rattle.session_fsm.specs.declared.states.State.TheVariants.{Idle}
use Rattle.session_fsm.specs.Table.{Outcome, ended}
use Rattle.session_fsm.proofs.StepLaws.{one_outcome, same_body}
use Rattle.control_core.specs.Items.{Item, came_up, message, bad_header, went_down, passed}
use Rattle.control_core.specs.Effects.{HoldsSoMany}
use Rattle.control_core.specs.Runs.{Steps, Limited, Takes, RunsFrom, Runs}
use Rattle.control_core.proofs.Counting.{same_length}

one_row : (config : SessionConfig) (state : State) (item : Item) (a b : Outcome) → Steps config state item a
    → Steps config state item b → a ≡ b
one_row config state came_up a b p q = one_outcome config state fsm.Up a b p q
one_row config state (message whole) a b p q =
    let kind = kind_of (type_field whole) in
    one_outcome config state (fsm.Message kind q.0) a b (same_body config state kind p.0 q.0 a (p.1 ∙ sym q.1) p.2) q.2
one_row config state (bad_header subcode) a b p q = one_outcome config state (fsm.HeaderFault subcode) a b p q
one_row config state went_down a b p q = one_outcome config state fsm.Down a b p q
one_row config state (passed seconds) a b p q = one_outcome config state (fsm.Elapsed seconds) a b p q

-- so many prefixes are held, and no other number
pub one_count : (effects : List Effect) (a b : ℕ) → HoldsSoMany effects a → HoldsSoMany effects b → a ≡ b
one_count effects a b p q =
    p.counted
    ∙ same_length p.prefixes q.prefixes p.distinct q.distinct (λ x has. (q.each x).1 ((p.each x).0 has))
    (λ x has. (p.each x).1 ((q.each x).0 has)) ∙ sym q.counted

one_limited : (maximum : ℕ) (before : List Effect) (next : State) (effect : Effect) (a b : Outcome)
    → Limited maximum before (next, effect) a → Limited maximum before (next, effect) b → a ≡ b
one_limited maximum before next Nothing a b p q = p ∙ sym q
one_limited maximum before next Advanced a b p q = p ∙ sym q
one_limited maximum before next (Reset cause) a b p q = p ∙ sym q
one_limited maximum before next (Changes update) a b p q =
    let count : p.0 ≡ q.0 = one_count (before ++ Changes update ∷ []) p.0 q.0 p.1 q.1 in
    p.2 ∙ ap
    (λ (n : ℕ). if nat_lt maximum n then ended (Fault CEASE MAXIMUM_PREFIXES_REACHED) else (next, Changes update))
    count ∙ sym q.2

one_taken : (config : SessionConfig) (before : List Effect) (state : State) (item : Item) (a b : Outcome)
    → Takes config before state item a → Takes config before state item b → a ≡ b
one_taken config before state item a b p q =
    let row : p.0 ≡ q.0 = one_row config state item p.0 q.0 p.1 q.1 in
    one_limited config.max before q.0.0 q.0.1 a b (subst (λ (r : Outcome). Limited config.max before r a) row p.2) q.2

one_run_from : (config : SessionConfig) (before : List Effect) (state : State) (items : List Item)
    (effects others : List Effect) (last other : State)
    → RunsFrom config before state items effects last → RunsFrom config before state items others other
    → (effects ≡ others) × (last ≡ other)
one_run_from config before state [] effects others last other p q = (p.0 ∙ sym q.0, p.1 ∙ sym q.1)
one_run_from config before state (item ∷ items) effects others last other p q =
    let same : p.0 ≡ q.0 = one_taken config before state item p.0 q.0 p.1 q.1 in
    one_run_from config (before ++ q.0.1 ∷ []) q.0.0 items effects others last other
    (subst (λ (o : Outcome). RunsFrom config (before ++ o.1 ∷ []) o.0 items effects last) same p.2) q.2

-- items have one list of effects, and leave one state
pub one_run : (config : SessionConfig) (items : List Item) (effects others : List Effect) (last other : State)
    → Runs config items effects last → Runs config items others other → (effects ≡ others) × (last ≡ other)
one_run config items effects others last other p q = one_run_from config [] Idle items effects others last other p q

-- the effects of a run begin with those before it
pub grows : (config : SessionConfig) (before : List Effect) (state : State) (items : List Item) (effects : List Effect)
    (last : State)
    → RunsFrom config before state items effects last → (later : List Effect) × (effects ≡ before ++ later)
grows config before state [] effects last runs = ([], runs.0 ∙ sym (append-nil before))
grows config before state (item ∷ items) effects last runs =
    let rest = grows config (before ++ runs.0.1 ∷ []) runs.0.0 items effects last runs.2 in
    (runs.0.1 ∷ rest.0, rest.1 ∙ append_assoc before (runs.0.1 ∷ []) rest.0)

-- a run of items in two parts: of the first, and from there on of the others
pub record InParts (config : SessionConfig) (before : List Effect) (state : State) (items : List Item)
    (effects : List Effect) : Type 0 where
  pub first : List Effect
  pub later : List Effect
  pub mid : State
  pub runs : RunsFrom config before state items (before ++ first) mid
  pub parts : effects ≡ (before ++ first) ++ later

pub in_parts : (config : SessionConfig) (before : List Effect) (state : State) (items others : List Item)
    (effects : List Effect) (last : State)
    → RunsFrom config before state (items ++ others) effects last → InParts config before state items effects
in_parts config before state [] others effects last runs =
    let grown = grows config before state others effects last runs in
    record {
      first = [];
      later = grown.0;
      mid = state;
      runs = (append-nil before, refl);
      parts = grown.1 ∙ ap (λ (es : List Effect). es ++ grown.0) (sym (append-nil before));
    }
in_parts config before state (item ∷ items) others effects last runs =
    let rest = in_parts config (before ++ runs.0.1 ∷ []) runs.0.0 items others effects last runs.2 in
    let same : (before ++ runs.0.1 ∷ []) ++ rest.first ≡ before
    ++ (runs.0.1 ∷ rest.first) = append_assoc before (runs.0.1 ∷ []) rest.first in
    record {
      first = runs.0.1 ∷ rest.first;
      later = rest.later;
      mid = rest.mid;
      runs = (
        runs.0,
        runs.1,
        subst (λ (es : List Effect). RunsFrom config (before ++ runs.0.1 ∷ []) runs.0.0 items es rest.mid) same
            rest.runs,
      );
      parts = rest.parts ∙ ap (λ (es : List Effect). es ++ rest.later) same;
    }
