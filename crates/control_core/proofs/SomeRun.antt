-- Items have a list of effects: whatever they are, the prefixes that they leave can be listed, so the maximum can be
-- compared.
use Rattle.std.proofs.Common.{◌≡◌, ◌⊎◌, ℕ, List, [], ◌∷◌, ◌++◌, length, Option, drop, refl, sym, subst, inl, inr}
use Rattle.std.proofs.Common.{append_assoc}
use Rattle.std.proofs.lemmas.List.{append-nil}
use Rattle.std.specs.Prelude.{nat_lt, if◌then◌else◌, ◌↔◌}
use Rattle.std.specs.Borrow.{Bor}
use Rattle.bgp_wire.specs.Header.{type_field}
use Rattle.bgp_wire.specs.States.{kind_of}
use Rattle.urpf_base.specs.Address.{Block}
use Rattle.urpf_base.specs.Lists.{Has, AreDistinct}
use Rattle.urpf_base.specs.RouteUpdates.{RouteUpdate}
use Rattle.urpf_base.proofs.Membership.{has_or_not}
use Rattle.urpf_base.specs.declared.sessions.ResetCause.TheVariants.{Fault}
use Rattle.urpf_base.specs.declared.sessions.SessionConfig.{SessionConfig}
use Rattle.session_fsm.specs.declared.codes.TheConstants.{CEASE, MAXIMUM_PREFIXES_REACHED}
use Rattle.session_fsm.specs.declared.items.Effect.{Effect}
use Rattle.session_fsm.specs.declared.items.Effect.TheVariants.{Nothing, Advanced, Reset, Changes}
use Rattle.session_fsm.specs.declared.items.Item.TheVariants as fsm
use Rattle.session_fsm.specs.declared.states.State.{State}
use Rattle.session_fsm.specs.declared.states.State.TheVariants.{Idle}
use Rattle.session_fsm.specs.Table.{Outcome, ended}
use Rattle.session_fsm.proofs.StepLaws.{some_outcome}
use Rattle.control_core.specs.Items.{Item, came_up, message, bad_header, went_down, passed}
use Rattle.control_core.specs.Effects.{Holds, HoldsSoMany, Reaches}
use Rattle.control_core.specs.Runs.{Steps, Limited, RunsFrom, Runs}
use Rattle.control_core.proofs.Held.{Holds-announced, Holds-kept, Holds-push}

-- a prefix is put in front where it is not there yet
put_in : (ps : List Block) (p : Block) → Has ps p ⊎ (Has ps p → ⊥) → List Block
put_in ps p (inl there) = ps
put_in ps p (inr never) = p ∷ ps

put_in_has : (ps : List Block) (p q : Block) (d : Has ps p ⊎ (Has ps p → ⊥))
    → Has (put_in ps p d) q ↔ ((q ≡ p) ⊎ Has ps q)
unfolding put_in
put_in_has ps p q (inl there) =
    (λ has. inr has, λ either. elim either [ inl same ↦ subst (Has ps) (sym same) there | inr has ↦ has ])
put_in_has ps p q (inr never) = (λ has. has, λ either. either)

put_in_distinct : (ps : List Block) (p : Block) (d : Has ps p ⊎ (Has ps p → ⊥)) → AreDistinct ps
    → AreDistinct (put_in ps p d)
unfolding put_in
put_in_distinct ps p (inl there) distinct = distinct
put_in_distinct ps p (inr never) distinct = (never, distinct)

-- all of these prefixes are put in
joined : List Block → List Block → List Block
joined ps [] = ps
joined ps (q ∷ qs) = put_in (joined ps qs) q (has_or_not (joined ps qs) q)

joined_has : (ps qs : List Block) (p : Block) → Has (joined ps qs) p ↔ (Has ps p ⊎ Has qs p)
unfolding joined
joined_has ps [] p = (λ has. inl has, λ either. elim either [ inl has ↦ has | inr never ↦ absurd never ])
joined_has ps (q ∷ qs) p =
    let put = put_in_has (joined ps qs) q p (has_or_not (joined ps qs) q) in
    let rest = joined_has ps qs p in (
      λ has. elim (put.0 has) [
        | inl same ↦ inr (inl same)
        | inr there ↦ elim (rest.0 there) [ inl old ↦ inl old | inr new ↦ inr (inr new) ]
      ],
      λ either. put.1
          (elim either [
            | inl old ↦ inr (rest.1 (inl old))
            | inr new ↦ elim new
                [ inl same ↦ inl same | inr later ↦ inr (rest.1 (inr later)) ]
          ]),
    )

joined_distinct : (ps qs : List Block) → AreDistinct ps → AreDistinct (joined ps qs)
unfolding joined
joined_distinct ps [] distinct = distinct
joined_distinct ps (q ∷ qs) distinct =
    put_in_distinct (joined ps qs) q (has_or_not (joined ps qs) q) (joined_distinct ps qs distinct)

-- a prefix stays where it is not one of those that go
left_in : (qs : List Block) (p : Block) → List Block → Has qs p ⊎ (Has qs p → ⊥) → List Block
left_in qs p rest (inl gone) = rest
left_in qs p rest (inr never) = p ∷ rest

without : List Block → List Block → List Block
without qs [] = []
without qs (p ∷ ps) = left_in qs p (without qs ps) (has_or_not qs p)

left_in_has : (qs rest : List Block) (p q : Block) (d : Has qs p ⊎ (Has qs p → ⊥)) → Has (left_in qs p rest d) q
    → ((q ≡ p) × (Has qs p → ⊥)) ⊎ Has rest q
unfolding left_in
left_in_has qs rest p q (inl gone) has = inr has
left_in_has qs rest p q (inr never) (inl same) = inl (same, never)
left_in_has qs rest p q (inr never) (inr has) = inr has

left_in_keeps : (qs rest : List Block) (p q : Block) (d : Has qs p ⊎ (Has qs p → ⊥)) → Has rest q
    → Has (left_in qs p rest d) q
unfolding left_in
left_in_keeps qs rest p q (inl gone) has = has
left_in_keeps qs rest p q (inr never) has = inr has

left_in_itself : (qs rest : List Block) (p : Block) (d : Has qs p ⊎ (Has qs p → ⊥)) → (Has qs p → ⊥)
    → Has (left_in qs p rest d) p
unfolding left_in
left_in_itself qs rest p (inl gone) never = absurd (never gone)
left_in_itself qs rest p (inr other) never = inl refl

without_has : (qs ps : List Block) (p : Block) → Has (without qs ps) p → Has ps p × (Has qs p → ⊥)
unfolding without
without_has qs [] p has = absurd has
without_has qs (q ∷ ps) p has = elim (left_in_has qs (without qs ps) q p (has_or_not qs q) has) [
  | inl is ↦ (inl is.0, λ gone. is.1 (subst (Has qs) is.0 gone))
  | inr later ↦ let rest = without_has qs ps p later in (inr rest.0, rest.1)
]

without_keeps : (qs ps : List Block) (p : Block) → Has ps p → (Has qs p → ⊥) → Has (without qs ps) p
unfolding without
without_keeps qs [] p has never = absurd has
without_keeps qs (q ∷ ps) p (inl same) never =
    subst (Has (left_in qs q (without qs ps) (has_or_not qs q))) (sym same)
    (left_in_itself qs (without qs ps) q (has_or_not qs q) (λ gone. never (subst (Has qs) (sym same) gone)))
without_keeps qs (q ∷ ps) p (inr has) never =
    left_in_keeps qs (without qs ps) q p (has_or_not qs q) (without_keeps qs ps p has never)

left_in_distinct : (qs rest : List Block) (p : Block) (d : Has qs p ⊎ (Has qs p → ⊥)) → (Has rest p → ⊥)
    → AreDistinct rest → AreDistinct (left_in qs p rest d)
unfolding left_in
left_in_distinct qs rest p (inl gone) once distinct = distinct
left_in_distinct qs rest p (inr never) once distinct = (once, distinct)

without_distinct : (qs ps : List Block) → AreDistinct ps → AreDistinct (without qs ps)
unfolding without
without_distinct qs [] distinct = tt
without_distinct qs (p ∷ ps) distinct =
    left_in_distinct qs (without qs ps) p (has_or_not qs p) (λ has. distinct.0 (without_has qs ps p has).0)
    (without_distinct qs ps distinct.1)

-- the prefixes that effects leave, each once
pub record Listed (es : List Effect) : Type 0 where
  pub prefixes : List Block
  pub distinct : AreDistinct prefixes
  pub each : (p : Block) → Has prefixes p ↔ Reaches es p

listed_none : Listed []
listed_none = record { prefixes = []; distinct = tt; each = λ p. (λ never. absurd never, λ r. absurd r.1) }

listed_quiet : (es : List Effect) (e : Effect) → ((p : Block) (o : Option ℕ) → Holds es p o ↔ Holds (es ++ e ∷ []) p o)
    → Listed es → Listed (es ++ e ∷ [])
listed_quiet es e same listed = record {
  prefixes = listed.prefixes;
  distinct = listed.distinct;
  each = λ p. (
    λ has. let r = (listed.each p).0 has in (r.0, (same p r.0).0 r.1),
    λ r. (listed.each p).1 (r.0, (same p r.0).1 r.1),
  );
}

listed_change : (es : List Effect) (u : RouteUpdate) → Listed es → Listed (es ++ Changes u ∷ [])
listed_change es u listed =
    let kept = without u.announced (without u.withdrawn listed.prefixes) in
    record {
      prefixes = joined kept u.announced;
      distinct =
          joined_distinct kept u.announced
          (without_distinct u.announced (without u.withdrawn listed.prefixes)
          (without_distinct u.withdrawn listed.prefixes listed.distinct));
      each = λ p. (
        λ has. elim ((joined_has kept u.announced p).0 has) [
          | inl old ↦
              let first = without_has u.announced (without u.withdrawn listed.prefixes) p old in
              let second = without_has u.withdrawn listed.prefixes p first.0 in
              let r = (listed.each p).0 second.0 in
              (r.0, Holds-kept es (Changes u) p r.0 (second.1, first.1) r.1)
          | inr new ↦ (u.origin, Holds-announced es (Changes u) p u.origin (new, refl))
        ],
        λ r. (joined_has kept u.announced p).1 (elim (Holds-push es (Changes u) p r.0 r.1) [
          | inl last ↦ inr last.0
          | inr old ↦ inl
              (without_keeps u.announced (without u.withdrawn listed.prefixes) p
              (without_keeps u.withdrawn listed.prefixes p ((listed.each p).1 (r.0, old.1)) old.0.0) old.0.1)
        ]),
      );
    }

listed_more : (es : List Effect) (e : Effect) → Listed es → Listed (es ++ e ∷ [])
listed_more es Nothing listed =
    listed_quiet es Nothing
    (λ p o. (
      Holds-kept es Nothing p o tt,
      λ h. elim (Holds-push es Nothing p o h) [ inl never ↦ absurd never | inr kept ↦ kept.1 ],
    )) listed
listed_more es Advanced listed =
    listed_quiet es Advanced
    (λ p o. (
      Holds-kept es Advanced p o tt,
      λ h. elim (Holds-push es Advanced p o h) [ inl never ↦ absurd never | inr kept ↦ kept.1 ],
    )) listed
listed_more es (Reset cause) listed = record {
  prefixes = [];
  distinct = tt;
  each = λ p. (
    λ never. absurd never,
    λ r. elim (Holds-push es (Reset cause) p r.0 r.1) [ inl never ↦ absurd never | inr kept ↦ absurd kept.0 ],
  );
}
listed_more es (Changes u) listed = listed_change es u listed

some_row : (config : SessionConfig) (state : State) (item : Item) → (row : Outcome) × Steps config state item row
some_row config state came_up = some_outcome config state fsm.Up
some_row config state (message whole) =
    let body : Bor (List ℕ) = record { ref_ptr = (0, 0); now = drop 19 whole } in
    let row = some_outcome config state (fsm.Message (kind_of (type_field whole)) body) in
    (row.0, (body, refl, row.1))
some_row config state (bad_header subcode) = some_outcome config state (fsm.HeaderFault subcode)
some_row config state went_down = some_outcome config state fsm.Down
some_row config state (passed seconds) = some_outcome config state (fsm.Elapsed seconds)

some_limited : (maximum : ℕ) (before : List Effect) (next : State) (effect : Effect) → Listed before
    → (outcome : Outcome) × Limited maximum before (next, effect) outcome
some_limited maximum before next Nothing listed = ((next, Nothing), refl)
some_limited maximum before next Advanced listed = ((next, Advanced), refl)
some_limited maximum before next (Reset cause) listed = ((next, Reset cause), refl)
some_limited maximum before next (Changes u) listed =
    let more = listed_more before (Changes u) listed in
    let count : ℕ = length more.prefixes in
    let many : HoldsSoMany (before ++ Changes u ∷ []) count = record
    { prefixes = more.prefixes; distinct = more.distinct; each = more.each; counted = refl } in (
      (if nat_lt maximum count then ended (Fault CEASE MAXIMUM_PREFIXES_REACHED) else (next, Changes u)),
      (count, many, refl),
    )

some_run_from : (config : SessionConfig) (before : List Effect) (state : State) (items : List Item) → Listed before
    → (effects : List Effect) × (last : State) × RunsFrom config before state items effects last
some_run_from config before state [] listed = (before, state, (refl, refl))
some_run_from config before state (item ∷ items) listed =
    let row = some_row config state item in
    let outcome = some_limited config.max before row.0.0 row.0.1 listed in
    let rest =
    some_run_from config (before ++ outcome.0.1 ∷ []) outcome.0.0 items (listed_more before outcome.0.1 listed) in
    (rest.0, rest.1, (outcome.0, (row.0, row.1, outcome.1), rest.2))

-- items have a list of effects
pub some_run : (config : SessionConfig) (items : List Item) → (effects : List Effect) × (last : State)
    × Runs config items effects last
some_run config items = some_run_from config [] Idle items listed_none

listed_on : (before later : List Effect) → Listed before → Listed (before ++ later)
listed_on before [] listed = subst Listed (sym (append-nil before)) listed
listed_on before (e ∷ later) listed =
    subst Listed (append_assoc before (e ∷ []) later) (listed_on (before ++ e ∷ []) later (listed_more before e listed))

-- the prefixes that any effects leave can be listed
pub all_listed : (effects : List Effect) → Listed effects
all_listed effects = listed_on [] effects listed_none

-- the prefixes that came or went between two lists of effects, each once
pub record CameOrWent (old new : List Effect) : Type 0 where
  pub changed : List Block
  pub distinct : AreDistinct changed
  pub each : (p : Block)
      → Has changed p ↔ (((Reaches old p → ⊥) × Reaches new p) ⊎ (Reaches old p × (Reaches new p → ⊥)))

pub some_difference : (old new : List Effect) → CameOrWent old new
some_difference old new =
    let a = all_listed old in
    let b = all_listed new in
    let came = without a.prefixes b.prefixes in
    let went = without b.prefixes a.prefixes in
    record {
      changed = joined came went;
      distinct = joined_distinct came went (without_distinct a.prefixes b.prefixes b.distinct);
      each = λ p. (
        λ has. elim ((joined_has came went p).0 has) [
          | inl is ↦ let parts = without_has a.prefixes b.prefixes p is in
              inl ((λ r. parts.1 ((a.each p).1 r)), (b.each p).0 parts.0)
          | inr is ↦ let parts = without_has b.prefixes a.prefixes p is in
              inr ((a.each p).0 parts.0, (λ r. parts.1 ((b.each p).1 r)))
        ],
        λ differs. (joined_has came went p).1 (elim differs [
          | inl is ↦ inl (without_keeps a.prefixes b.prefixes p ((b.each p).1 is.1) (λ has. is.0 ((a.each p).0 has)))
          | inr is ↦ inr (without_keeps b.prefixes a.prefixes p ((a.each p).1 is.0) (λ has. is.1 ((b.each p).0 has)))
        ]),
      );
    }
