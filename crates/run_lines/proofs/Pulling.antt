-- A session at a place after a pull, and what the pull wrote.
use Rattle.std.proofs.Common.{◌≡◌, ◌⊎◌, ℕ, ◌+◌, ◌-◌, ◌<◌, ◌≤◌, Bool, true, false, List, [], ◌++◌, length, take, drop}
use Rattle.std.proofs.Common.{Option, Some, None, Result, Ok, Err, refl, sym, ap, subst, ◌∙◌, append_assoc, arith, inl}
use Rattle.std.proofs.Common.{inr, length-append}
use Rattle.std.specs.Prelude.{not, ◌&&◌, ◌↔◌}
use Rattle.std.specs.Io.KnownBytes.{Appends}
use Rattle.std.proofs.lemmas.List.{append-nil, take_at}
use Rattle.std.proofs.Math.Seq.{drop-append_seam, take-append-add}
use Rattle.feed_io.specs.Events.{Event}
use Rattle.session_fsm.specs.declared.items.Effect.{Effect}
use Rattle.urpf_base.specs.declared.sessions.SessionConfig.{SessionConfig}
use Rattle.report_text.specs.Lines.{end_line}
use Rattle.control_core.specs.States.{PeerState}
use Rattle.control_core.specs.declared.limits.Limits.{Limits}
use Rattle.control_core.specs.declared.limits.TheConstants.{ITEM_LIMIT, OCTET_LIMIT}
use Rattle.control_core.specs.declared.limits.RunFault.{RunFault}
use Rattle.control_core.specs.declared.limits.RunFault.TheVariants as refusal
use Rattle.control_core.specs.Controls.{goes_on}
use Rattle.control_core.specs.Items.{SameButCuts, octet_count}
use Rattle.control_core.specs.History.{StandsFor}
use Rattle.control_core.specs.Turns.{HadMemory}
use Rattle.control_core.specs.FeedCalls.{Gave, IsEmptied}
use Rattle.control_core.specs.Pulls.{reset_lines, IsEndText, IsPullText, Wrote, met_end, Pull, Pulled, EndsBy}
use Rattle.control_core.specs.Worlds.{Course}
use Rattle.control_core.proofs.PullLaws.{reset_lines-append}
use Rattle.run_lines.specs.Inputs.{Input, IsInput, total}
use Rattle.run_lines.specs.Places.{Reached, pulled}
use Rattle.run_lines.specs.RunText.{end_text, pull_text, resets}
use Rattle.run_lines.specs.Runs.{IsSessionAt, TookAll, TookFront, run_limits}
use Rattle.run_lines.specs.Slots.{Slot, left_in}
use Rattle.run_lines.proofs.Knowing.{Known, known, known_all, left_after, all_parts, octets_parted, rest_of_all, within}
use Rattle.run_lines.proofs.Leading.{at_most, leads, most_taken, told_end}

-- a session before a pull: it stands where the run is, and for its course
pub record Before (config : SessionConfig) (session : ℕ) (input : Input) (at : Reached) (course : Course)
    (peer : PeerState) (slot : Slot) : Type 0 where
  pub is : IsInput config input
  pub here : IsSessionAt input at course peer slot
  pub stands : StandsFor course.events course.effects peer
  pub configured : peer.session.config ≡ config
  pub number : peer.number ≡ session

-- the reset lines of the items that were taken between two places
pub resets_are : (session : ℕ) (input : Input) (before more : List Effect) → Known input (before ++ more)
    → resets session input (length before) (length (before ++ more)) ≡ reset_lines session (length before) more
resets_are session input before more known =
    let front : take (length (before ++ more)) input.course.effects ≡ before ++ more =
    ap (take (length (before ++ more))) known.parts ∙ take_at (before ++ more) known.later _ refl in
    ap (λ (es : List Effect). reset_lines session (length before) (drop (length before) es)) front
    ∙ ap (reset_lines session (length before)) (drop-append_seam before more)

-- what is known after a pull, whatever it ended with but want of memory
pub record Further (session : ℕ) (input : Input) (at : Reached) (course : Course) (gave : List Event)
    (more : List Effect) (old new : PeerState) (left : Option (List Event))
    (IsText : List ℕ → Type 0) : Type 0 where
  pub rest : List Event
  pub left_is : left ≡ Some rest
  pub same : SameButCuts input.course.events ((course.events ++ gave) ++ rest)
  pub fits : Known input (course.effects ++ more)
  pub met : met_end old new ≡ true → length (course.effects ++ more) ≡ total input
  pub text : (text : List ℕ) → IsText text
      → text
      ≡ resets session input at.taken (length (course.effects ++ more)) ++ end_text (met_end old new) session input

end_is : (config : SessionConfig) (met : Bool) (session : ℕ) (input : Input) (gave : List Event) (items : ℕ)
    (end : List ℕ) → IsInput config input
    → (met ≡ true → SameButCuts input.course.events (gave ++ []) × (items ≡ total input))
    → IsEndText session met gave items end → end ≡ end_text met session input
end_is config true session input gave items end all full is =
    let whole = full refl in
    is.2 ∙ ap (λ (n : ℕ). end_line session n is.0) whole.1
    ∙ ap (λ (r : ℕ). end_line session (total input) r) (rest_of_all config input gave is.0 all whole.0 is.1)
end_is config false session input gave items end all full is = is

pub emptied_is : (old new : Option (List Event)) (rest later : List Event) → old ≡ Some rest → new ≡ Some later
    → IsEmptied old new → later ≡ []
emptied_is None new rest later is now empty = let clash : None ≡ Some rest = is in cc
emptied_is (Some events) new rest later is now empty = let both : Some later ≡ Some [] = sym now ∙ empty in cc

pub further : (config : SessionConfig) (session : ℕ) (input : Input) (at : Reached) (course : Course)
    (peer new : PeerState) (slot : Slot) (new_left : Option (List Event)) (old_held new_held : Option (List ℕ))
    (result : Result (Unit {0}) RunFault) → (b : Before config session input at course peer slot)
    → (p : Pulled course.events course.effects (left_in slot) new_left old_held new_held result peer new)
    → new.session.config ≡ peer.session.config
    → Further session input at course p.gave p.more peer new new_left
    (IsPullText peer.number (course.events ++ p.gave) course.effects p.more (met_end peer new))
further config session input at course peer new slot new_left old_held new_held result b p same_config =
    let s = b.here in
    let left =
    left_after s.rest p.gave new_left (subst (λ (l : Option (List Event)). Gave l p.gave new_left) s.left_is p.told)
    in
    let gave : List Event = course.events ++ p.gave in
    let effects : List Effect = course.effects ++ p.more in
    let same : SameButCuts input.course.events (gave ++ left.0) =
    all_parts input.course.events course.events s.rest p.gave left.0 s.same left.2 in
    let now = known config input gave left.0 effects new b.is same p.stands (same_config ∙ b.configured) in
    let empty : met_end peer new ≡ true
    → left.0 ≡ [] = λ met. emptied_is (left_in slot) new_left s.rest left.0 s.left_is left.1 (p.emptied met).0 in
    let full : met_end peer new ≡ true
    → SameButCuts input.course.events (gave ++ []) × (length effects ≡ total input) = λ met.
    let whole : SameButCuts input.course.events (gave ++ []) =
    subst (λ (es : List Event). SameButCuts input.course.events (gave ++ es)) (empty met) same in
    (whole, known_all config input gave effects new b.is whole p.stands (p.emptied met).1) in
    record {
      rest = left.0;
      left_is = left.1;
      same = same;
      fits = now;
      met = λ met. (full met).1;
      text = λ text is.
          let own =
          subst (λ (n : ℕ). IsPullText n gave course.effects p.more (met_end peer new) text) b.number is in
          let lines : reset_lines session (length course.effects) p.more
          ≡ resets session input at.taken (length effects) =
          sym (resets_are session input course.effects p.more now)
          ∙ ap (λ (n : ℕ). resets session input n (length effects)) (sym s.taken) in
          own.parts
          ∙ ap (λ (t : List ℕ). reset_lines session (length course.effects) p.more ++ t)
          (end_is config (met_end peer new) session input gave (length course.effects + length p.more) own.end b.is
          (λ met. ((full met).0, sym (length-append course.effects p.more) ∙ (full met).1)) own.is_end)
          ∙ ap (λ (t : List ℕ). t ++ end_text (met_end peer new) session input) lines;
    }

-- a feed that met its end did so below both limits
met_below : (input : Input) (at : Reached) (count : Option ℕ) (limits : Limits) (old new : PeerState)
    (gave rest : List Event) (effects : List Effect)
    → old.ended ≡ at.ended → (at.ended ≡ true → total input < ITEM_LIMIT)
    → (at.ended ≡ true → octet_count input.course.events < OCTET_LIMIT) → limits ≡ run_limits
    → StandsFor gave effects new → SameButCuts input.course.events (gave ++ rest)
    → (met_end old new ≡ true → length effects ≡ total input) → (met_end old new ≡ true → rest ≡ [])
    → EndsBy count limits old new (Ok tt) → new.ended ≡ true
    → (total input < ITEM_LIMIT) × (octet_count input.course.events < OCTET_LIMIT)
met_below input at count limits old new gave rest effects ended few octets own stands same full none (inl after) is =
    (few (sym ended ∙ after.0), octets (sym ended ∙ after.0))
met_below input at count limits old new gave rest effects ended few octets own stands same full none
    (inr (unmet, inl end)) is =
    let met : met_end old new ≡ true = ap (λ (b : Bool). not b && new.ended) unmet ∙ end.0 in
    let items : new.session.items < ITEM_LIMIT = subst (λ (l : Limits). new.session.items < l.items) own end.2 in
    let given : new.octets < OCTET_LIMIT = subst (λ (l : Limits). new.octets < l.octets) own end.3 in
    let count : octet_count input.course.events ≡ octet_count gave + octet_count rest =
    octets_parted input.course.events gave rest same in
    let none_left : octet_count rest ≡ 0 = ap octet_count (none met) in
    (omega (arith, items, stands.counted, full met), omega (arith, given, stands.octets, count, none_left))
met_below input at count limits old new gave rest effects ended few octets own stands same full none (inr
    (unmet, inr on)) is =
    let clash : true ≡ false = sym is ∙ on.0 in cc

-- where a pull that ended well leads, and what it wrote
pub record PulledWell (session : ℕ) (input : Input) (at : Reached) (count : Option ℕ) (course : Course)
    (new : PeerState) (slot : Slot) (old_held new_held : Option (List ℕ)) : Type 0 where
  pub gave : List Event
  pub more : List Effect
  pub stands : StandsFor (course.events ++ gave) (course.effects ++ more) new
  pub here : IsSessionAt input (pulled (total input) count at) (goes_on course gave more) new slot
  pub took : TookAll (λ text. text ≡ pull_text session input at (pulled (total input) count at)) old_held new_held

pub pulls_well : (config : SessionConfig) (session : ℕ) (input : Input) (at : Reached) (count : Option ℕ)
    (course : Course) (limits : Limits) (peer new : PeerState) (slot next_slot : Slot)
    (old_held new_held : Option (List ℕ)) → limits ≡ run_limits
    → Before config session input at course peer slot
    → Pull count limits (left_in slot) (left_in next_slot) old_held new_held (Ok tt) peer new
    → next_slot ≡ None ↔ new.ended ≡ true
    → PulledWell session input at count course new next_slot old_held new_held
pulls_well config session input at count course limits peer new slot next_slot old_held new_held largest b pull gone =
    let s = b.here in
    let p = pull.pulled course.events course.effects b.stands tt in
    let f =
    further config session input at course peer new slot (left_in next_slot) old_held new_held (Ok tt) b p pull.config in
    let effects : List Effect = course.effects ++ p.more in
    let items : new.session.items ≡ length effects = p.stands.counted in
    let taken : at.taken ≡ peer.session.items = s.taken ∙ sym b.stands.counted in
    let lead =
    leads at count limits peer new (total input) taken s.ended s.all_taken
    (omega (arith, items, within input effects f.fits)) (λ met. items ∙ f.met met) pull.most pull.ends in
    let next : Reached = pulled (total input) count at in
    let next_taken : next.taken ≡ length effects = lead.taken_is ∙ items in
    let met : met_end peer new ≡ (not at.ended && next.ended) =
    ap (λ (b : Bool). not b && new.ended) s.ended ∙ ap (λ (b : Bool). not at.ended && b) (sym lead.ended_is) in
    let below : next.ended ≡ true → (total input < ITEM_LIMIT) × (octet_count input.course.events < OCTET_LIMIT) =
    λ is. met_below input at count limits peer new (course.events ++ p.gave) f.rest effects s.ended s.few_items
    s.few_octets largest p.stands f.same f.met
    (λ met. emptied_is (left_in slot) (left_in next_slot) s.rest f.rest s.left_is f.left_is (p.emptied met).0) pull.ends
    (sym lead.ended_is ∙ is) in
    let limit : limits.items ≡ ITEM_LIMIT = ap (λ (l : Limits). l.items) largest in
    let stayed : new.session.items
    ≤ ITEM_LIMIT = omega (arith, limit, pull.within.0 (omega (arith, limit, s.within, s.taken, b.stands.counted)))
    in
    let wrote = p.wrote in
    record {
      gave = p.gave;
      more = p.more;
      stands = p.stands;
      here = record {
        rest = f.rest;
        left_is = f.left_is;
        emptied = (λ is. lead.ended_is ∙ gone.0 is, λ is. gone.1 (sym lead.ended_is ∙ is));
        same = f.same;
        taken = next_taken;
        ended = sym lead.ended_is;
        all_taken = λ is. lead.taken_is ∙ lead.all_taken (sym lead.ended_is ∙ is);
        within = omega (arith, lead.taken_is, stayed);
        few_items = λ is. (below is).0;
        few_octets = λ is. (below is).1;
      };
      took = record {
        text = wrote.0;
        is = f.text wrote.0 wrote.1
            ∙ ap (λ (n : ℕ). resets session input at.taken n ++ end_text (met_end peer new) session input)
            (sym next_taken)
            ∙ ap (λ (b : Bool). resets session input at.taken next.taken ++ end_text b session input) met;
        appended = wrote.2;
      };
    }

-- what a sink took of a text, whatever the pull ended with but want of memory
wrote_front : (fault : RunFault) (IsText : List ℕ → Type 0) (old new : Option (List ℕ))
    → Wrote (Err fault) IsText old new → HadMemory {T = Unit {0}} (Err fault) → TookFront IsText old new
wrote_front (refusal.ReadFault session) IsText old new wrote had =
    record { front = wrote.0; more = []; is = subst IsText (sym (append-nil wrote.0)) wrote.1; appended = wrote.2 }
wrote_front refusal.WriteFault IsText old new wrote had =
    record { front = wrote.0; more = wrote.1; is = wrote.2; appended = wrote.3 }
wrote_front (refusal.ItemLimit session) IsText old new wrote had =
    record { front = wrote.0; more = []; is = subst IsText (sym (append-nil wrote.0)) wrote.1; appended = wrote.2 }
wrote_front (refusal.OctetLimit session) IsText old new wrote had =
    record { front = wrote.0; more = []; is = subst IsText (sym (append-nil wrote.0)) wrote.1; appended = wrote.2 }
wrote_front refusal.OutOfMemory IsText old new wrote had = absurd had

-- the lines of the resets among some items are a front of those among more
resets_longer : (session : ℕ) (input : Input) (before more : List Effect) (next : ℕ) → Known input (before ++ more)
    → length (before ++ more) ≤ next
    → (later : List ℕ)
    × (resets session input (length before) next
    ≡ resets session input (length before) (length (before ++ more)) ++ later)
resets_longer session input before more next known less =
    let gap : ℕ = next - length (before ++ more) in
    let effects : List Effect = before ++ more in
    let longer : List Effect = take gap known.later in
    let front : take next input.course.effects ≡ before ++ (more ++ longer) =
    ap (take next) known.parts ∙ taken_on effects known.later next less
    ∙ append_assoc before more longer in
    let whole : resets session input (length before) next
    ≡ reset_lines session (length before) (more ++ longer) =
    ap (λ (es : List Effect). reset_lines session (length before) (drop (length before) es)) front
    ∙ ap (reset_lines session (length before)) (drop-append_seam before (more ++ longer)) in (
      reset_lines session (length before + length more) longer,
      whole ∙ reset_lines-append session (length before) more longer
          ∙ ap (λ (t : List ℕ). t ++ reset_lines session (length before + length more) longer)
          (sym (resets_are session input before more known)),
    )
  where
    taken_on : (xs ys : List Effect) (n : ℕ) → length xs ≤ n → take n (xs ++ ys) ≡ xs ++ take (n - length xs) ys
    taken_on xs ys n less =
        ap (λ (m : ℕ). take m (xs ++ ys)) (omega (arith, less)) ∙ take-append-add xs ys (n - length xs)

-- what was written of some items of a pull is a front of what the whole pull writes
front_of_pull : (session : ℕ) (input : Input) (at next : Reached) (before more : List Effect)
    (end front rest : List ℕ) (old new : Option (List ℕ))
    → at.taken ≡ length before → Known input (before ++ more) → length (before ++ more) ≤ next.taken
    → (end ≡ [])
    ⊎ ((length (before ++ more) ≡ next.taken) × (end ≡ end_text (not at.ended && next.ended) session input))
    → resets session input at.taken (length (before ++ more)) ++ end ≡ front ++ rest → Appends old new front
    → TookFront (λ text. text ≡ pull_text session input at next) old new
front_of_pull session input at next before more end front rest old new taken known less (inl none) parts appended =
    let tail : List ℕ = end_text (not at.ended && next.ended) session input in
    let lines : List ℕ = resets session input at.taken (length (before ++ more)) in
    let longer = resets_longer session input before more next.taken known less in
    let whole : resets session input at.taken next.taken ≡ lines ++ longer.0 =
    ap (λ (n : ℕ). resets session input n next.taken) taken ∙ longer.1
    ∙ ap (λ (n : ℕ). resets session input n (length (before ++ more)) ++ longer.0) (sym taken) in
    let own : lines ≡ front ++ rest = sym (append-nil lines) ∙ ap (λ (t : List ℕ). lines ++ t) (sym none) ∙ parts in
    record {
      front = front;
      more = rest ++ (longer.0 ++ tail);
      is = sym (append_assoc front rest (longer.0 ++ tail)) ∙ ap (λ (t : List ℕ). t ++ (longer.0 ++ tail)) (sym own)
          ∙ sym (append_assoc lines longer.0 tail) ∙ ap (λ (t : List ℕ). t ++ tail) (sym whole);
      appended = appended;
    }
front_of_pull session input at next before more end front rest old new taken known less (inr all) parts appended =
    let tail : List ℕ = end_text (not at.ended && next.ended) session input in
    record {
      front = front;
      more = rest;
      is = sym parts ∙ ap (λ (t : List ℕ). resets session input at.taken (length (before ++ more)) ++ t) all.1
          ∙ ap (λ (n : ℕ). resets session input at.taken n ++ tail) all.0;
      appended = appended;
    }

-- the end that a pull which stopped had written: none, or it is that of the whole pull
end_or_none : (session : ℕ) (input : Input) (at next : Reached) (upto : ℕ) (met : Bool)
    → (met ≡ true → (upto ≡ next.taken) × ((not at.ended && next.ended) ≡ true))
    → (end_text met session input ≡ [])
    ⊎ ((upto ≡ next.taken) × (end_text met session input ≡ end_text (not at.ended && next.ended) session input))
end_or_none session input at next upto true all =
    let is = all refl in inr (is.0, ap (λ (b : Bool). end_text b session input) (sym is.1))
end_or_none session input at next upto false all = inl refl

-- a pull that stopped
pull_stopped : (config : SessionConfig) (session : ℕ) (input : Input) (at : Reached) (count : Option ℕ)
    (course : Course) (limits : Limits) (peer new : PeerState) (slot : Slot) (new_left : Option (List Event))
    (old_held new_held : Option (List ℕ)) (fault : RunFault)
    → Before config session input at course peer slot
    → Pull count limits (left_in slot) new_left old_held new_held (Err fault) peer new
    → HadMemory {T = Unit {0}} (Err fault)
    → TookFront (λ text. text ≡ pull_text session input at (pulled (total input) count at)) old_held new_held
pull_stopped config session input at count course limits peer new slot new_left old_held new_held fault b pull had =
    let s = b.here in
    let p = pull.pulled course.events course.effects b.stands had in
    let f =
    further config session input at course peer new slot new_left old_held new_held (Err fault) b p pull.config in
    let next : Reached = pulled (total input) count at in
    let met : Bool = met_end peer new in
    let effects : List Effect = course.effects ++ p.more in
    let taken : at.taken ≡ peer.session.items = s.taken ∙ sym b.stands.counted in
    let wrote =
    wrote_front fault (IsPullText peer.number (course.events ++ p.gave) course.effects p.more met) old_held new_held
    p.wrote had in
    let most =
    most_taken (total input) count at peer new taken pull.most
    (omega (arith, p.stands.counted, within input effects f.fits)) in
    front_of_pull session input at next course.effects p.more (end_text met session input) wrote.front wrote.more
    old_held new_held s.taken f.fits (omega (arith, most, p.stands.counted))
    (end_or_none session input at next (length effects) met
    (λ is. told_end (total input) count at limits peer new fault (length effects) taken s.ended pull.ends
    p.stands.counted (at_most count peer new pull.most).0 (f.met is) is))
    (sym (f.text (wrote.front ++ wrote.more) wrote.is)) wrote.appended

-- a pull that memory ran out for
pull_starved : (config : SessionConfig) (session : ℕ) (input : Input) (at : Reached) (count : Option ℕ)
    (course : Course) (limits : Limits) (peer new : PeerState) (slot : Slot) (new_left : Option (List Event))
    (old_held new_held : Option (List ℕ))
    → Before config session input at course peer slot
    → Pull count limits (left_in slot) new_left old_held new_held (Err refusal.OutOfMemory) peer new
    → TookFront (λ text. text ≡ pull_text session input at (pulled (total input) count at)) old_held new_held
pull_starved config session input at count course limits peer new slot new_left old_held new_held b pull =
    let s = b.here in
    let stop = pull.stopped course.events course.effects b.stands refl in
    let left =
    left_after s.rest stop.gave new_left
    (subst (λ (l : Option (List Event)). Gave l stop.gave new_left) s.left_is stop.told) in
    let effects : List Effect = course.effects ++ stop.more in
    let same : SameButCuts input.course.events ((course.events ++ stop.gave) ++ left.0) =
    all_parts input.course.events course.events s.rest stop.gave left.0 s.same left.2 in
    let now =
    known config input (course.events ++ stop.gave) left.0 effects new b.is same stop.stands
    (pull.config ∙ b.configured) in
    let taken : at.taken ≡ peer.session.items = s.taken ∙ sym b.stands.counted in
    let most =
    most_taken (total input) count at peer new taken pull.most
    (omega (arith, stop.stands.counted, within input effects now)) in
    let lines : List ℕ = resets session input at.taken (length effects) in
    let wrote : reset_lines peer.number (length course.effects) stop.more ≡ lines =
    ap (λ (n : ℕ). reset_lines n (length course.effects) stop.more) b.number
    ∙ sym (resets_are session input course.effects stop.more now)
    ∙ ap (λ (n : ℕ). resets session input n (length effects)) (sym s.taken) in
    front_of_pull session input at (pulled (total input) count at) course.effects stop.more [] lines [] old_held
    new_held s.taken now (omega (arith, most, stop.stands.counted)) (inl refl) refl
    (subst (λ (t : List ℕ). Appends old_held new_held t) wrote stop.wrote)

-- the front that a pull wrote before it stopped, by whether memory ran out
pub pull_front : (config : SessionConfig) (session : ℕ) (input : Input) (at : Reached) (count : Option ℕ)
    (course : Course) (limits : Limits) (peer new : PeerState) (slot : Slot) (new_left : Option (List Event))
    (old_held new_held : Option (List ℕ)) (fault : RunFault)
    → Before config session input at course peer slot
    → Pull count limits (left_in slot) new_left old_held new_held (Err fault) peer new
    → TookFront (λ text. text ≡ pull_text session input at (pulled (total input) count at)) old_held new_held
pull_front config session input at count course limits peer new slot new_left old_held new_held
    (refusal.ReadFault n) b pull =
    pull_stopped config session input at count course limits peer new slot new_left old_held new_held
    (refusal.ReadFault n) b pull tt
pull_front config session input at count course limits peer new slot new_left old_held new_held
    refusal.WriteFault b pull =
    pull_stopped config session input at count course limits peer new slot new_left old_held new_held
    refusal.WriteFault b pull tt
pull_front config session input at count course limits peer new slot new_left old_held new_held
    (refusal.ItemLimit n) b pull =
    pull_stopped config session input at count course limits peer new slot new_left old_held new_held
    (refusal.ItemLimit n) b pull tt
pull_front config session input at count course limits peer new slot new_left old_held new_held
    (refusal.OctetLimit n) b pull =
    pull_stopped config session input at count course limits peer new slot new_left old_held new_held
    (refusal.OctetLimit n) b pull tt
pull_front config session input at count course limits peer new slot new_left old_held new_held
    refusal.OutOfMemory b pull =
    pull_starved config session input at count course limits peer new slot new_left old_held new_held b pull
