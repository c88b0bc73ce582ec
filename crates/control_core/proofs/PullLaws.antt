-- A pull as it goes on: the items that it took so far, and what it wrote.
use Rattle.std.proofs.Common.{◌≡◌, ℕ, ◌+◌, ◌≤◌, Bool, true, false, List, [], ◌∷◌, ◌++◌, length, take, drop}
use Rattle.std.proofs.Common.{Option, Some, None, Result, Ok, Err, refl, sym, ap, subst, ◌∙◌, append_assoc, arith}
use Rattle.std.proofs.Common.{length-append, add-zero}
use Rattle.std.specs.Prelude.{not, ◌&&◌}
use Rattle.std.specs.Io.KnownBytes.{Appends}
use Rattle.std.proofs.lemmas.List.{append-nil, take-append-drop}
use Rattle.feed_io.specs.Events.{Event}
use Rattle.session_fsm.specs.declared.items.Effect.{Effect}
use Rattle.report_text.specs.Lines.{end_line}
use Rattle.control_core.specs.declared.limits.RunFault.{RunFault}
use Rattle.control_core.specs.declared.limits.RunFault.TheVariants.{ReadFault, WriteFault, ItemLimit, OctetLimit}
use Rattle.control_core.specs.declared.limits.RunFault.TheVariants.{OutOfMemory}
use Rattle.control_core.specs.States.{PeerState}
use Rattle.control_core.specs.declared.peering.Turn.{Turn}
use Rattle.control_core.specs.declared.peering.Turn.TheVariants.{Took, End}
use Rattle.control_core.specs.Items.{IsRest, spread}
use Rattle.control_core.specs.History.{StandsFor}
use Rattle.bgp_wire.specs.Frames.{IsShort}
use Rattle.control_core.specs.ItemSteps.{reset_of}
use Rattle.control_core.specs.Turns.{Turned}
use Rattle.control_core.specs.FeedCalls.{Gave, IsEmptied}
use Rattle.control_core.specs.Pulls.{reset_text, reset_lines, IsEndText}
use Rattle.control_core.specs.Pulls.{IsPullText, Wrote, met_end, Pulled}
use Rattle.urpf_base.specs.declared.sessions.ResetCause.{ResetCause}
use Rattle.urpf_base.proofs.Growth.{Appends-append}
use Rattle.control_core.proofs.ItemLaws.{spread-append}
use Rattle.control_core.proofs.TurnEnds.{gave_none, no_event}

-- nothing was appended
pub appends_none : (held : Option (List ℕ)) → Appends held held []
appends_none None = tt
appends_none (Some octets) = sym (append-nil octets)

-- what a feed gave in two calls
pub gave_more : (old mid new : Option (List Event)) (first second : List Event) → Gave old first mid
    → Gave mid second new → Gave old (first ++ second) new
gave_more None mid new first second gave more = tt
gave_more (Some old) None new first second gave more = absurd gave
gave_more (Some old) (Some mid) None first second gave more = absurd more
gave_more (Some old) (Some mid) (Some new) first second gave more =
    gave ∙ spread-append first mid ∙ ap (λ (es : List Event). spread first ++ es) more
    ∙ sym (spread-append first (second ++ new)) ∙ ap spread (sym (append_assoc first second new))

-- the lines of resets, and of one more item
pub reset_lines-push : (session number : ℕ) (effects : List Effect) (effect : Effect)
    → reset_lines session number (effects ++ effect ∷ []) ≡ reset_lines session number effects
    ++ reset_text session (number + length effects + 1) (reset_of effect)
reset_lines-push session number [] effect =
    append-nil (reset_text session (number + 1) (reset_of effect))
    ∙ ap (λ (n : ℕ). reset_text session (n + 1) (reset_of effect)) (sym (add-zero number))
reset_lines-push session number (first ∷ effects) effect =
    let same : number + 1 + length effects + 1 ≡ number + length (first ∷ effects) + 1 = omega arith in
    ap (λ (t : List ℕ). reset_text session (number + 1) (reset_of first) ++ t)
    (reset_lines-push session (number + 1) effects effect)
    ∙ sym (append_assoc (reset_text session (number + 1) (reset_of first)) (reset_lines session (number + 1) effects)
    (reset_text session (number + 1 + length effects + 1) (reset_of effect)))
    ∙ ap (λ (n : ℕ). reset_lines session number (first ∷ effects) ++ reset_text session n (reset_of effect)) same

-- the lines of resets, and of those behind them
pub reset_lines-append : (session number : ℕ) (effects later : List Effect)
    → reset_lines session number (effects ++ later) ≡ reset_lines session number effects
    ++ reset_lines session (number + length effects) later
reset_lines-append session number [] later = ap (λ (n : ℕ). reset_lines session n later) (sym (add-zero number))
reset_lines-append session number (first ∷ effects) later =
    let same : number + 1 + length effects ≡ number + length (first ∷ effects) = omega arith in
    ap (λ (t : List ℕ). reset_text session (number + 1) (reset_of first) ++ t)
    (reset_lines-append session (number + 1) effects later)
    ∙ sym (append_assoc (reset_text session (number + 1) (reset_of first)) (reset_lines session (number + 1) effects)
    (reset_lines session (number + 1 + length effects) later))
    ∙ ap (λ (n : ℕ). reset_lines session number (first ∷ effects) ++ reset_lines session n later) same

-- how far a pull has come, from where it began
pub record SoFar (session : ℕ) (events : List Event) (effects : List Effect) (old_left left : Option (List Event))
    (old_held held : Option (List ℕ)) (now : PeerState) : Type 0 where
  pub gave : List Event
  pub more : List Effect
  pub told : Gave old_left gave left
  pub stands : StandsFor (events ++ gave) (effects ++ more) now
  pub wrote : Appends old_held held (reset_lines session (length effects) more)

pub so_far_begins : (session : ℕ) (events : List Event) (effects : List Effect) (left : Option (List Event))
    (held : Option (List ℕ)) (now : PeerState) → StandsFor events effects now
    → SoFar session events effects left left held held now
so_far_begins session events effects left held now stands = record {
  gave = [];
  more = [];
  told = gave_none left;
  stands =
      subst (λ (es : List Effect). StandsFor (events ++ []) es now) (sym (append-nil effects))
      (no_event events effects now stands);
  wrote = appends_none held;
}

-- a session that stands for events and effects that came in three parts
in_parts : (events first second : List Event) (effects some others : List Effect) (now : PeerState)
    → StandsFor ((events ++ first) ++ second) ((effects ++ some) ++ others) now
    → StandsFor (events ++ (first ++ second)) (effects ++ (some ++ others)) now
in_parts events first second effects some others now stands =
    subst (λ (es : List Event). StandsFor es (effects ++ (some ++ others)) now) (append_assoc events first second)
    (subst (λ (es : List Effect). StandsFor ((events ++ first) ++ second) es now) (append_assoc effects some others)
    stands)

-- a turn that took no item goes on
pub so_far_none : (session : ℕ) (events : List Event) (effects : List Effect)
    (old_left mid_left new_left : Option (List Event)) (old_held held : Option (List ℕ)) (mid new : PeerState)
    (result : Result Turn RunFault)
    → (far : SoFar session events effects old_left mid_left old_held held mid)
    → (turned : Turned (events ++ far.gave) (effects ++ far.more) mid_left new_left result new) → turned.more ≡ []
    → SoFar session events effects old_left new_left old_held held new
so_far_none session events effects old_left mid_left new_left old_held held mid new result far turned none = record {
  gave = far.gave ++ turned.gave;
  more = far.more;
  told = gave_more old_left mid_left new_left far.gave turned.gave far.told turned.told;
  stands =
      subst (λ (es : List Effect). StandsFor (events ++ (far.gave ++ turned.gave)) (effects ++ es) new)
      (ap (λ (es : List Effect). far.more ++ es) none ∙ append-nil far.more)
      (in_parts events far.gave turned.gave effects far.more turned.more new turned.stands);
  wrote = far.wrote;
}

-- the item that a turn took, and how many there are then
pub record OneMore (session : ℕ) (events : List Event) (effects : List Effect) (old_left new_left : Option (List Event))
    (old_held mid_held : Option (List ℕ)) (reset : Option ResetCause) (new : PeerState) : Type 0 where
  pub gave : List Event
  pub more : List Effect
  pub effect : Effect
  pub told : Gave old_left gave new_left
  pub stands : StandsFor (events ++ gave) (effects ++ (more ++ effect ∷ [])) new
  pub wrote : Appends old_held mid_held (reset_lines session (length effects) more)
  pub text : reset_text session new.session.items reset
      ≡ reset_text session (length effects + length more + 1) (reset_of effect)

pub one_more_item : (session : ℕ) (events : List Event) (effects : List Effect)
    (old_left mid_left new_left : Option (List Event)) (old_held held : Option (List ℕ)) (mid new : PeerState)
    (reset : Option ResetCause)
    → (far : SoFar session events effects old_left mid_left old_held held mid)
    → Turned (events ++ far.gave) (effects ++ far.more) mid_left new_left (Ok (Took reset)) new
    → OneMore session events effects old_left new_left old_held held reset new
one_more_item session events effects old_left mid_left new_left old_held held mid new reset far turned =
    let effect = turned.shows.0 in
    let all : StandsFor (events ++ (far.gave ++ turned.gave)) (effects ++ (far.more ++ effect ∷ [])) new =
    subst (λ (es : List Effect). StandsFor (events ++ (far.gave ++ turned.gave)) (effects ++ (far.more ++ es)) new)
    turned.shows.1 (in_parts events far.gave turned.gave effects far.more turned.more new turned.stands) in
    let count : new.session.items ≡ length effects + length far.more + 1 =
    let counted =
    all.counted in
    omega (
      arith,
      counted,
      length-append effects (far.more ++ effect ∷ []),
      length-append far.more (effect ∷ []),
    ) in
    record {
      gave = far.gave ++ turned.gave;
      more = far.more;
      effect = effect;
      told = gave_more old_left mid_left new_left far.gave turned.gave far.told turned.told;
      stands = all;
      wrote = far.wrote;
      text = ap (λ (n : ℕ). reset_text session n reset) count
          ∙ ap (reset_text session (length effects + length far.more + 1)) turned.shows.2;
    }

pub so_far_item : (session : ℕ) (events : List Event) (effects : List Effect) (old_left new_left : Option (List Event))
    (old_held mid_held new_held : Option (List ℕ)) (new : PeerState) (reset : Option ResetCause)
    → OneMore session events effects old_left new_left old_held mid_held reset new
    → Appends mid_held new_held (reset_text session new.session.items reset)
    → SoFar session events effects old_left new_left old_held new_held new
so_far_item session events effects old_left new_left old_held mid_held new_held new reset one appended = record {
  gave = one.gave;
  more = one.more ++ one.effect ∷ [];
  told = one.told;
  stands = one.stands;
  wrote =
      subst (Appends old_held new_held)
      (ap (λ (t : List ℕ). reset_lines session (length effects) one.more ++ t) one.text
      ∙ sym (reset_lines-push session (length effects) one.more one.effect))
      (Appends-append old_held mid_held new_held (reset_lines session (length effects) one.more)
      (reset_text session new.session.items reset) one.wrote appended);
}

never : (b : Bool) → (b && false) ≡ false
never true = refl
never false = refl

-- the end was not met
not_met : (old new : PeerState) → new.ended ≡ false → met_end old new ≡ false
not_met old new is = ap (λ (b : Bool). not old.ended && b) is ∙ never (not old.ended)

is_met : (old new : PeerState) → old.ended ≡ false → new.ended ≡ true → met_end old new ≡ true
is_met old new is now = ap (λ (b : Bool). not b && new.ended) is ∙ now

pub no_end : (session : ℕ) (events : List Event) (before more : List Effect) (met : Bool) → met ≡ false
    → IsPullText session events before more met (reset_lines session (length before) more)
no_end session events before more met is = record {
  end = [];
  is_end = subst (λ (b : Bool). IsEndText session b events (length before + length more) []) (sym is) refl;
  parts = sym (append-nil (reset_lines session (length before) more));
}

-- all that was to be written was
abbrev pub IsWritten : Result (Unit {0}) RunFault → Type 0
IsWritten (Ok done) = Unit {0}
IsWritten (Err (ReadFault session)) = Unit {0}
IsWritten (Err WriteFault) = ⊥
IsWritten (Err (ItemLimit session)) = Unit {0}
IsWritten (Err (OctetLimit session)) = Unit {0}
IsWritten (Err OutOfMemory) = ⊥

wrote_all : (result : Result (Unit {0}) RunFault) (IsText : List ℕ → Type 0) (old new : Option (List ℕ)) (text : List ℕ)
    → IsWritten result → IsText text → Appends old new text → Wrote result IsText old new
wrote_all (Ok done) IsText old new text written is appended = (text, is, appended)
wrote_all (Err (ReadFault session)) IsText old new text written is appended = (text, is, appended)
wrote_all (Err WriteFault) IsText old new text written is appended = absurd written
wrote_all (Err (ItemLimit session)) IsText old new text written is appended = (text, is, appended)
wrote_all (Err (OctetLimit session)) IsText old new text written is appended = (text, is, appended)
wrote_all (Err OutOfMemory) IsText old new text written is appended = absurd written

-- a pull that ends here, before the end of the feed
pub pulled_so_far : (events : List Event) (effects : List Effect) (old_left new_left : Option (List Event))
    (old_held new_held : Option (List ℕ)) (result : Result (Unit {0}) RunFault) (old new : PeerState)
    → SoFar old.number events effects old_left new_left old_held new_held new → new.ended ≡ false → IsWritten result
    → Pulled events effects old_left new_left old_held new_held result old new
pulled_so_far events effects old_left new_left old_held new_held result old new far unmet written = record {
  gave = far.gave;
  more = far.more;
  told = far.told;
  stands = far.stands;
  emptied = λ met. let clash : true ≡ false = sym met ∙ not_met old new unmet in cc;
  wrote = wrote_all result (IsPullText old.number (events ++ far.gave) effects far.more (met_end old new)) old_held
      new_held (reset_lines old.number (length effects) far.more) written
      (no_end old.number (events ++ far.gave) effects far.more (met_end old new) (not_met old new unmet)) far.wrote;
}

cut_at_reset : (events : List Event) (effects : List Effect) (old_left new_left : Option (List Event))
    (old_held mid_held new_held : Option (List ℕ)) (old new : PeerState) (reset : Option ResetCause) (n : ℕ)
    → OneMore old.number events effects old_left new_left old_held mid_held reset new → new.ended ≡ false
    → Appends mid_held new_held (take n (reset_text old.number new.session.items reset))
    → Pulled events effects old_left new_left old_held new_held (Err WriteFault) old new
cut_at_reset events effects old_left new_left old_held mid_held new_held old new reset n one unmet appended =
    let line = reset_text old.number new.session.items reset in
    let lines = reset_lines old.number (length effects) one.more in
    let whole : (lines ++ take n line) ++ drop n line
    ≡ reset_lines old.number (length effects) (one.more ++ one.effect ∷ []) =
    append_assoc lines (take n line) (drop n line)
    ∙ ap (λ (t : List ℕ). lines ++ t) (take-append-drop n line ∙ one.text)
    ∙ sym (reset_lines-push old.number (length effects) one.more one.effect) in
    let met = not_met old new unmet in
    record {
      gave = one.gave;
      more = one.more ++ one.effect ∷ [];
      told = one.told;
      stands = one.stands;
      emptied = λ is. let clash : true ≡ false = sym is ∙ met in cc;
      wrote = (
        lines ++ take n line,
        drop n line,
        subst (IsPullText old.number (events ++ one.gave) effects (one.more ++ one.effect ∷ []) (met_end old new))
            (sym whole)
            (no_end old.number (events ++ one.gave) effects (one.more ++ one.effect ∷ []) (met_end old new) met),
        Appends-append old_held mid_held new_held lines (take n line) one.wrote appended,
      );
    }

-- a pull whose line of a reset could not be written whole
pub pulled_cut : (events : List Event) (effects : List Effect) (old_left new_left : Option (List Event))
    (old_held mid_held new_held : Option (List ℕ)) (fault : RunFault) (old new : PeerState) (reset : Option ResetCause)
    (n : ℕ) → fault ≡ WriteFault
    → OneMore old.number events effects old_left new_left old_held mid_held reset new → new.ended ≡ false
    → Appends mid_held new_held (take n (reset_text old.number new.session.items reset))
    → Pulled events effects old_left new_left old_held new_held (Err fault) old new
pulled_cut events effects old_left new_left old_held mid_held new_held fault old new reset n is one unmet appended =
    subst (λ (f : RunFault). Pulled events effects old_left new_left old_held new_held (Err f) old new) (sym is)
    (cut_at_reset events effects old_left new_left old_held mid_held new_held old new reset n one unmet appended)

emptied_through : (old mid new : Option (List Event)) (gave : List Event) → Gave old gave mid → IsEmptied mid new
    → IsEmptied old new
emptied_through None mid new gave told is = tt
emptied_through (Some events) None new gave told is = absurd told
emptied_through (Some events) (Some others) new gave told is = is

-- what a sink took of the end line
abbrev pub TookEnd : Result (Unit {0}) RunFault → Option (List ℕ) → Option (List ℕ) → List ℕ → Type 0
TookEnd (Ok done) old new line = Appends old new line
TookEnd (Err fault) old new line =
    (fault ≡ WriteFault) × ((n : ℕ) × (n ≤ length line) × Appends old new (take n line))

wrote_end : (result : Result (Unit {0}) RunFault) (IsText : List ℕ → Type 0) (old mid new : Option (List ℕ))
    (lines line : List ℕ) → IsText (lines ++ line) → Appends old mid lines → TookEnd result mid new line
    → Wrote result IsText old new
wrote_end (Ok done) IsText old mid new lines line is first took =
    (lines ++ line, is, Appends-append old mid new lines line first took)
wrote_end (Err fault) IsText old mid new lines line is first took =
    let n = took.1.0 in
    subst (λ (f : RunFault). Wrote (Err f) IsText old new) (sym took.0) (
      lines ++ take n line,
      drop n line,
      subst IsText
          (sym (append_assoc lines (take n line) (drop n line)
          ∙ ap (λ (t : List ℕ). lines ++ t) (take-append-drop n line))) is,
      Appends-append old mid new lines (take n line) first took.1.2,
    )

-- a pull that met the end of the feed
pub pulled_end : (events : List Event) (effects : List Effect) (old_left mid_left new_left : Option (List Event))
    (old_held mid_held new_held : Option (List ℕ)) (result : Result (Unit {0}) RunFault) (old mid new : PeerState)
    (rest : ℕ)
    → (far : SoFar old.number events effects old_left mid_left old_held mid_held mid)
    → Turned (events ++ far.gave) (effects ++ far.more) mid_left new_left (Ok (End rest)) new
    → old.ended ≡ false → new.ended ≡ true → IsShort new.held
    → TookEnd result mid_held new_held (end_line old.number new.session.items rest)
    → Pulled events effects old_left new_left old_held new_held result old new
pulled_end events effects old_left mid_left new_left old_held mid_held new_held result old mid new rest far turned unmet
    ended short took =
    let all : StandsFor (events ++ (far.gave ++ turned.gave)) (effects ++ far.more) new = subst
    (λ (es : List Effect). StandsFor (events ++ (far.gave ++ turned.gave)) (effects ++ es) new)
    (ap (λ (es : List Effect). far.more ++ es) turned.shows.0 ∙ append-nil far.more)
    (in_parts events far.gave turned.gave effects far.more turned.more new turned.stands) in
    let met = is_met old new unmet ended in
    let count : new.session.items ≡ length effects + length far.more = let counted = all.counted in
    omega (arith, counted, length-append effects far.more) in
    let left : IsRest (events ++ (far.gave ++ turned.gave)) rest = subst (λ (es : List Event). IsRest es rest)
    (append_assoc events far.gave turned.gave) turned.shows.1 in
    record {
      gave = far.gave ++ turned.gave;
      more = far.more;
      told = gave_more old_left mid_left new_left far.gave turned.gave far.told turned.told;
      stands = all;
      emptied = λ is. (emptied_through old_left mid_left new_left far.gave far.told turned.shows.2, short);
      wrote = wrote_end result
          (IsPullText old.number (events ++ (far.gave ++ turned.gave)) effects far.more (met_end old new)) old_held
          mid_held new_held (reset_lines old.number (length effects) far.more)
          (end_line old.number new.session.items rest)
          (record {
            end = end_line old.number new.session.items rest;
            is_end =
                subst (λ (b : Bool). IsEndText old.number b (events ++ (far.gave ++ turned.gave))
                (length effects + length far.more) (end_line old.number new.session.items rest)) (sym met)
                (rest, left, ap (λ (n : ℕ). end_line old.number n rest) count);
            parts = refl;
          })
          far.wrote took;
    }
