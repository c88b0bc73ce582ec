-- Words and a stream come to one end.
use Rattle.std.proofs.Common.{true, ◌≡◌, ◌⊎◌, ℕ, suc, ◌+◌, ◌<◌, ◌≤◌, List, [], ◌∷◌, ◌++◌, length, take, drop, Option, Some}
use Rattle.std.proofs.Common.{None, IfSome, IsSomeAnd, inl, inr, refl, ap, sym, subst, ◌∙◌, arith}
use Rattle.urpf_base.specs.declared.address.Addr.{Addr}
use Rattle.urpf_base.specs.RouteUpdates.{RouteUpdate}
use Rattle.bgp_wire.specs.Frames.{Frames, Framing, End, Clean, Fault}
use Rattle.bgp_wire.proofs.Framings.{one_framing}
use Rattle.urpf_cli.specs.Words.{AreCheckWords}
use Rattle.urpf_cli.specs.CheckOne.{CheckEnd, ComesTo, HasFaultOrMemory, IsCheckLine, WritesFront, WritesLine, judged}
use Rattle.urpf_cli.specs.CheckOne.{misused, too_long, unreadable}
use Rattle.urpf_cli.specs.Statuses.{IsCheckStatus, status_of_check, status_of_stream}
use Rattle.urpf_cli.specs.declared.check.TheConstants.{STREAM_OCTETS}
use Rattle.urpf_cli.specs.declared.session.SessionFault.{SessionFault}
use Rattle.urpf_cli.specs.declared.session.SessionFault.TheVariants as fault
use Rattle.urpf_cli.specs.declared.status.Object.TheVariants.{Stream}
use Rattle.urpf_cli.specs.declared.status.Status.{Status}
use Rattle.urpf_cli.specs.declared.status.Status.TheVariants.{Done, Usage, TooLong, ReadFault, WriteFault, OutOfMemory}
use Rattle.std.specs.Io.KnownBytes.{Appends}
use Rattle.std.proofs.lemmas.List.{take-append-drop}
use Rattle.urpf_cli.specs.Session.{Says, SaysBy, SayAll, FailsBy, IsUnsupported, IsRead, IsFaultAt, StopsAt}
use Rattle.urpf_cli.specs.Session.{IsBadUpdateAt, IsUnsupportedAt, HasFault}
use Rattle.bgp_wire.specs.Header.{type_field}
use Rattle.bgp_wire.specs.States.{kind_of}
use Rattle.bgp_wire.specs.declared.kinds.MsgKind.{MsgKind}
use Rattle.bgp_wire.specs.declared.kinds.MsgKind.TheVariants.{Update}
use Rattle.as_path.specs.declared.widths.Width.TheVariants.{Four}
use Rattle.bgp_update.proofs.OutcomeLaws.{never_both, fault_once}

-- a way to frame the stream
abbrev framing : {stream rest : List ℕ} {messages : List (List ℕ)} {end : End} → Frames stream messages rest end
    → Framing stream
framing {rest = rest} {messages = messages} {end = end} framed =
    record { messages = messages; rest = rest; end = end; framed = framed }

-- where all messages say something, so does the one between others
say-between : (before : List (List ℕ)) (m : List ℕ) (after : List (List ℕ)) (said : List (Option RouteUpdate))
    → SayAll (before ++ m ∷ after) said → (s : Option RouteUpdate) × Says m s
say-between [] m after [] say = absurd say
say-between [] m after (s ∷ said) say = (s, say.0)
say-between (b ∷ before) m after [] say = absurd say
say-between (b ∷ before) m after (s ∷ said) say = say-between before m after said say.1

-- what stops a reading says nothing
abbrev IsSilent : (MsgKind → List ℕ → Type 0) → Type 0
IsSilent Reason = (kind : MsgKind) (body : List ℕ) → Reason kind body → (s : Option RouteUpdate) → SaysBy kind body s
    → ⊥

unsupported_silent : IsSilent (λ kind body. IsUnsupported kind)
unsupported_silent kind body (inl is) None says = cc
unsupported_silent kind body (inl is) (Some u) says = let update = says.0 in cc
unsupported_silent kind body (inr is) None says = cc
unsupported_silent kind body (inr is) (Some u) says = let update = says.0 in cc

fails_silent : (sub : ℕ) → IsSilent (λ kind body. FailsBy kind body sub)
fails_silent sub kind body fails None says = let update = fails.0 in cc
fails_silent sub kind body fails (Some u) says = never_both Four true body u sub says.1 fails.1

-- a message that says nothing is no message of a stream of which all messages say something
all_say : (stream : List ℕ) (place : ℕ) (Reason : MsgKind → List ℕ → Type 0) (messages : List (List ℕ))
    (said : List (Option RouteUpdate)) (rest : List ℕ) (end : End) → IsSilent Reason → Frames stream messages rest end
    → SayAll messages said → StopsAt stream place Reason → ⊥
all_say stream place Reason messages said rest end silent framed say stops =
    let same = one_framing stream (framing framed) (framing stops.framed) in
    let found =
    say-between stops.before stops.message stops.after said
    (subst (λ (ms : List (List ℕ)). SayAll ms said) same.0 say) in
    silent (kind_of (type_field stops.message)) (drop 19 stops.message) stops.reason found.0 found.1

-- the first message that says nothing is one, and stands at one place
same_front : (before other : List (List ℕ)) (m n : List ℕ) (after more : List (List ℕ))
    (said told : List (Option RouteUpdate)) → before ++ m ∷ after ≡ other ++ n ∷ more → SayAll before said
    → SayAll other told → ((s : Option RouteUpdate) → Says m s → ⊥) → ((s : Option RouteUpdate) → Says n s → ⊥)
    → (length before ≡ length other) × (m ≡ n)
same_front [] [] m n after more said told same say tell odd strange = (refl, cc)
same_front [] (b ∷ other) m n after more said [] same say tell odd strange = absurd tell
same_front [] (b ∷ other) m n after more said (t ∷ told) same say tell odd strange =
    let first : m ≡ b = cc in absurd (odd t (subst (λ (x : List ℕ). Says x t) (sym first) tell.0))
same_front (b ∷ before) [] m n after more [] told same say tell odd strange = absurd say
same_front (b ∷ before) [] m n after more (s ∷ said) told same say tell odd strange =
    let first : n ≡ b = cc in absurd (strange s (subst (λ (x : List ℕ). Says x s) (sym first) say.0))
same_front (b ∷ before) (x ∷ other) m n after more [] told same say tell odd strange = absurd say
same_front (b ∷ before) (x ∷ other) m n after more (s ∷ said) [] same say tell odd strange = absurd tell
same_front (b ∷ before) (x ∷ other) m n after more (s ∷ said) (t ∷ told) same say tell odd strange =
    let tails : before ++ m ∷ after ≡ other ++ n ∷ more = cc in
    let front = same_front before other m n after more said told tails say.1 tell.1 odd strange in
    (ap (λ k. suc k) front.0, front.1)

same_stop : (stream : List ℕ) (place other : ℕ) (P Q : MsgKind → List ℕ → Type 0) → IsSilent P → IsSilent Q
    → (a : StopsAt stream place P) (b : StopsAt stream other Q) → (place ≡ other) × (a.message ≡ b.message)
same_stop stream place other P Q silent mute a b =
    let same = one_framing stream (framing a.framed) (framing b.framed) in
    let front =
    same_front a.before b.before a.message b.message a.after b.after a.said b.said same.0 a.say b.say
    (silent (kind_of (type_field a.message)) (drop 19 a.message) a.reason)
    (mute (kind_of (type_field b.message)) (drop 19 b.message) b.reason) in
    (a.counted ∙ ap (λ k. k + 1) front.0 ∙ sym b.counted, front.1)

same_unsupported : (stream : List ℕ) (place other : ℕ) → IsUnsupportedAt stream place → IsUnsupportedAt stream other
    → place ≡ other
same_unsupported stream place other a b =
    (same_stop stream place other (λ kind body. IsUnsupported kind) (λ kind body. IsUnsupported kind) unsupported_silent
    unsupported_silent a b).0

same_fault : (stream : List ℕ) (sub other place at : ℕ) → IsFaultAt stream sub place → IsFaultAt stream other at
    → (sub ≡ other) × (place ≡ at)
same_fault stream sub other place at a b =
    let same = one_framing stream (framing a.framed) (framing b.framed) in
    (same_sub same.2, a.counted ∙ ap (λ ms. length ms + 1) same.0 ∙ sym b.counted)
  where
    same_sub : Fault sub ≡ Fault other → sub ≡ other
    same_sub e = cc

same_update : (stream : List ℕ) (sub other place at : ℕ) → IsBadUpdateAt stream sub place
    → IsBadUpdateAt stream other at → (sub ≡ other) × (place ≡ at)
same_update stream sub other place at a b =
    let same =
    same_stop stream place at (λ kind body. FailsBy kind body sub) (λ kind body. FailsBy kind body other)
    (fails_silent sub) (fails_silent other) a b in
    let fails = subst (λ (m : List ℕ). FailsBy (kind_of (type_field m)) (drop 19 m) sub) same.1 a.reason in
    (fault_once Four true (drop 19 b.message) sub other fails.1 b.reason.1, same.0)

-- a header fault comes after messages that all say something
fault_or_stop : (stream : List ℕ) (sub place at : ℕ) (Reason : MsgKind → List ℕ → Type 0) → IsSilent Reason
    → IsFaultAt stream sub place → StopsAt stream at Reason → ⊥
fault_or_stop stream sub place at Reason silent fault stops =
    all_say stream at Reason fault.messages fault.said fault.rest (Fault sub) silent fault.framed fault.say stops

update_or_unsupported : (stream : List ℕ) (sub place at : ℕ) → IsBadUpdateAt stream sub place
    → IsUnsupportedAt stream at → ⊥
update_or_unsupported stream sub place at stops b =
    let same =
    same_stop stream place at (λ kind body. FailsBy kind body sub) (λ kind body. IsUnsupported kind)
    (fails_silent sub) unsupported_silent stops b in
    let fails = subst (λ (m : List ℕ). FailsBy (kind_of (type_field m)) (drop 19 m) sub) same.1 stops.reason in
    never (kind_of (type_field b.message)) fails.0 b.reason
  where
    never : (kind : MsgKind) → kind ≡ Update → IsUnsupported kind → ⊥
    never kind update (inl is) = cc
    never kind update (inr is) = cc

-- a stream has one fault
one_fault : (stream : List ℕ) (a b : SessionFault) → HasFault stream a → HasFault stream b → a ≡ b
one_fault stream (fault.Header sub place) (fault.Header other at) p q =
    let same = same_fault stream sub other place at p q in rw (same.0, same.1)
one_fault stream (fault.Header sub place) (fault.Update other at) p q =
    absurd (fault_or_stop stream sub place at (λ kind body. FailsBy kind body other) (fails_silent other) p q)
one_fault stream (fault.Header sub place) (fault.Unsupported at) p q =
    absurd (fault_or_stop stream sub place at (λ kind body. IsUnsupported kind) unsupported_silent p q)
one_fault stream (fault.Header sub place) fault.OutOfMemory p q = absurd q
one_fault stream (fault.Update sub place) (fault.Header other at) p q =
    absurd (fault_or_stop stream other at place (λ kind body. FailsBy kind body sub) (fails_silent sub) q p)
one_fault stream (fault.Update sub place) (fault.Update other at) p q =
    let same = same_update stream sub other place at p q in rw (same.0, same.1)
one_fault stream (fault.Update sub place) (fault.Unsupported at) p q =
    absurd (update_or_unsupported stream sub place at p q)
one_fault stream (fault.Update sub place) fault.OutOfMemory p q = absurd q
one_fault stream (fault.Unsupported place) (fault.Header other at) p q =
    absurd (fault_or_stop stream other at place (λ kind body. IsUnsupported kind) unsupported_silent q p)
one_fault stream (fault.Unsupported place) (fault.Update other at) p q =
    absurd (update_or_unsupported stream other at place q p)
one_fault stream (fault.Unsupported place) (fault.Unsupported at) p q =
    ap (λ n. fault.Unsupported n) (same_unsupported stream place at p q)
one_fault stream (fault.Unsupported place) fault.OutOfMemory p q = absurd q
one_fault stream fault.OutOfMemory b p q = absurd p

-- a stream that is read has none
read_or_fault : (stream : List ℕ) (said : List (Option RouteUpdate)) (rest : List ℕ) (f : SessionFault)
    → IsRead stream said rest → HasFault stream f → ⊥
read_or_fault stream said rest (fault.Header sub place) read has =
    let same = one_framing stream (framing read.framed) (framing has.framed) in
    let end : Clean ≡ Fault sub = same.2 in
    cc
read_or_fault stream said rest (fault.Update sub place) read has =
    all_say stream place (λ kind body. FailsBy kind body sub) read.messages said rest Clean (fails_silent sub)
    read.framed read.say has
read_or_fault stream said rest (fault.Unsupported place) read has =
    all_say stream place (λ kind body. IsUnsupported kind) read.messages said rest Clean unsupported_silent read.framed
    read.say has
read_or_fault stream said rest fault.OutOfMemory read has = has

-- words and a stream come to one end
pub one_end : (words : List (List ℕ)) (stream : List ℕ) (a b : CheckEnd) → ComesTo words stream a
    → ComesTo words stream b → a ≡ b
one_end words stream judged judged p q = refl
one_end words stream judged misused p q = absurd (q p.0.0 p.0.1)
one_end words stream judged too_long p q = absurd (omega (arith, p.1, q.1))
one_end words stream judged (unreadable f) p q = absurd (read_or_fault stream p.2.0 p.2.1 f p.2.2 q.2)
one_end words stream misused judged p q = absurd (p q.0.0 q.0.1)
one_end words stream misused misused p q = refl
one_end words stream misused too_long p q = absurd (p q.0.0 q.0.1)
one_end words stream misused (unreadable f) p q = absurd (p q.0.0 q.0.1)
one_end words stream too_long judged p q = absurd (omega (arith, p.1, q.1))
one_end words stream too_long misused p q = absurd (q p.0.0 p.0.1)
one_end words stream too_long too_long p q = refl
one_end words stream too_long (unreadable f) p q = absurd (omega (arith, p.1, q.1))
one_end words stream (unreadable f) judged p q = absurd (read_or_fault stream q.2.0 q.2.1 f q.2.2 p.2)
one_end words stream (unreadable f) misused p q = absurd (q p.0.0 p.0.1)
one_end words stream (unreadable f) too_long p q = absurd (omega (arith, p.1, q.1))
one_end words stream (unreadable f) (unreadable h) p q = ap (λ x. unreadable x) (one_fault stream f h p.2 q.2)

one_stream_status : (f h : SessionFault) → status_of_stream f ≡ status_of_stream h → f ≡ h
one_stream_status (fault.Header sub place) (fault.Header other at) is =
    let same : sub ≡ other = cc in let here : place ≡ at = cc in rw (same, here)
one_stream_status (fault.Header sub place) (fault.Update other at) is = let one : ℕ = 1 in let clash : one ≡ 3 = cc in
    absurd (omega (arith, clash))
one_stream_status (fault.Header sub place) (fault.Unsupported at) is = absurd cc
one_stream_status (fault.Header sub place) fault.OutOfMemory is = absurd cc
one_stream_status (fault.Update sub place) (fault.Header other at) is = let three : ℕ = 3 in let clash : three ≡ 1 = cc
    in absurd (omega (arith, clash))
one_stream_status (fault.Update sub place) (fault.Update other at) is =
    let same : sub ≡ other = cc in let here : place ≡ at = cc in rw (same, here)
one_stream_status (fault.Update sub place) (fault.Unsupported at) is = absurd cc
one_stream_status (fault.Update sub place) fault.OutOfMemory is = absurd cc
one_stream_status (fault.Unsupported place) (fault.Header other at) is = absurd cc
one_stream_status (fault.Unsupported place) (fault.Update other at) is = absurd cc
one_stream_status (fault.Unsupported place) (fault.Unsupported at) is = let here : place ≡ at = cc in rw here refl
one_stream_status (fault.Unsupported place) fault.OutOfMemory is = absurd cc
one_stream_status fault.OutOfMemory (fault.Header other at) is = absurd cc
one_stream_status fault.OutOfMemory (fault.Update other at) is = absurd cc
one_stream_status fault.OutOfMemory (fault.Unsupported at) is = absurd cc
one_stream_status fault.OutOfMemory fault.OutOfMemory is = refl

-- want of memory is told for nothing else
pub memory_told : (f : SessionFault) (s : Status) → s ≡ status_of_stream f → s ≡ OutOfMemory → f ≡ fault.OutOfMemory
memory_told f s is memory = one_stream_status f fault.OutOfMemory (sym is ∙ memory)

-- a stream that was read and is not empty is told as one that is not
pub some_stream : (left : Option (List ℕ)) (stream : List ℕ) → IfSome left (λ all. stream ≡ all) → 0 < length stream
    → IfSome left (λ all. 0 < length all)
some_stream None stream whole some = tt
some_stream (Some all) stream whole some = subst (λ (s : List ℕ). 0 < length s) whole some

-- no other end has the status of a fault of the stream
pub not_of_stream : (f : SessionFault) (s : Status)
    → (s ≡ Done) ⊎ ((s ≡ Usage) ⊎ ((s ≡ TooLong Stream) ⊎ ((s ≡ ReadFault Stream) ⊎ (s ≡ WriteFault))))
    → s ≡ status_of_stream f → ⊥
not_of_stream f s (inl is) same = by_cases f (sym is ∙ same)
  where
    by_cases : (f : SessionFault) → Done ≡ status_of_stream f → ⊥
    by_cases (fault.Header sub place) e = cc
    by_cases (fault.Update sub place) e = cc
    by_cases (fault.Unsupported place) e = cc
    by_cases fault.OutOfMemory e = cc
not_of_stream f s (inr (inl is)) same = by_cases f (sym is ∙ same)
  where
    by_cases : (f : SessionFault) → Usage ≡ status_of_stream f → ⊥
    by_cases (fault.Header sub place) e = cc
    by_cases (fault.Update sub place) e = cc
    by_cases (fault.Unsupported place) e = cc
    by_cases fault.OutOfMemory e = cc
not_of_stream f s (inr (inr (inl is))) same = by_cases f (sym is ∙ same)
  where
    by_cases : (f : SessionFault) → TooLong Stream ≡ status_of_stream f → ⊥
    by_cases (fault.Header sub place) e = cc
    by_cases (fault.Update sub place) e = cc
    by_cases (fault.Unsupported place) e = cc
    by_cases fault.OutOfMemory e = cc
not_of_stream f s (inr (inr (inr (inl is)))) same = by_cases f (sym is ∙ same)
  where
    by_cases : (f : SessionFault) → ReadFault Stream ≡ status_of_stream f → ⊥
    by_cases (fault.Header sub place) e = cc
    by_cases (fault.Update sub place) e = cc
    by_cases (fault.Unsupported place) e = cc
    by_cases fault.OutOfMemory e = cc
not_of_stream f s (inr (inr (inr (inr is)))) same = by_cases f (sym is ∙ same)
  where
    by_cases : (f : SessionFault) → WriteFault ≡ status_of_stream f → ⊥
    by_cases (fault.Header sub place) e = cc
    by_cases (fault.Update sub place) e = cc
    by_cases (fault.Unsupported place) e = cc
    by_cases fault.OutOfMemory e = cc

-- an end is told by its status
pub one_status : (a b : CheckEnd) → status_of_check a ≡ status_of_check b → a ≡ b
one_status judged judged is = refl
one_status judged misused is = absurd cc
one_status judged too_long is = absurd cc
one_status judged (unreadable f) is = absurd (not_of_stream f Done (inl refl) is)
one_status misused judged is = absurd cc
one_status misused misused is = refl
one_status misused too_long is = absurd cc
one_status misused (unreadable f) is = absurd (not_of_stream f Usage (inr (inl refl)) is)
one_status too_long judged is = absurd cc
one_status too_long misused is = absurd cc
one_status too_long too_long is = refl
one_status too_long (unreadable f) is = absurd (not_of_stream f (TooLong Stream) (inr (inr (inl refl))) is)
one_status (unreadable f) judged is = absurd (not_of_stream f Done (inl refl) (sym is))
one_status (unreadable f) misused is = absurd (not_of_stream f Usage (inr (inl refl)) (sym is))
one_status (unreadable f) too_long is = absurd (not_of_stream f (TooLong Stream) (inr (inr (inl refl))) (sym is))
one_status (unreadable f) (unreadable h) is = ap (λ x. unreadable x) (one_stream_status f h is)

-- a failure of the outside is no end that words and a stream decide
pub read_undecided : (end : CheckEnd) → ReadFault Stream ≡ status_of_check end → ⊥
read_undecided judged is = cc
read_undecided misused is = cc
read_undecided too_long is = cc
read_undecided (unreadable f) is = not_of_stream f (ReadFault Stream) (inr (inr (inr (inl refl)))) is

pub write_undecided : (end : CheckEnd) → WriteFault ≡ status_of_check end → ⊥
write_undecided judged is = cc
write_undecided misused is = cc
write_undecided too_long is = cc
write_undecided (unreadable f) is = not_of_stream f WriteFault (inr (inr (inr (inr refl)))) is

-- the end that the words and the stream came to is the one that a status tells
pub end_found : (words : List (List ℕ)) (left : Option (List ℕ)) (a end : CheckEnd)
    → IfSome left (λ stream. ComesTo words stream a) → status_of_check a ≡ status_of_check end
    → IfSome left (λ stream. ComesTo words stream end)
end_found words left a end comes is =
    subst (λ (e : CheckEnd). IfSome left (λ stream. ComesTo words stream e)) (one_status a end is) comes

-- and the only one
pub end_only : (words : List (List ℕ)) (left : Option (List ℕ)) (a end : CheckEnd)
    → IfSome left (λ stream. ComesTo words stream a) → IsSomeAnd left (λ stream. ComesTo words stream end)
    → status_of_check a ≡ status_of_check end
end_only words None a end comes told = absurd told
end_only words (Some stream) a end comes told = ap status_of_check (one_end words stream a end comes told)

-- the fault that stopped the reading, where memory did not
pub fault_is : (stream : List ℕ) (f : SessionFault) → HasFaultOrMemory stream f → (status_of_stream f ≡ OutOfMemory → ⊥)
    → HasFault stream f
fault_is stream f (inl memory) never = absurd (never (ap status_of_stream memory))
fault_is stream f (inr has) never = has

-- a write that failed took a front of the line
pub front_written : (words : List (List ℕ)) (left : Option (List ℕ)) (stream : List ℕ) (source : Addr) (line : List ℕ)
    (n : ℕ) (old new : Option (List ℕ)) → IfSome left (λ all. stream ≡ all) → AreCheckWords words source
    → IsCheckLine stream source line → Appends old new (take n line)
    → IfSome left (λ t. WritesFront words t old new)
front_written words None stream source line n old new whole fit is_line appends = tt
front_written words (Some t) stream source line n old new whole fit is_line appends = record {
  source = source;
  words_fit = fit;
  front = take n line;
  more = drop n line;
  is_line =
      subst (λ (x : List ℕ). IsCheckLine x source (take n line ++ drop n line)) whole
      (rw (take-append-drop n line) is_line);
  appended = appends;
}

-- a write that ended well took the whole line
pub line_written : (words : List (List ℕ)) (left : Option (List ℕ)) (stream : List ℕ) (source : Addr) (line : List ℕ)
    (old new : Option (List ℕ)) → IfSome left (λ all. stream ≡ all) → AreCheckWords words source
    → IsCheckLine stream source line → Appends old new line → IfSome left (λ t. WritesLine words t old new)
line_written words None stream source line old new whole fit is_line appends = tt
line_written words (Some t) stream source line old new whole fit is_line appends = record {
  source = source;
  words_fit = fit;
  line = line;
  is_line = subst (λ (x : List ℕ). IsCheckLine x source line) whole is_line;
  appended = appends;
}

-- a line that was made over the stream judges it
pub line_judged : (words : List (List ℕ)) (left : Option (List ℕ)) (stream : List ℕ) (source : Addr) (line : List ℕ)
    → IfSome left (λ all. stream ≡ all) → AreCheckWords words source → length stream ≤ STREAM_OCTETS
    → IsCheckLine stream source line → IfSome left (λ t. ComesTo words t judged)
line_judged words None stream source line whole fit short is = tt
line_judged words (Some t) stream source line whole fit short is =
    subst (λ (x : List ℕ). ComesTo words x judged) whole ((source, fit), short, (is.said, is.rest, is.read))

-- a fault that stopped the reading is what words and stream come to, where memory did not stop it
pub fault_told : (words : List (List ℕ)) (left : Option (List ℕ)) (stream : List ℕ) (source : Addr) (f : SessionFault)
    → IfSome left (λ all. stream ≡ all) → AreCheckWords words source → length stream ≤ STREAM_OCTETS → HasFault stream f
    → IfSome left (λ t. ComesTo words t (unreadable f))
fault_told words None stream source f whole fit short has = tt
fault_told words (Some t) stream source f whole fit short has =
    subst (λ (x : List ℕ). ComesTo words x (unreadable f)) whole ((source, fit), short, has)

-- words that fit no form come to nothing else
pub misuse_told : (words : List (List ℕ)) (left : Option (List ℕ)) → ((source : Addr) → AreCheckWords words source → ⊥)
    → IfSome left (λ t. ComesTo words t misused)
misuse_told words None none = tt
misuse_told words (Some t) none = none

-- the answer where a stream could not be read
pub fault_only : (words : List (List ℕ)) (left : Option (List ℕ)) (stream : List ℕ) (source : Addr) (f : SessionFault)
    (end : CheckEnd) (told : Status) → told ≡ status_of_stream f → IfSome left (λ all. stream ≡ all)
    → AreCheckWords words source → length stream ≤ STREAM_OCTETS
    → HasFaultOrMemory stream f → IsSomeAnd left (λ t. ComesTo words t end)
    → (told ≡ status_of_check end) ⊎ (told ≡ OutOfMemory)
fault_only words left stream source f end told is whole fit short (inl memory) deserved =
    inr (is ∙ ap status_of_stream memory)
fault_only words left stream source f end told is whole fit short (inr has) deserved =
    inl (is ∙ end_only words left (unreadable f) end (fault_told words left stream source f whole fit short has)
    deserved)

pub fault_known : (stream : List ℕ) (f : SessionFault) (told : Status) → told ≡ status_of_stream f → IsCheckStatus told
fault_known stream f told is = inl (unreadable f, is)

pub fault_found : (words : List (List ℕ)) (left : Option (List ℕ)) (stream : List ℕ) (source : Addr) (f : SessionFault)
    (end : CheckEnd) (told : Status) → told ≡ status_of_stream f → IfSome left (λ all. stream ≡ all)
    → AreCheckWords words source → length stream ≤ STREAM_OCTETS
    → HasFaultOrMemory stream f → told ≡ status_of_check end → (told ≡ OutOfMemory → ⊥)
    → IfSome left (λ t. ComesTo words t end)
fault_found words left stream source f end told is whole fit short has same never =
    end_found words left (unreadable f) end
    (fault_told words left stream source f whole fit short (fault_is stream f has (λ m. never (is ∙ m))))
    (sym is ∙ same)
