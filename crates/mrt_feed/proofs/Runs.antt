-- How a feed goes from one place in a recording to the next, and where it can go no further.
use Rattle.std.proofs.Common.{◌≡◌, ◌⊎◌, ℕ, ◌+◌, ◌-◌, ◌<◌, ◌≤◌, Bool, true, false, ◌==◌, nat_lt, if◌then◌else◌, List, [], ◌∷◌}
use Rattle.std.proofs.Common.{◌++◌, length, take, drop, Option, Some, None, Ok, Err, IfSome, inl, inr, refl, ap, sym, ◌∙◌}
use Rattle.std.proofs.Common.{arith, append_assoc, append-nil, length-append, length-take, lt-ltb, le-ltb, ltb-true, ltb-false}
use Rattle.std.proofs.Common.{ne_eqb, subst}
use Rattle.std.proofs.lemmas.List.{nil_from_length, take_all, take-append-le}
use Rattle.std.proofs.Math.Seq.{take-append-add, drop-append-add}
use Rattle.std.specs.Io.KnownBytes.{Consumes, Keeps, IsAtEnd}
use Rattle.urpf_base.specs.declared.address.Addr.{Addr}
use Rattle.urpf_base.specs.Faults.{HasCause, Rose}
use Rattle.feed_io.specs.Memory.{counted_up}
use Rattle.feed_io.specs.Events.{Event, up, octets, down, with_more, GivesPart, GivesNext}
use Rattle.feed_io.specs.TraceFeeds.{KeepsCount}
use Rattle.feed_io.specs.declared.feeds.FeedEvent.TheVariants as given
use Rattle.mrt_feed.specs.MrtEvents.{events_from, told_events, tells}
use Rattle.std.specs.List.{filter}
use Rattle.mrt_feed.specs.MrtFeeds.{events_left}
use Rattle.mrt_feed.specs.Places.{past, place_events, is_whole, ends_whole, Goes, Reads, Ran, IsBetween, IsAtRecord, IsEnded}
use Rattle.mrt_feed.specs.Places.{IsOff, Stops, Halts}
use Rattle.mrt_feed.specs.Records.{head_length, IsHead}
use Rattle.feed_io.specs.declared.limited.TheConstants.{FILE_OCTETS}
use Rattle.mrt_feed.specs.declared.progress.Progress.{Progress}
use Rattle.mrt_feed.proofs.Heads.{head_length-low, head_stays}
use Rattle.mrt_feed.proofs.Records.{short_records, short_rest}
use Rattle.mrt_feed.proofs.Progresses.{with_more-some, between_events, between_whole, start_events, start_whole}
use Rattle.mrt_feed.proofs.Progresses.{goes_nowhere}

-- ---- from one place to the next

pub goes_trans : (peer : Addr) (a b c : Progress) (p q : List ℕ) (given : List Event)
    → Goes peer a p b [] → Goes peer b q c given → Goes peer a (p ++ q) c given
goes_trans peer a b c p q given first second = record {
  events = λ t. ap (place_events peer a) (append_assoc p q t) ∙ first.events (q ++ t) ∙ second.events t;
  whole = λ t. ap (ends_whole a) (append_assoc p q t) ∙ first.whole (q ++ t) ∙ second.whole t;
}

pub ran_trans : (peer : Addr) (l m n : Option (List ℕ)) (i j k : ℕ) (a b c : Progress) (given : List Event)
    → Ran peer l i a m j b [] → Ran peer m j b n k c given → Ran peer l i a n k c given
ran_trans peer None m n i j k a b c given first second = tt
ran_trans peer (Some text) None n i j k a b c given first second = absurd first
ran_trans peer (Some text) (Some mid) None i j k a b c given first second = absurd second
ran_trans peer (Some text) (Some mid) (Some rest) i j k a b c given first second = (
  first.0 ++ second.0,
  record {
    parts = first.1.parts ∙ ap (λ t. first.0 ++ t) second.1.parts ∙ sym (append_assoc first.0 second.0 rest);
    counted = omega (arith, first.1.counted, second.1.counted, length-append first.0 second.0);
    within = omega (
      arith,
      first.1.within,
      second.1.within,
      first.1.counted,
      length-append first.0 second.0,
    );
  },
  goes_trans peer a b c first.0 second.0 given first.2 second.2,
)

-- the same events, written otherwise
pub ran_as : (peer : Addr) (l m : Option (List ℕ)) (i j : ℕ) (a b : Progress) (given same : List Event) → given ≡ same
    → Ran peer l i a m j b given → Ran peer l i a m j b same
ran_as peer l m i j a b given same is ran = subst (λ es. Ran peer l i a m j b es) is ran

-- nothing is read
pub ran_still : (peer : Addr) (l : Option (List ℕ)) (i : ℕ) (a b : Progress) (given : List Event)
    → Goes peer a [] b given → Ran peer l i a l i b given
ran_still peer None i a b given goes = tt
ran_still peer (Some text) i a b given goes =
    ([], record { parts = refl; counted = omega arith; within = omega arith }, goes)

-- a read that failed
pub ran_kept : (peer : Addr) (l m : Option (List ℕ)) (i j : ℕ) (a : Progress) → Keeps l m → j ≡ i
    → Ran peer l i a m j a []
ran_kept peer None m i j a keeps same = tt
ran_kept peer (Some text) None i j a keeps same = absurd keeps
ran_kept peer (Some text) (Some rest) i j a keeps same =
    ([], record { parts = sym keeps; counted = omega (arith, same); within = omega arith }, goes_nowhere peer a)

-- a piece is read
pub ran_read : (peer : Addr) (l m : Option (List ℕ)) (i j : ℕ) (a b : Progress) (piece : List ℕ) (given : List Event)
    → Consumes l m piece → j ≡ i + length piece → j ≤ FILE_OCTETS → Goes peer a piece b given
    → Ran peer l i a m j b given
ran_read peer None m i j a b piece given consumed counted within goes = tt
ran_read peer (Some text) None i j a b piece given consumed counted within goes = absurd consumed
ran_read peer (Some text) (Some rest) i j a b piece given consumed counted within goes =
    (piece, record { parts = consumed; counted = counted; within = omega (arith, counted, within) }, goes)

-- ---- what a piece changes

lt_same : (piece t : List ℕ) (k : ℕ) (b : Bool) → nat_lt (length t) k ≡ b
    → nat_lt (length (piece ++ t)) (length piece + k) ≡ b
lt_same piece t k true is =
    lt-ltb (length (piece ++ t)) (length piece + k) (omega (arith, ltb-true (length t) k is, length-append piece t))
lt_same piece t k false is =
    le-ltb (length (piece ++ t)) (length piece + k) (omega (arith, ltb-false (length t) k is, length-append piece t))

past_add : {X : Type 0} (short : X) (more : List ℕ → X) (piece t : List ℕ) (k : ℕ)
    → past short (length piece + k) more (piece ++ t) ≡ past short k more t
past_add short more piece t k =
    ap (λ c. if c then short else more (drop (length piece + k) (piece ++ t)))
    (lt_same piece t k (nat_lt (length t) k) refl)
    ∙ ap (λ u. if nat_lt (length t) k then short else more u) (drop-append-add piece t k)

past_front : {X : Type 0} (short : X) (n : ℕ) (more : List ℕ → X) (piece t : List ℕ) → length piece ≤ n
    → past short n more (piece ++ t) ≡ past short (n - length piece) more t
past_front short n more piece t fits =
    let sum : n ≡ length piece + (n - length piece) = omega (arith, fits) in
    ap (λ k. past short k more (piece ++ t)) sum ∙ past_add short more piece t (n - length piece)

-- octets of a record that is passed over
pub goes_skip : (peer : Addr) (p : Progress) (piece : List ℕ) → IsBetween p → length piece ≤ p.skip
    → Goes peer p piece (record p { skip = p.skip - length piece }) []
goes_skip peer p piece at fits =
    let q : Progress = record p { skip = p.skip - length piece } in record {
      events = λ t. between_events peer p (piece ++ t) at
          ∙ past_front [] p.skip (λ u. events_from peer p.link (p.head ++ u)) piece t fits
          ∙ sym (between_events peer q t (record { unsent = at.unsent; owed = at.owed }));
      whole = λ t. between_whole p (piece ++ t) at.owed
          ∙ past_front false p.skip (λ u. is_whole (p.head ++ u)) piece t fits ∙ sym (between_whole q t at.owed);
    }

-- so many of them
pub goes_skipped : (peer : Addr) (p : Progress) (piece : List ℕ) (n : ℕ) → IsBetween p → length piece ≡ n → n ≤ p.skip
    → Goes peer p piece (record p { skip = p.skip - n }) []
goes_skipped peer p piece n at long fits =
    subst (λ k. Goes peer p piece (record p { skip = p.skip - k }) []) long
    (goes_skip peer p piece at (omega (arith, long, fits)))

-- octets of a head
pub goes_head : (peer : Addr) (p : Progress) (piece : List ℕ) → IsAtRecord p
    → Goes peer p piece (record p { head = p.head ++ piece }) []
goes_head peer p piece at =
    let q : Progress = record p { head = p.head ++ piece } in record {
      events = λ t. start_events peer p (piece ++ t) at
          ∙ ap (events_from peer p.link) (sym (append_assoc p.head piece t))
          ∙ sym (start_events peer q t (record { unsent = at.unsent; owed = at.owed; skip = at.skip }));
      whole = λ t. start_whole p (piece ++ t) at.owed at.skip ∙ ap is_whole (sym (append_assoc p.head piece t))
          ∙ sym (start_whole q t at.owed at.skip);
    }

-- a piece of a head out of the front of a buffer
pub piece_fits : (head buf rest : List ℕ) (n m : ℕ) → n ≤ length buf → length buf ≤ m
    → m ≡ head_length head - length head → length head < head_length head → IsHead (head ++ take n (buf ++ rest))
piece_fits head buf rest n m some fits missing short =
    head_stays head (take n (buf ++ rest))
    (omega (arith, some, fits, missing, short, length-take n (buf ++ rest)))

pub goes_piece : (peer : Addr) (p : Progress) (now buf rest : List ℕ) (n : ℕ) → IsAtRecord p → n ≤ length buf
    → now ≡ p.head ++ take n (buf ++ rest) → Goes peer p (take n buf) (record p { head = now }) []
goes_piece peer p now buf rest n at some is =
    subst (λ h. Goes peer p (take n buf) (record p { head = h }) [])
    (sym (is ∙ ap (λ t. p.head ++ t) (take-append-le n buf rest some))) (goes_head peer p (take n buf) at)

-- ---- where it can go no further

past-empty : {X : Type 0} (short : X) (n : ℕ) (more : List ℕ → X) → 0 < n → past short n more [] ≡ short
past-empty short n more some = ap (λ c. if c then short else more (drop n [])) (lt-ltb 0 n some)

-- no octet is left of what is passed over
skip_none : (peer : Addr) (p : Progress) → IsBetween p → 0 < p.skip → place_events peer p [] ≡ []
skip_none peer p at some =
    between_events peer p [] at ∙ past-empty [] p.skip (λ u. events_from peer p.link (p.head ++ u)) some

skip_off : (peer : Addr) (p : Progress) → IsBetween p → 0 < p.skip → IsOff peer p []
skip_off peer p at some = record {
  none = skip_none peer p at some;
  off = between_whole p [] at.owed ∙ past-empty false p.skip (λ u. is_whole (p.head ++ u)) some;
}

-- no octet is left of a message
owed_none : (peer : Addr) (p : Progress) → p.unsent ≡ [] → 0 < p.owed → place_events peer p [] ≡ []
owed_none peer p unsent some =
    let F = past [] p.skip (λ u. events_from peer p.link (p.head ++ u)) in
    ap (λ u. with_more (u ++ take p.owed []) (past [] p.owed F [])) unsent
    ∙ ap (λ u. with_more u (past [] p.owed F [])) (take_all p.owed [] (omega arith)) ∙ past-empty [] p.owed F some

owed_off : (peer : Addr) (p : Progress) → p.unsent ≡ [] → 0 < p.owed → IsOff peer p []
owed_off peer p unsent some = record {
  none = owed_none peer p unsent some;
  off = past-empty false p.owed (past false p.skip (λ u. is_whole (p.head ++ u))) some;
}

-- a head that is not whole gives nothing
head_none : (peer : Addr) (p : Progress) → IsAtRecord p → length p.head < head_length p.head
    → place_events peer p [] ≡ []
head_none peer p at short =
    start_events peer p [] at ∙ ap (events_from peer p.link) (append-nil p.head)
    ∙ ap (λ rs. told_events p.link (filter (tells peer) rs)) (short_records p.head short)

head_off : (peer : Addr) (p : Progress) → IsAtRecord p → length p.head < head_length p.head
    → (p.head ≡ [] → ⊥) → IsOff peer p []
head_off peer p at short some = record {
  none = head_none peer p at short;
  off = start_whole p [] at.owed at.skip ∙ ap is_whole (append-nil p.head)
      ∙ ap (λ t. length t == 0) (short_rest p.head short) ∙ ne_eqb (length p.head) 0 (λ zero_is. some (nil_from_length p.head zero_is));
}

-- where a read meets the end or the limit, while octets are passed over
pub skip_halts : (peer : Addr) (p : Progress) (m : Option (List ℕ)) (j : ℕ) → IsBetween p → 0 < p.skip → IsAtEnd m
    → IfSome m (Halts peer p j)
skip_halts peer p None j at some ended = tt
skip_halts peer p (Some rest) j at some ended =
    inl (subst (λ t. IsOff peer p t) (sym ended) (skip_off peer p at some))

pub skip_limited : (peer : Addr) (p : Progress) (m : Option (List ℕ)) (j : ℕ) → IsBetween p → 0 < p.skip
    → FILE_OCTETS ≤ j → IfSome m (Halts peer p j)
skip_limited peer p None j at some limit = tt
skip_limited peer p (Some rest) j at some limit = inr (limit, skip_none peer p at some)

-- the same within a head
pub head_halts : (peer : Addr) (p : Progress) (m : Option (List ℕ)) (j : ℕ) → IsAtRecord p
    → length p.head < head_length p.head → (p.head ≡ [] → ⊥) → IsAtEnd m → IfSome m (Halts peer p j)
head_halts peer p None j at short some ended = tt
head_halts peer p (Some rest) j at short some ended =
    inl (subst (λ t. IsOff peer p t) (sym ended) (head_off peer p at short some))

pub head_limited : (peer : Addr) (p : Progress) (m : Option (List ℕ)) (j : ℕ) → IsAtRecord p
    → length p.head < head_length p.head → FILE_OCTETS ≤ j → IfSome m (Halts peer p j)
head_limited peer p None j at short limit = tt
head_limited peer p (Some rest) j at short limit = inr (limit, head_none peer p at short)

-- a piece that is passed over cannot be read
pub skip_stops : {A : Type 0} (p : Progress) (m : Option (List ℕ)) (i j : ℕ) → j ≡ i → IsBetween p → 0 < p.skip
    → A ⊎ ((FILE_OCTETS ≤ i) ⊎ IsAtEnd m) → A ⊎ ((peer : Addr) → IfSome m (Halts peer p j))
skip_stops p m i j same at some (inl rose) = inl rose
skip_stops p m i j same at some (inr (inl limit)) =
    inr (λ peer. skip_limited peer p m j at some (omega (arith, same, limit)))
skip_stops p m i j same at some (inr (inr ended)) = inr (λ peer. skip_halts peer p m j at some ended)

-- a piece of a head cannot be read
pub head_stops : {A : Type 0} (p : Progress) (m : Option (List ℕ)) (i j : ℕ) → j ≡ i → IsAtRecord p
    → length p.head < head_length p.head → A ⊎ (FILE_OCTETS ≤ i) → A ⊎ ((peer : Addr) → IfSome m (Halts peer p j))
head_stops p m i j same at short (inl rose) = inl rose
head_stops p m i j same at short (inr limit) =
    inr (λ peer. head_limited peer p m j at short (omega (arith, same, limit)))

-- a head that is off the format
pub off_halts : (peer : Addr) (p : Progress) (m : Option (List ℕ)) (j : ℕ) → ((t : List ℕ) → IsOff peer p t)
    → IfSome m (Halts peer p j)
off_halts peer p None j off = tt
off_halts peer p (Some rest) j off = inl (off rest)

-- ---- where a feed cannot go on from the later place, it cannot from the earlier one

halt_stops : (peer : Addr) (a b : Progress) (text rest piece : List ℕ) (i j : ℕ) → Reads text i piece rest j
    → Goes peer a piece b [] → Halts peer b j rest → Stops peer a i text
halt_stops peer a b text rest piece i j reads goes (inl off) = inl (record {
  none = ap (place_events peer a) reads.parts ∙ goes.events rest ∙ off.none;
  off = ap (ends_whole a) reads.parts ∙ goes.whole rest ∙ off.off;
})
halt_stops peer a b text rest piece i j reads goes (inr halt) =
    let all : FILE_OCTETS - i ≡ length piece + 0 = omega (arith, reads.within, reads.counted, halt.0) in
    inr (record {
      beyond = omega (arith, all, ap length reads.parts, length-append piece rest);
      none =
          ap (λ t. place_events peer a (take (FILE_OCTETS - i) t)) reads.parts
          ∙ ap (λ k. place_events peer a (take k (piece ++ rest))) all
          ∙ ap (place_events peer a) (take-append-add piece rest 0) ∙ goes.events [] ∙ halt.1;
    })

pub halts_stop : (peer : Addr) (l m : Option (List ℕ)) (i j : ℕ) (a b : Progress) → Ran peer l i a m j b []
    → IfSome m (Halts peer b j) → IfSome l (Stops peer a i)
halts_stop peer None m i j a b ran halts = tt
halts_stop peer (Some text) None i j a b ran halts = absurd ran
halts_stop peer (Some text) (Some rest) i j a b ran halts =
    halt_stops peer a b text rest ran.0 i j ran.1 ran.2 halts

-- the same for one peer, with an equal count of faults
pub peer_stops : (before same now : ℕ) (peer : Addr) (m : Option (List ℕ)) (b : Progress) (j : ℕ) → before ≡ same
    → Rose before now ⊎ ((q : Addr) → IfSome m (Halts q b j)) → Rose same now ⊎ IfSome m (Halts peer b j)
peer_stops before same now peer m b j is (inl rose) = inl (subst (λ (n : ℕ). Rose n now) is rose)
peer_stops before same now peer m b j is (inr halts) = inr (halts peer)

-- where a feed cannot go on from the later place, it cannot from the earlier one, or the source failed
pub later_stops : {A : Type 0} (peer : Addr) (l m : Option (List ℕ)) (i j : ℕ) (a b : Progress)
    → Ran peer l i a m j b [] → A ⊎ IfSome m (Halts peer b j) → A ⊎ IfSome l (Stops peer a i)
later_stops peer l m i j a b ran (inl rose) = inl rose
later_stops peer l m i j a b ran (inr halts) = inr (halts_stop peer l m i j a b ran halts)

-- the limit, before a message's octets
owed_limited : (peer : Addr) (p : Progress) (l : Option (List ℕ)) (i : ℕ) → p.unsent ≡ [] → 0 < p.owed
    → FILE_OCTETS ≤ i → IfSome l (Stops peer p i)
owed_limited peer p None i unsent some limit = tt
owed_limited peer p (Some text) i unsent some limit = inr (record {
  beyond = omega (arith, limit);
  none =
      let none : FILE_OCTETS - i ≡ 0 = omega (arith, limit) in
      ap (λ k. place_events peer p (take k text)) none ∙ owed_none peer p unsent some;
})

-- and the end
owed_ended : (peer : Addr) (p : Progress) (l m : Option (List ℕ)) (i : ℕ) → p.unsent ≡ [] → 0 < p.owed
    → Keeps l m → IsAtEnd m → IfSome l (Stops peer p i)
owed_ended peer p None m i unsent some keeps ended = tt
owed_ended peer p (Some text) None i unsent some keeps ended = absurd keeps
owed_ended peer p (Some text) (Some rest) i unsent some keeps ended =
    inl (subst (λ t. IsOff peer p t) (sym ended ∙ keeps) (owed_off peer p unsent some))

pub owed_stops : {A : Type 0} (peer : Addr) (p : Progress) (l m : Option (List ℕ)) (i : ℕ) → p.unsent ≡ []
    → 0 < p.owed → Keeps l m → A ⊎ ((FILE_OCTETS ≤ i) ⊎ IsAtEnd m) → A ⊎ IfSome l (Stops peer p i)
owed_stops peer p l m i unsent some keeps (inl rose) = inl rose
owed_stops peer p l m i unsent some keeps (inr (inl limit)) = inr (owed_limited peer p l i unsent some limit)
owed_stops peer p l m i unsent some keeps (inr (inr ended)) = inr (owed_ended peer p l m i unsent some keeps ended)

-- ---- what a call gives

-- a call that fails leaves the events as they were
pub gives_failed : {E : Type 0} (e : E) (peer : Addr) (l m : Option (List ℕ)) (i j : ℕ) (a b : Progress)
    (buffer : List ℕ) → Ran peer l i a m j b [] → GivesNext (events_left peer a l) (events_left peer b m) (Err e) buffer
gives_failed e peer None m i j a b buffer ran = tt
gives_failed e peer (Some text) None i j a b buffer ran = absurd ran
gives_failed e peer (Some text) (Some rest) i j a b buffer ran =
    sym (ap (place_events peer a) ran.1.parts ∙ ran.2.events rest)

pub gives_up : (E : Type 0) (peer : Addr) (l m : Option (List ℕ)) (i j : ℕ) (a b : Progress) (buffer : List ℕ)
    → Ran peer l i a m j b (up ∷ [])
    → GivesNext {E = E} (events_left peer a l) (events_left peer b m) (Ok given.Up) buffer
gives_up E peer None m i j a b buffer ran = tt
gives_up E peer (Some text) None i j a b buffer ran = absurd ran
gives_up E peer (Some text) (Some rest) i j a b buffer ran =
    ap (place_events peer a) ran.1.parts ∙ ran.2.events rest

pub gives_down : (E : Type 0) (peer : Addr) (l m : Option (List ℕ)) (i j : ℕ) (a b : Progress) (buffer : List ℕ)
    → Ran peer l i a m j b (down ∷ [])
    → GivesNext {E = E} (events_left peer a l) (events_left peer b m) (Ok given.Down) buffer
gives_down E peer None m i j a b buffer ran = tt
gives_down E peer (Some text) None i j a b buffer ran = absurd ran
gives_down E peer (Some text) (Some rest) i j a b buffer ran =
    ap (place_events peer a) ran.1.parts ∙ ran.2.events rest

-- the end of the recording
end_none : (peer : Addr) (b : Progress) → b.head ≡ [] → IsAtRecord b → place_events peer b [] ≡ []
end_none peer b empty at =
    head_none peer b at (omega (arith, ap length empty, head_length-low b.head))

pub gives_end : (E : Type 0) (peer : Addr) (l m : Option (List ℕ)) (i j : ℕ) (a b : Progress) (buffer : List ℕ)
    → Ran peer l i a m j b [] → IsEnded b j m
    → GivesNext {E = E} (events_left peer a l) (events_left peer b m) (Ok given.End) buffer
gives_end E peer None m i j a b buffer ran ended = tt
gives_end E peer (Some text) None i j a b buffer ran ended = absurd ran
gives_end E peer (Some text) (Some rest) i j a b buffer ran ended =
    let none = ap (place_events peer b) ended.at_end ∙ end_none peer b ended.head ended.start in
    (ap (place_events peer a) ran.1.parts ∙ ran.2.events rest ∙ none, none)

-- octets in memory
memory_part : (peer : Addr) (b : Progress) (part more t : List ℕ) → b.unsent ≡ part ++ more → 0 < length part
    → GivesPart part (place_events peer b t) (place_events peer (record b { unsent = more }) t)
memory_part peer b part more t parts some =
    let later = past [] b.owed (past [] b.skip (λ u. events_from peer b.link (b.head ++ u))) t in
    let all = more ++ take b.owed t in record {
      more = all;
      later = later;
      first = ap (λ u. with_more (u ++ take b.owed t) later) parts
          ∙ ap (λ u. with_more u later) (append_assoc part more (take b.owed t))
          ∙ with_more-some (part ++ all) later (omega (arith, some, length-append part all));
      rest = refl;
    }

pub gives_memory : (E : Type 0) (peer : Addr) (l m : Option (List ℕ)) (i j : ℕ) (a b : Progress) (n : ℕ)
    (more buffer : List ℕ) → Ran peer l i a m j b [] → b.unsent ≡ take n buffer ++ more → 0 < n → n ≤ length buffer
    → GivesNext {E = E} (events_left peer a l) (events_left peer (record b { unsent = more }) m) (Ok (given.Octets n))
    buffer
gives_memory E peer None m i j a b n more buffer ran parts some fits = tt
gives_memory E peer (Some text) None i j a b n more buffer ran parts some fits = absurd ran
gives_memory E peer (Some text) (Some rest) i j a b n more buffer ran parts some fits =
    let part = memory_part peer b (take n buffer) more rest parts
    (omega (arith, some, fits, length-take n buffer)) in record {
      more = part.more;
      later = part.later;
      first = ap (place_events peer a) ran.1.parts ∙ ran.2.events rest ∙ part.first;
      rest = part.rest;
    }

-- octets of a message out of the source
owed_part : (peer : Addr) (p : Progress) (piece t : List ℕ) → p.unsent ≡ [] → 0 < length piece
    → length piece ≤ p.owed
    → GivesPart piece (place_events peer p (piece ++ t))
    (place_events peer (record p { owed = p.owed - length piece }) t)
owed_part peer p piece t unsent some fits =
    let k = p.owed - length piece in
    let sum : p.owed ≡ length piece + k = omega (arith, fits) in
    let F = past [] p.skip (λ u. events_from peer p.link (p.head ++ u)) in
    let later = past [] k F t in
    let all = take k t in record {
      more = all;
      later = later;
      first = ap (λ u. with_more (u ++ take p.owed (piece ++ t)) (past [] p.owed F (piece ++ t))) unsent
          ∙ ap (λ n. with_more (take n (piece ++ t)) (past [] p.owed F (piece ++ t))) sum
          ∙ ap (λ u. with_more u (past [] p.owed F (piece ++ t))) (take-append-add piece t k)
          ∙ ap (with_more (piece ++ all)) (past_front [] p.owed F piece t fits)
          ∙ with_more-some (piece ++ all) later (omega (arith, some, length-append piece all));
      rest = ap (λ u. with_more (u ++ all) later) unsent;
    }

pub gives_owed : (E : Type 0) (peer : Addr) (l m : Option (List ℕ)) (p : Progress) (n : ℕ) (buffer : List ℕ)
    → p.unsent ≡ [] → Consumes l m (take n buffer) → 0 < n → n ≤ length buffer → n ≤ p.owed
    → GivesNext {E = E} (events_left peer p l) (events_left peer (record p { owed = p.owed - n }) m)
    (Ok (given.Octets n)) buffer
gives_owed E peer None m p n buffer unsent consumed some fits upto = tt
gives_owed E peer (Some text) None p n buffer unsent consumed some fits upto = absurd consumed
gives_owed E peer (Some text) (Some rest) p n buffer unsent consumed some fits upto =
    let piece = take n buffer in
    let long : length piece ≡ n = omega (arith, fits, length-take n buffer) in
    let part = owed_part peer p piece rest unsent (omega (arith, long, some)) (omega (arith, long, upto)) in record {
      more = part.more;
      later = part.later;
      first = ap (place_events peer p) consumed ∙ part.first;
      rest = ap (λ k. place_events peer (record p { owed = p.owed - k }) rest) (sym long) ∙ part.rest;
    }

-- ---- a call that gives does not stop

one_is_none : (e : Event) (es : List Event) → e ∷ es ≡ [] → ⊥
one_is_none e es none = absurd cc

-- a text and what of it may be read both give
gives_both : (peer : Addr) (a : Progress) (text : List ℕ) (i : ℕ) (e f : Event) (es fs : List Event)
    → place_events peer a text ≡ e ∷ es → place_events peer a (take (FILE_OCTETS - i) text) ≡ f ∷ fs
    → Stops peer a i text → false ≡ true
gives_both peer a text i e f es fs whole seen (inl off) = absurd (one_is_none e es (sym whole ∙ off.none))
gives_both peer a text i e f es fs whole seen (inr more) = absurd (one_is_none f fs (sym seen ∙ more.none))

-- what may be read behind a piece
seen_front : (text rest piece : List ℕ) (i j : ℕ) → Reads text i piece rest j
    → take (FILE_OCTETS - i) text ≡ piece ++ take (FILE_OCTETS - j) rest
seen_front text rest piece i j reads =
    let sum : FILE_OCTETS - i ≡ length piece + (FILE_OCTETS - j) =
    omega (arith, reads.within, reads.counted) in
    ap (take (FILE_OCTETS - i)) reads.parts ∙ ap (λ k. take k (piece ++ rest)) sum
    ∙ take-append-add piece rest (FILE_OCTETS - j)

pub event_goes_on : (peer : Addr) (l m : Option (List ℕ)) (i j : ℕ) (a b : Progress) (e : Event)
    → Ran peer l i a m j b (e ∷ []) → IfSome l (λ text. Stops peer a i text → false ≡ true)
event_goes_on peer None m i j a b e ran = tt
event_goes_on peer (Some text) None i j a b e ran = absurd ran
event_goes_on peer (Some text) (Some rest) i j a b e ran =
    let seen = take (FILE_OCTETS - j) rest in
    gives_both peer a text i e e (place_events peer b rest) (place_events peer b seen)
    (ap (place_events peer a) ran.1.parts ∙ ran.2.events rest)
    (ap (place_events peer a) (seen_front text rest ran.0 i j ran.1) ∙ ran.2.events seen)

memory_gives : (peer : Addr) (b : Progress) (t : List ℕ) → 0 < length b.unsent
    → place_events peer b t ≡ octets (b.unsent ++ take b.owed t)
    ∷ past [] b.owed (past [] b.skip (λ u. events_from peer b.link (b.head ++ u))) t
memory_gives peer b t some =
    with_more-some (b.unsent ++ take b.owed t)
    (past [] b.owed (past [] b.skip (λ u. events_from peer b.link (b.head ++ u))) t)
    (omega (arith, some, length-append b.unsent (take b.owed t)))

pub memory_goes_on : (peer : Addr) (l m : Option (List ℕ)) (i j : ℕ) (a b : Progress)
    → Ran peer l i a m j b [] → 0 < length b.unsent → IfSome l (λ text. Stops peer a i text → false ≡ true)
memory_goes_on peer None m i j a b ran some = tt
memory_goes_on peer (Some text) None i j a b ran some = absurd ran
memory_goes_on peer (Some text) (Some rest) i j a b ran some =
    let seen = take (FILE_OCTETS - j) rest in
    gives_both peer a text i _ _ _ _
    (ap (place_events peer a) ran.1.parts ∙ ran.2.events rest ∙ memory_gives peer b rest some)
    (ap (place_events peer a) (seen_front text rest ran.0 i j ran.1) ∙ ran.2.events seen
    ∙ memory_gives peer b seen some)

owed_gives : (peer : Addr) (p : Progress) (t : List ℕ) → p.unsent ≡ [] → 0 < p.owed → 0 < length t
    → place_events peer p t ≡ octets (take p.owed t)
    ∷ past [] p.owed (past [] p.skip (λ u. events_from peer p.link (p.head ++ u))) t
owed_gives peer p t unsent some there =
    let later = past [] p.owed (past [] p.skip (λ u. events_from peer p.link (p.head ++ u))) t in
    ap (λ u. with_more (u ++ take p.owed t) later) unsent
    ∙ with_more-some (take p.owed t) later (omega (arith, some, there, length-take p.owed t))

pub owed_goes_on : (peer : Addr) (l m : Option (List ℕ)) (i : ℕ) (p : Progress) (piece : List ℕ)
    → p.unsent ≡ [] → 0 < p.owed → Consumes l m piece → 0 < length piece → i < FILE_OCTETS
    → IfSome l (λ text. Stops peer p i text → false ≡ true)
owed_goes_on peer None m i p piece unsent some consumed there room = tt
owed_goes_on peer (Some text) None i p piece unsent some consumed there room = absurd consumed
owed_goes_on peer (Some text) (Some rest) i p piece unsent some consumed there room =
    let seen = take (FILE_OCTETS - i) text in
    let long : 0 < length text = omega (arith, there, ap length consumed, length-append piece rest) in
    gives_both peer p text i _ _ _ _ (owed_gives peer p text unsent some long)
    (owed_gives peer p seen unsent some (omega (arith, long, room, length-take (FILE_OCTETS - i) text)))

-- the end of a recording is no stop
ended_by : (peer : Addr) (a b : Progress) (text rest piece : List ℕ) (i j : ℕ) → Reads text i piece rest j
    → Goes peer a piece b [] → IsEnded b j (Some rest) → Stops peer a i text → false ≡ true
ended_by peer a b text rest piece i j reads goes ended (inl off) =
    sym off.off ∙ ap (ends_whole a) reads.parts ∙ goes.whole rest ∙ ap (ends_whole b) ended.at_end
    ∙ start_whole b [] ended.start.owed ended.start.skip ∙ ap (λ h. is_whole (h ++ [])) ended.head
    ∙ ap (λ t. length t == 0) (short_rest [] (omega (arith, head_length-low [])))
ended_by peer a b text rest piece i j reads goes ended (inr more) =
    absurd (omega (
      arith,
      more.beyond,
      reads.counted,
      ended.within,
      ap length reads.parts,
      length-append piece rest,
      ap length ended.at_end,
    ))

pub end_goes_on : (peer : Addr) (l m : Option (List ℕ)) (i j : ℕ) (a b : Progress)
    → Ran peer l i a m j b [] → IsEnded b j m → IfSome l (λ text. Stops peer a i text → false ≡ true)
end_goes_on peer None m i j a b ran ended = tt
end_goes_on peer (Some text) None i j a b ran ended = absurd ran
end_goes_on peer (Some text) (Some rest) i j a b ran ended =
    ended_by peer a b text rest ran.0 i j ran.1 ran.2 ended

-- ---- the count

pub counts_run : (peer : Addr) (l m : Option (List ℕ)) (i j : ℕ) (a b : Progress) (given : List Event)
    → Ran peer l i a m j b given → KeepsCount l i m j
counts_run peer None m i j a b given ran = tt
counts_run peer (Some text) None i j a b given ran = absurd ran
counts_run peer (Some text) (Some rest) i j a b given ran =
    omega (arith, ran.1.counted, ap length ran.1.parts, length-append ran.0 rest)

pub counts_read : (l m : Option (List ℕ)) (i j : ℕ) (piece : List ℕ) → Consumes l m piece → j ≡ i + length piece
    → KeepsCount l i m j
counts_read None m i j piece consumed counted = tt
counts_read (Some text) None i j piece consumed counted = absurd consumed
counts_read (Some text) (Some rest) i j piece consumed counted =
    omega (arith, counted, ap length consumed, length-append piece rest)

-- ---- a call that failed

-- nothing was given
pub still_gives : {E : Type 0} (e : E) (left : Option (List Event)) (buffer : List ℕ)
    → GivesNext left left (Err e) buffer
still_gives e None buffer = tt
still_gives e (Some events) buffer = refl

-- one more was counted
pub fail_counts : {T E : Type 0} (e : E) (before now : ℕ) → before ≤ now → now ≡ counted_up before
    → HasCause {T = T} before now (Err e)
fail_counts e before now later is = record {
  later = later;
  kept = tt;
  failed = omega (arith, is);
  once = omega (arith, is);
}
