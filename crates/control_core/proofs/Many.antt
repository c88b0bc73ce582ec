-- The sessions of a control, one of which goes on: what they stand for, and their rows in the engine.
use Rattle.std.proofs.Common.{◌≡◌, ◌⊎◌, ℕ, zero, suc, ◌+◌, ◌≤◌, List, [], ◌∷◌, ◌++◌, length, map, Some}
use Rattle.std.proofs.Common.{refl, sym, ap, subst, ◌∙◌, arith}
use Rattle.std.specs.Prelude.{slice_get, slice_set}
use Rattle.std.specs.List.{AllByRecursion}
use Rattle.std.proofs.lemmas.List.{take-append-le}
use Rattle.urpf_base.specs.Lists.{AreDistinct}
use Rattle.urpf_base.specs.declared.kinds.Kind.{Kind}
use Rattle.origin_pairs.specs.Pairs.{Pair}
use Rattle.feed_io.specs.Events.{Event}
use Rattle.rpf_plain.specs.Engine.{EngineState}
use Rattle.rpf_plain.specs.Rows.{repeats}
use Rattle.rpf_plain.specs.World.{IsConfigured, Roles}
use Rattle.rpf_plain.specs.declared.rows.Row.{Row}
use Rattle.session_fsm.specs.declared.items.Effect.{Effect}
use Rattle.control_core.specs.Controls.{AllStand, AreAtMost, goes_on, items_of}
use Rattle.control_core.specs.Effects.{Holds}
use Rattle.control_core.specs.EngineRows.{HasSession, RowsFollow, session_rows}
use Rattle.control_core.specs.History.{StandsFor}
use Rattle.control_core.specs.Kept.{AreNumbered, IsKept, all_rows}
use Rattle.control_core.specs.States.{PeerState}
use Rattle.control_core.specs.Worlds.{Course, IsRowOf, IsRowOfAny}
use Rattle.control_core.specs.declared.limits.Limits.{Limits}
use Rattle.control_core.proofs.Places.{some_one}
use Rattle.control_core.proofs.RowCounts.{repeats-append}

-- the session that goes on stands for its course with more events and effects, and each other one for its own
pub stand_set : (courses : List Course) (peers : List PeerState) (s : ℕ) (course : Course) (later : PeerState)
    (gave : List Event) (more : List Effect) → AllStand courses peers → slice_get courses s ≡ Some course
    → later.session.config ≡ course.config → StandsFor (course.events ++ gave) (course.effects ++ more) later
    → AllStand (slice_set courses s (goes_on course gave more)) (slice_set peers s later)
stand_set [] peers s course later gave more stand got config stands = cc
stand_set (c ∷ courses) [] s course later gave more stand got config stands = absurd stand
stand_set (c ∷ courses) (p ∷ peers) zero course later gave more stand got config stands =
    (config, stands, stand.2)
stand_set (c ∷ courses) (p ∷ peers) (suc s) course later gave more stand got config stands =
    (stand.0, stand.1, stand_set courses peers s course later gave more stand.2 got config stands)

-- a peer stands for the course at its place
pub stand_at : (courses : List Course) (peers : List PeerState) (s : ℕ) (course : Course) (peer : PeerState)
    → AllStand courses peers → slice_get courses s ≡ Some course → slice_get peers s ≡ Some peer
    → (peer.session.config ≡ course.config) × StandsFor course.events course.effects peer
stand_at [] peers s course peer stand got there = cc
stand_at (c ∷ courses) [] s course peer stand got there = absurd stand
stand_at (c ∷ courses) (p ∷ peers) zero course peer stand got there =
    let same_course : c ≡ course = some_one c course got in
    let same_peer : p ≡ peer = some_one p peer there in
    subst (λ (q : PeerState). (q.session.config ≡ course.config) × StandsFor course.events course.effects q) same_peer
    (subst (λ (d : Course). (p.session.config ≡ d.config) × StandsFor d.events d.effects p) same_course
    (stand.0, stand.1))
stand_at (c ∷ courses) (p ∷ peers) (suc s) course peer stand got there =
    stand_at courses peers s course peer stand.2 got there

-- the sessions are configured as before
pub configs_set : (courses : List Course) (s : ℕ) (course : Course) (gave : List Event) (more : List Effect)
    → slice_get courses s ≡ Some course
    → map (λ (c : Course). c.config) (slice_set courses s (goes_on course gave more))
    ≡ map (λ (c : Course). c.config) courses
configs_set [] s course gave more got = refl
configs_set (c ∷ courses) zero course gave more got =
    ap (λ (d : Course). d.config ∷ map (λ (c : Course). c.config) courses) (sym (some_one c course got))
configs_set (c ∷ courses) (suc s) course gave more got =
    ap (λ ds. c.config ∷ ds) (configs_set courses s course gave more got)

-- no session has fewer items than before
pub at_most_set : (counts : List ℕ) (peers : List PeerState) (s : ℕ) (peer later : PeerState)
    → AreAtMost counts (items_of peers) → slice_get peers s ≡ Some peer → peer.session.items ≤ later.session.items
    → AreAtMost counts (items_of (slice_set peers s later))
at_most_set [] [] s peer later most there more = most
at_most_set [] (p ∷ peers) s peer later most there more = absurd most
at_most_set (n ∷ counts) [] s peer later most there more = absurd most
at_most_set (n ∷ counts) (p ∷ peers) zero peer later most there more =
    let same : p.session.items ≡ peer.session.items = ap (λ (q : PeerState). q.session.items) (some_one p peer there) in
    (omega (arith, most.0, more, same), most.1)
at_most_set (n ∷ counts) (p ∷ peers) (suc s) peer later most there more =
    (most.0, at_most_set counts peers s peer later most.1 there more)

-- the first items had the effects that they had
same_past : (course : Course) (gave : List Event) (more : List Effect) (count : ℕ) (row : Row)
    → count ≤ length course.effects → IsRowOf (goes_on course gave more) count row ≡ IsRowOf course count row
same_past course gave more count row within =
    ap (λ (es : List Effect). (row.iface ≡ course.config.iface) × Holds es row.prefix row.origin)
    (take-append-le count course.effects more within)

-- the rows of a position that was reached are those that they were
pub past_set : (courses : List Course) (peers : List PeerState) (counts : List ℕ) (s : ℕ) (course : Course)
    (gave : List Event) (more : List Effect) (row : Row)
    → AllStand courses peers → AreAtMost counts (items_of peers) → slice_get courses s ≡ Some course
    → IsRowOfAny (slice_set courses s (goes_on course gave more)) counts row ≡ IsRowOfAny courses counts row
past_set [] peers counts s course gave more row stand most got = refl
past_set (c ∷ courses) [] counts s course gave more row stand most got = absurd stand
past_set (c ∷ courses) (p ∷ peers) [] zero course gave more row stand most got = refl
past_set (c ∷ courses) (p ∷ peers) [] (suc s) course gave more row stand most got = refl
past_set (c ∷ courses) (p ∷ peers) (count ∷ counts) zero course gave more row stand most got =
    let same : c ≡ course = some_one c course got in
    let many : p.session.items ≡ length c.effects = stand.1.counted in
    let within : count ≤ length course.effects =
    subst (λ (d : Course). count ≤ length d.effects) same (omega (arith, most.0, many)) in
    ap (λ (T : Type 0). T ⊎ IsRowOfAny courses counts row)
    (same_past course gave more count row within ∙ ap (λ (d : Course). IsRowOf d count row) (sym same))
past_set (c ∷ courses) (p ∷ peers) (count ∷ counts) (suc s) course gave more row stand most got =
    ap (λ (T : Type 0). IsRowOf c count row ⊎ T)
    (past_set courses peers counts s course gave more row stand.2 most.1 got)

-- the rows of all sessions change as those of the one do
pub all_set : (peers : List PeerState) (s : ℕ) (peer later : PeerState) (row : Row) → slice_get peers s ≡ Some peer
    → later.session.config ≡ peer.session.config
    → repeats (all_rows (slice_set peers s later)) row
    + repeats (session_rows peer.session.config.iface peer.routes) row
    ≡ repeats (all_rows peers) row + repeats (session_rows peer.session.config.iface later.routes) row
all_set [] s peer later row there config = cc
all_set (p ∷ peers) zero peer later row there config =
    let own : PeerState → List Row = λ q. session_rows q.session.config.iface q.routes in
    let same : repeats (own p) row ≡ repeats (own peer) row = ap (λ (q : PeerState). repeats (own q) row)
    (some_one p peer there) in
    let iface : repeats (own later) row ≡ repeats (session_rows peer.session.config.iface later.routes) row =
    ap (λ k. repeats (session_rows k.iface later.routes) row) config in
    let old = repeats-append (own p) (all_rows peers) row in
    let new = repeats-append (own later) (all_rows peers) row in
    omega (arith, same, iface, old, new)
all_set (p ∷ peers) (suc s) peer later row there config =
    let own : PeerState → List Row = λ q. session_rows q.session.config.iface q.routes in
    let old = repeats-append (own p) (all_rows peers) row in
    let new = repeats-append (own p) (all_rows (slice_set peers s later)) row in
    let rest = all_set peers s peer later row there config in
    omega (arith, old, new, rest)

-- the rows of one session are among those of all
some_rows : (peers : List PeerState) (s : ℕ) (peer : PeerState) (row : Row) → slice_get peers s ≡ Some peer
    → repeats (session_rows peer.session.config.iface peer.routes) row ≤ repeats (all_rows peers) row
some_rows [] s peer row there = cc
some_rows (p ∷ peers) zero peer row there =
    let own : PeerState → List Row = λ q. session_rows q.session.config.iface q.routes in
    let same : repeats (own p) row ≡ repeats (own peer) row = ap (λ (q : PeerState). repeats (own q) row)
    (some_one p peer there) in
    omega (arith, same, repeats-append (own p) (all_rows peers) row)
some_rows (p ∷ peers) (suc s) peer row there =
    let own : PeerState → List Row = λ q. session_rows q.session.config.iface q.routes in
    omega (arith, repeats-append (own p) (all_rows peers) row, some_rows peers s peer row there)

all_at : (P : PeerState → Type 0) (peers : List PeerState) (s : ℕ) (peer : PeerState) → AllByRecursion P peers
    → slice_get peers s ≡ Some peer → P peer
all_at P [] s peer each there = cc
all_at P (p ∷ peers) zero peer each there = subst P (some_one p peer there) each.0
all_at P (p ∷ peers) (suc s) peer each there = all_at P peers s peer each.1 there

each_set : (P : PeerState → Type 0) (peers : List PeerState) (s : ℕ) (later : PeerState) → AllByRecursion P peers
    → P later → AllByRecursion P (slice_set peers s later)
each_set P [] s later each is = tt
each_set P (p ∷ peers) zero later each is = (is, each.1)
each_set P (p ∷ peers) (suc s) later each is = (each.0, each_set P peers s later each.1 is)

-- a session has the number of its place
pub number_at : (n : ℕ) (peers : List PeerState) (s : ℕ) (peer : PeerState) → AreNumbered n peers
    → slice_get peers s ≡ Some peer → peer.number ≡ n + s
number_at n [] s peer numbered there = cc
number_at n (p ∷ peers) zero peer numbered there =
    let same : p.number ≡ peer.number = ap (λ (q : PeerState). q.number) (some_one p peer there) in
    omega (arith, same, numbered.0)
number_at n (p ∷ peers) (suc s) peer numbered there =
    omega (arith, number_at (n + 1) peers s peer numbered.1 there)

numbered_set : (n : ℕ) (peers : List PeerState) (s : ℕ) (peer later : PeerState) → AreNumbered n peers
    → slice_get peers s ≡ Some peer → later.number ≡ peer.number → AreNumbered n (slice_set peers s later)
numbered_set n [] s peer later numbered there same = tt
numbered_set n (p ∷ peers) zero peer later numbered there same =
    (same ∙ sym (ap (λ (q : PeerState). q.number) (some_one p peer there)) ∙ numbered.0, numbered.1)
numbered_set n (p ∷ peers) (suc s) peer later numbered there same =
    (numbered.0, numbered_set (n + 1) peers s peer later numbered.1 there same)

-- a session can be pulled
pub ready_at : (peers : List PeerState) (kinds : List (ℕ × Kind)) (engine : EngineState) (limits : Limits) (s : ℕ)
    (peer : PeerState) → IsKept peers kinds engine limits → slice_get peers s ≡ Some peer
    → HasSession peer.session.config.iface peer.routes engine
ready_at peers kinds engine limits s peer kept there = record {
  configured = all_at (λ p. IsConfigured engine.world.roles p.session.config.iface) peers s peer kept.configured there;
  held = λ row. omega (arith, kept.rows row, some_rows peers s peer row there);
}

-- what always holds still holds where a session was pulled
pub kept_set : (peers : List PeerState) (kinds : List (ℕ × Kind)) (old new : EngineState) (limits : Limits) (s : ℕ)
    (peer later : PeerState) → IsKept peers kinds old limits → slice_get peers s ≡ Some peer
    → later.session.config ≡ peer.session.config → later.number ≡ peer.number
    → RowsFollow peer.session.config.iface peer.routes later.routes old new
    → IsKept (slice_set peers s later) kinds new limits
kept_set peers kinds old new limits s peer later kept there config number follows =
    let roles : new.world.roles ≡ old.world.roles = follows.others.roles in
    let configured : IsConfigured old.world.roles later.session.config.iface =
    subst (λ k. IsConfigured old.world.roles k.iface) (sym config)
    (all_at (λ p. IsConfigured old.world.roles p.session.config.iface) peers s peer kept.configured there) in
    record {
      rows = λ row. omega (arith, kept.rows row, follows.rows row, all_set peers s peer later row there config);
      roles = roles ∙ kept.roles;
      pairs = subst (λ (ps : List Pair). AreDistinct ps) (sym follows.others.pairs) kept.pairs;
      configured =
          subst
          (λ (rs : Roles). AllByRecursion (λ p. IsConfigured rs p.session.config.iface) (slice_set peers s later))
          (sym roles)
          (each_set (λ p. IsConfigured old.world.roles p.session.config.iface) peers s later kept.configured
          configured);
      numbered = numbered_set 0 peers s peer later kept.numbered there number;
      few = kept.few;
    }
