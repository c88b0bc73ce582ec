-- The sessions of a run at a place: what is known of one of them, and what changes where one goes on.
use Rattle.std.proofs.Common.{◌≡◌, ◌⊎◌, ℕ, zero, suc, ◌≤◌, List, [], ◌∷◌, length, map, take, Some}
use Rattle.std.proofs.Common.{refl, sym, ap, subst, ◌∙◌, arith}
use Rattle.std.specs.Prelude.{slice_get, slice_set}
use Rattle.std.specs.List.{AllZip}
use Rattle.std.proofs.lemmas.List.{take-append-le}
use Rattle.urpf_base.specs.declared.sessions.SessionConfig.{SessionConfig}
use Rattle.session_fsm.specs.declared.items.Effect.{Effect}
use Rattle.rpf_plain.specs.declared.rows.Row.{Row}
use Rattle.control_core.specs.Controls.{AllStand, AreAtMost, items_of}
use Rattle.control_core.specs.Effects.{Holds}
use Rattle.control_core.specs.States.{PeerState}
use Rattle.control_core.specs.Worlds.{Course, IsRowOf, IsRowOfAny}
use Rattle.control_core.proofs.Places.{some_one}
use Rattle.run_lines.specs.Inputs.{Input, IsInput}
use Rattle.run_lines.specs.Places.{Reached}
use Rattle.run_lines.specs.Runs.{AreSessionsAt, IsSessionAt}
use Rattle.run_lines.specs.Slots.{Slot}
use Rattle.run_lines.proofs.Knowing.{Known, known}

-- what is at the place of a session
pub record SessionAt (session : ℕ) (input : Input) (sessions : List Reached) (courses : List Course)
    (peers : List PeerState) (slots : List Slot) : Type 0 where
  pub at : Reached
  pub at_is : slice_get sessions session ≡ Some at
  pub course : Course
  pub course_is : slice_get courses session ≡ Some course
  pub peer : PeerState
  pub peer_is : slice_get peers session ≡ Some peer
  pub slot : Slot
  pub slot_is : slice_get slots session ≡ Some slot
  pub here : IsSessionAt input at course peer slot

pub session_at : (inputs : List Input) (sessions : List Reached) (courses : List Course) (peers : List PeerState)
    (slots : List Slot) (s : ℕ) (input : Input)
    → AreSessionsAt inputs sessions courses peers slots → slice_get inputs s ≡ Some input
    → SessionAt s input sessions courses peers slots
session_at [] sessions courses peers slots s input are there = cc
session_at (i ∷ inputs) [] courses peers slots s input are there = absurd are
session_at (i ∷ inputs) (a ∷ sessions) [] peers slots s input are there = absurd are
session_at (i ∷ inputs) (a ∷ sessions) (c ∷ courses) [] slots s input are there = absurd are
session_at (i ∷ inputs) (a ∷ sessions) (c ∷ courses) (p ∷ peers) [] s input are there = absurd are
session_at (i ∷ inputs) (a ∷ sessions) (c ∷ courses) (p ∷ peers) (l ∷ slots) zero input are there = record {
  at = a;
  at_is = refl;
  course = c;
  course_is = refl;
  peer = p;
  peer_is = refl;
  slot = l;
  slot_is = refl;
  here = subst (λ (j : Input). IsSessionAt j a c p l) (some_one i input there) are.0;
}
session_at (i ∷ inputs) (a ∷ sessions) (c ∷ courses) (p ∷ peers) (l ∷ slots) (suc s) input are there =
    let later = session_at inputs sessions courses peers slots s input are.1 there in
    record {
      at = later.at;
      at_is = later.at_is;
      course = later.course;
      course_is = later.course_is;
      peer = later.peer;
      peer_is = later.peer_is;
      slot = later.slot;
      slot_is = later.slot_is;
      here = later.here;
    }

-- one session goes on, and the others stay where they are
pub sessions_set : (inputs : List Input) (sessions : List Reached) (courses : List Course) (peers : List PeerState)
    (slots : List Slot) (s : ℕ) (input : Input) (at : Reached) (course : Course) (peer : PeerState)
    (slot : Slot) → AreSessionsAt inputs sessions courses peers slots
    → slice_get inputs s ≡ Some input → IsSessionAt input at course peer slot
    → AreSessionsAt inputs (slice_set sessions s at) (slice_set courses s course) (slice_set peers s peer)
    (slice_set slots s slot)
sessions_set [] sessions courses peers slots s input at course peer slot are there here = cc
sessions_set (i ∷ inputs) [] courses peers slots s input at course peer slot are there here = absurd are
sessions_set (i ∷ inputs) (a ∷ sessions) [] peers slots s input at course peer slot are there here = absurd are
sessions_set (i ∷ inputs) (a ∷ sessions) (c ∷ courses) [] slots s input at course peer slot are there here =
    absurd are
sessions_set (i ∷ inputs) (a ∷ sessions) (c ∷ courses) (p ∷ peers) [] s input at course peer slot are there here =
    absurd are
sessions_set (i ∷ inputs) (a ∷ sessions) (c ∷ courses) (p ∷ peers) (l ∷ slots) zero input at course peer slot are
    there here =
    (subst (λ (j : Input). IsSessionAt j at course peer slot) (sym (some_one i input there)) here, are.1)
sessions_set (i ∷ inputs) (a ∷ sessions) (c ∷ courses) (p ∷ peers) (l ∷ slots) (suc s) input at course peer slot are
    there here =
    (are.0, sessions_set inputs sessions courses peers slots s input at course peer slot are.1 there here)

-- the items that the sessions took are those of the place
pub items_same : (inputs : List Input) (sessions : List Reached) (courses : List Course) (peers : List PeerState)
    (slots : List Slot) → AreSessionsAt inputs sessions courses peers slots → AllStand courses peers
    → items_of peers ≡ map (λ (at : Reached). at.taken) sessions
items_same [] [] [] [] [] are stand = refl
items_same [] [] [] [] (l ∷ slots) are stand = absurd are
items_same [] [] [] (p ∷ peers) slots are stand = absurd are
items_same [] [] (c ∷ courses) peers slots are stand = absurd are
items_same [] (a ∷ sessions) courses peers slots are stand = absurd are
items_same (i ∷ inputs) [] courses peers slots are stand = absurd are
items_same (i ∷ inputs) (a ∷ sessions) [] peers slots are stand = absurd are
items_same (i ∷ inputs) (a ∷ sessions) (c ∷ courses) [] slots are stand = absurd are
items_same (i ∷ inputs) (a ∷ sessions) (c ∷ courses) (p ∷ peers) [] are stand = absurd are
items_same (i ∷ inputs) (a ∷ sessions) (c ∷ courses) (p ∷ peers) (l ∷ slots) are stand =
    let one : p.session.items ≡ a.taken = stand.1.counted ∙ sym are.0.taken in
    ap (λ (n : ℕ). n ∷ items_of peers) one
    ∙ ap (λ (ns : List ℕ). a.taken ∷ ns) (items_same inputs sessions courses peers slots are.1 stand.2)

pub sessions_long : (inputs : List Input) (sessions : List Reached) (courses : List Course) (peers : List PeerState)
    (slots : List Slot) → AreSessionsAt inputs sessions courses peers slots
    → (length sessions ≡ length inputs) × (length peers ≡ length inputs)
sessions_long [] [] [] [] [] are = (refl, refl)
sessions_long [] [] [] [] (l ∷ slots) are = absurd are
sessions_long [] [] [] (p ∷ peers) slots are = absurd are
sessions_long [] [] (c ∷ courses) peers slots are = absurd are
sessions_long [] (a ∷ sessions) courses peers slots are = absurd are
sessions_long (i ∷ inputs) [] courses peers slots are = absurd are
sessions_long (i ∷ inputs) (a ∷ sessions) [] peers slots are = absurd are
sessions_long (i ∷ inputs) (a ∷ sessions) (c ∷ courses) [] slots are = absurd are
sessions_long (i ∷ inputs) (a ∷ sessions) (c ∷ courses) (p ∷ peers) [] are = absurd are
sessions_long (i ∷ inputs) (a ∷ sessions) (c ∷ courses) (p ∷ peers) (l ∷ slots) are =
    let later = sessions_long inputs sessions courses peers slots are.1 in
    (omega (arith, later.0), omega (arith, later.1))

-- the course so far is a front of the whole one
pub record IsFront (course : Course) (input : Input) : Type 0 where
  pub config : course.config ≡ input.course.config
  pub front : Known input course.effects

pub fronts : (configs : List SessionConfig) (inputs : List Input) (sessions : List Reached) (courses : List Course)
    (peers : List PeerState) (slots : List Slot) → AllZip IsInput configs inputs
    → map (λ (c : Course). c.config) courses ≡ configs → AreSessionsAt inputs sessions courses peers slots
    → AllStand courses peers → AllZip IsFront courses inputs
fronts configs [] [] [] [] [] is same are stand = tt
fronts configs [] [] [] [] (l ∷ slots) is same are stand = absurd are
fronts configs [] [] [] (p ∷ peers) slots is same are stand = absurd are
fronts configs [] [] (c ∷ courses) peers slots is same are stand = absurd are
fronts configs [] (a ∷ sessions) courses peers slots is same are stand = absurd are
fronts configs (i ∷ inputs) [] courses peers slots is same are stand = absurd are
fronts configs (i ∷ inputs) (a ∷ sessions) [] peers slots is same are stand = absurd are
fronts configs (i ∷ inputs) (a ∷ sessions) (c ∷ courses) [] slots is same are stand = absurd are
fronts configs (i ∷ inputs) (a ∷ sessions) (c ∷ courses) (p ∷ peers) [] is same are stand = absurd are
fronts [] (i ∷ inputs) (a ∷ sessions) (c ∷ courses) (p ∷ peers) (l ∷ slots) is same are stand = absurd is
fronts (k ∷ configs) (i ∷ inputs) (a ∷ sessions) (c ∷ courses) (p ∷ peers) (l ∷ slots) is same are stand =
    let own : c.config ≡ k = head_same c.config k (map (λ (c : Course). c.config) courses) configs same in
    let rest : map (λ (c : Course). c.config) courses ≡ configs =
    tail_same c.config k (map (λ (c : Course). c.config) courses) configs same in (
      record {
        config = own ∙ sym is.0.configured;
        front = known k i c.events are.0.rest c.effects p is.0 are.0.same stand.1 (stand.0 ∙ own);
      },
      fronts configs inputs sessions courses peers slots is.1 rest are.1 stand.2,
    )
  where
    head_same : (x y : SessionConfig) (xs ys : List SessionConfig) → x ∷ xs ≡ y ∷ ys → x ≡ y
    head_same x y xs ys e = cc

    tail_same : (x y : SessionConfig) (xs ys : List SessionConfig) → x ∷ xs ≡ y ∷ ys → xs ≡ ys
    tail_same x y xs ys e = cc

-- the rows of a session at a count that it reached are those of the whole
row_whole : (course : Course) (input : Input) (count : ℕ) (row : Row) → IsFront course input
    → count ≤ length course.effects → IsRowOf course count row ≡ IsRowOf input.course count row
row_whole course input count row front less =
    let taken : take count input.course.effects ≡ take count course.effects =
    ap (take count) front.front.parts ∙ take-append-le count course.effects front.front.later less in
    ap (λ (iface : ℕ). (row.iface ≡ iface) × Holds (take count course.effects) row.prefix row.origin)
    (ap (λ (k : SessionConfig). k.iface) front.config)
    ∙ ap (λ (es : List Effect). (row.iface ≡ input.course.config.iface) × Holds es row.prefix row.origin) (sym taken)

-- so are those of all sessions
pub rows_whole : (courses : List Course) (inputs : List Input) (peers : List PeerState) (counts : List ℕ) (row : Row)
    → AllZip IsFront courses inputs → AllStand courses peers → AreAtMost counts (items_of peers)
    → IsRowOfAny courses counts row ≡ IsRowOfAny (map (λ (i : Input). i.course) inputs) counts row
rows_whole [] [] peers counts row fronts stand most = refl
rows_whole [] (i ∷ inputs) peers counts row fronts stand most = absurd fronts
rows_whole (c ∷ courses) [] peers counts row fronts stand most = absurd fronts
rows_whole (c ∷ courses) (i ∷ inputs) [] counts row fronts stand most = absurd stand
rows_whole (c ∷ courses) (i ∷ inputs) (p ∷ peers) [] row fronts stand most = refl
rows_whole (c ∷ courses) (i ∷ inputs) (p ∷ peers) (n ∷ counts) row fronts stand most =
    let less : n ≤ length c.effects = omega (arith, most.0, stand.1.counted) in
    ap (λ (T : Type 0). T ⊎ IsRowOfAny courses counts row) (row_whole c i n row fronts.0 less)
    ∙ ap (λ (T : Type 0). IsRowOf i.course n row ⊎ T)
    (rows_whole courses inputs peers counts row fronts.1 stand.2 most.1)
