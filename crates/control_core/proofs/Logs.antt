-- A log of the routes that an UPDATE changed grows and shrinks, and the rows of the engine with it.
use Rattle.std.proofs.Common.{◌≡◌, ◌⊎◌, ℕ, ◌+◌, List, [], ◌∷◌, ◌++◌, Option, Some, None}
use Rattle.std.proofs.Common.{refl, sym, ap, subst, ◌∙◌, inl, inr, arith}
use Rattle.std.specs.Prelude.{IsSome}
use Rattle.urpf_base.specs.Address.{Block}
use Rattle.urpf_base.specs.Lists.{AreDistinct, Has}
use Rattle.prefix_map.proofs.Order.{same_or_not}
use Rattle.adj_rib.proofs.Routes.{same_routes}
use Rattle.adj_rib.specs.Routes.{ChangesAt, Routes, routes_at}
use Rattle.rpf_plain.specs.Engine.{AddsRow, EngineState, RemovesRow}
use Rattle.rpf_plain.specs.Rows.{repeats, row_of}
use Rattle.rpf_plain.specs.declared.rows.Row.{Row}
use Rattle.control_core.specs.EngineRows.{HasRows, HasRowsOf, IsLogged, IsOpenLog, KeepsSets, Log, RowsFollow}
use Rattle.control_core.specs.EngineRows.{TakesRows, logged, replaced_rows, rows_at, rows_of, session_rows}
use Rattle.control_core.proofs.RowCounts.{count_changed, count_session, repeats-append, route_count, row_ties_itself}
use Rattle.control_core.proofs.RowCounts.{row_there}
use Rattle.control_core.proofs.RowLengths.{hit}

pub push_cases : {X : Type 0} (xs : List X) (x y : X) → Has (xs ++ x ∷ []) y → Has xs y ⊎ (y ≡ x)
push_cases [] x y (inl same) = inr same
push_cases [] x y (inr never) = absurd never
push_cases (z ∷ xs) x y (inl same) = inl (inl same)
push_cases (z ∷ xs) x y (inr later) =
    elim (push_cases xs x y later) [ inl has ↦ inl (inr has) | inr same ↦ inr same ]

pub push_old : {X : Type 0} (xs : List X) (x y : X) → Has xs y → Has (xs ++ x ∷ []) y
push_old [] x y never = absurd never
push_old (z ∷ xs) x y (inl same) = inl same
push_old (z ∷ xs) x y (inr later) = inr (push_old xs x y later)

pub push_last : {X : Type 0} (xs : List X) (x : X) → Has (xs ++ x ∷ []) x
push_last [] x = inl refl
push_last (z ∷ xs) x = inr (push_last xs x)

distinct_push : {X : Type 0} (xs : List X) (x : X) → AreDistinct xs → (Has xs x → ⊥) → AreDistinct (xs ++ x ∷ [])
distinct_push [] x distinct fresh = (λ never. never, tt)
distinct_push (y ∷ xs) x distinct fresh = (
  λ has. elim (push_cases xs x y has) [ inl old ↦ distinct.0 old | inr same ↦ fresh (inl (sym same)) ],
  distinct_push xs x distinct.1 (λ has. fresh (inr has)),
)

distinct_front : {X : Type 0} (xs : List X) (x : X) → AreDistinct (xs ++ x ∷ []) → AreDistinct xs
distinct_front [] x distinct = tt
distinct_front (y ∷ xs) x distinct = (λ has. distinct.0 (push_old xs x y has), distinct_front xs x distinct.1)

distinct_last : {X : Type 0} (xs : List X) (x : X) → AreDistinct (xs ++ x ∷ []) → Has xs x → ⊥
distinct_last [] x distinct never = never
distinct_last (y ∷ xs) x distinct (inl same) =
    distinct.0 (subst (Has (xs ++ x ∷ [])) same (push_last xs x))
distinct_last (y ∷ xs) x distinct (inr later) = distinct_last xs x distinct.1 later

logged-push : (log : Log) (change : Block × Option (Option ℕ))
    → logged (log ++ change ∷ []) ≡ logged log ++ change.0 ∷ []
logged-push [] change = refl
logged-push (c ∷ log) change = ap (λ (ps : List Block). c.0 ∷ ps) (logged-push log change)

replaced-push : (iface : ℕ) (log : Log) (change : Block × Option (Option ℕ)) (row : Row)
    → repeats (replaced_rows iface (log ++ change ∷ [])) row
    ≡ repeats (replaced_rows iface log) row + repeats (rows_at iface change.0 change.1) row
replaced-push iface [] change row =
    repeats-append (rows_at iface change.0 change.1) [] row
    ∙ omega arith
replaced-push iface (c ∷ log) change row =
    let front = repeats-append (rows_at iface c.0 c.1) (replaced_rows iface log) row in
    let all = repeats-append (rows_at iface c.0 c.1) (replaced_rows iface (log ++ change ∷ [])) row in
    let later = replaced-push iface log change row in
    omega (arith, front, all, later)

-- nothing was changed so far
pub logged_none : (iface : ℕ) (origin : Option ℕ) (routes : Routes) (engine : EngineState)
    → IsLogged iface origin [] routes routes engine engine
logged_none iface origin routes engine = record {
  had = λ p o never. absurd never;
  has = λ p never. absurd never;
  others = λ p never. refl;
  distinct = tt;
  ahead = record {
    rows = λ row. omega arith;
    others = record { roles = refl; pairs = refl; base = refl };
  };
}

-- so it is with a log that has nothing
pub logged_first : (iface : ℕ) (origin : Option ℕ) (log : Log) (routes : Routes) (engine : EngineState) → log ≡ []
    → IsLogged iface origin log routes routes engine engine
logged_first iface origin log routes engine none =
    subst (λ (l : Log). IsLogged iface origin l routes routes engine engine) (sym none)
    (logged_none iface origin routes engine)

pub sets-trans : (a b c : EngineState) → KeepsSets a b → KeepsSets b c → KeepsSets a c
sets-trans a b c first second = record {
  roles = second.roles ∙ first.roles;
  pairs = second.pairs ∙ first.pairs;
  base = second.base ∙ first.base;
}

-- the prefix was given the origin, and its row was added
pub logged_more : (iface : ℕ) (origin : Option ℕ) (log : Log) (p : Block) (before old new : Routes)
    (begun engine next : EngineState) → IsLogged iface origin log before old begun engine
    → ¬ (routes_at old p ≡ Some origin) → ChangesAt p (Some origin) old new
    → AddsRow (row_of iface p origin) engine next
    → IsLogged iface origin (log ++ (p, routes_at old p) ∷ []) before new begun next
logged_more iface origin log p before old new begun engine next is other change adds =
    let fresh : Has (logged log) p → ⊥ = λ has. other (is.has p has) in
    let push = logged-push log (p, routes_at old p) in
    record {
      had = λ q o has.
          elim (push_cases log (p, routes_at old p) (q, o) has) [
            | inl there ↦ is.had q o there
            | inr same ↦ sym (is.others q (λ there. fresh (subst (Has (logged log)) (ap (λ c. c.0) same) there)))
                ∙ ap (routes_at old) (ap (λ c. c.0) same) ∙ sym (ap (λ c. c.1) same)
          ];
      has = λ q has.
          elim (push_cases (logged log) p q (subst (λ (ps : List Block). Has ps q) push has)) [
            | inl there ↦ change.others q (λ same. fresh (subst (Has (logged log)) same there)) ∙ is.has q there
            | inr same ↦ ap (routes_at new) same ∙ change.here
          ];
      others = λ q never.
          change.others q
          (λ same. never (subst (λ (ps : List Block). Has ps q) (sym push)
          (subst (Has (logged log ++ p ∷ [])) (sym same) (push_last (logged log) p))))
          ∙ is.others q
          (λ there. never (subst (λ (ps : List Block). Has ps q) (sym push) (push_old (logged log) p q there)));
      distinct = subst AreDistinct (sym push) (distinct_push (logged log) p is.distinct fresh);
      ahead = record {
        rows = λ row.
            let so_far = is.ahead.rows row in
            let added : repeats next.world.rows row
            ≡ hit (row_of iface p origin) row + repeats engine.world.rows row = adds.rows row in
            let changed = count_changed iface p (Some origin) old new row change in
            let more = replaced-push iface log (p, routes_at old p) row in
            omega (arith, so_far, added, changed, more);
        others = sets-trans begun engine next is.ahead.others
            (record { roles = adds.roles; pairs = adds.pairs; base = adds.base });
      };
    }

-- the last change was taken back, and its row with it
pub logged_less : (iface : ℕ) (origin : Option ℕ) (log : Log) (p : Block) (o : Option (Option ℕ))
    (before old new : Routes) (begun engine next : EngineState)
    → IsLogged iface origin (log ++ (p, o) ∷ []) before old begun engine → ChangesAt p o old new
    → RemovesRow (row_of iface p origin) engine next → IsLogged iface origin log before new begun next
logged_less iface origin log p o before old new begun engine next is change removes =
    let push = logged-push log (p, o) in
    let distinct : AreDistinct (logged log ++ p ∷ []) = subst AreDistinct push is.distinct in
    let fresh = distinct_last (logged log) p distinct in
    let given : routes_at old p ≡ Some origin = is.has p
    (subst (λ (ps : List Block). Has ps p) (sym push) (push_last (logged log) p)) in
    record {
      had = λ q a has. is.had q a (push_old log (p, o) (q, a) has);
      has = λ q has.
          change.others q (λ same. fresh (subst (Has (logged log)) same has))
          ∙ is.has q (subst (λ (ps : List Block). Has ps q) (sym push) (push_old (logged log) p q has));
      others = λ q never.
          elim (same_or_not q p) [
            | inl same ↦ ap (routes_at new) same ∙ change.here ∙ sym (is.had p o (push_last log (p, o)))
                ∙ ap (routes_at before) (sym same)
            | inr other ↦ change.others q other
                ∙ is.others q
                (λ has. elim (push_cases (logged log) p q (subst (λ (ps : List Block). Has ps q) push has))
                [ inl there ↦ never there | inr same ↦ other same ])
          ];
      distinct = distinct_front (logged log) p distinct;
      ahead = record {
        rows = λ row.
            let so_far = is.ahead.rows row in
            let taken : repeats engine.world.rows row
            ≡ hit (row_of iface p origin) row + repeats next.world.rows row = removes.rows row
            in
            let changed = count_changed iface p o old new row change in
            let there : repeats (rows_at iface p (routes_at old p)) row
            ≡ repeats (rows_at iface p (Some origin)) row =
            ap (λ (v : Option (Option ℕ)). repeats (rows_at iface p v) row) given in
            let more = replaced-push iface log (p, o) row in
            omega (arith, so_far, taken, changed, there, more);
        others = sets-trans begun engine next is.ahead.others
            (record { roles = sym removes.roles; pairs = sym removes.pairs; base = sym removes.base });
      };
    }

-- a row of the last change is there
pub logged_there : (iface : ℕ) (origin : Option ℕ) (log : Log) (p : Block) (o : Option (Option ℕ))
    (before now : Routes) (begun engine : EngineState)
    → IsLogged iface origin (log ++ (p, o) ∷ []) before now begun engine → HasRowsOf iface before begun
    → Has engine.world.rows (row_of iface p origin)
logged_there iface origin log p o before now begun engine is held =
    let row = row_of iface p origin in
    let given : routes_at now p ≡ Some origin = is.has p
    (subst (λ (ps : List Block). Has ps p) (sym (logged-push log (p, o))) (push_last (logged log) p)) in
    let once : repeats (session_rows iface now) row ≡ 1 = count_session iface now row
    ∙ ap (λ (v : Option (Option ℕ)). route_count iface v row) given ∙ row_ties_itself row in
    let so_far = is.ahead.rows row in
    let enough = held row in
    row_there engine.world.rows row (omega (arith, once, so_far, enough))

-- all was taken back
pub logged_end : (iface : ℕ) (origin : Option ℕ) (log : Log) (before now : Routes) (begun engine : EngineState)
    → IsLogged iface origin log before now begun engine → log ≡ []
    → (now ≡ before) × RowsFollow iface before before begun engine
logged_end iface origin log before now begun engine is none =
    let empty : IsLogged iface origin [] before now begun engine =
    subst (λ (l : Log). IsLogged iface origin l before now begun engine) none is in
    let same : now ≡ before = same_routes now before (λ p. empty.others p (λ never. never)) in (
      same,
      record {
        rows = λ row.
            let so_far = empty.ahead.rows row in
            let counts : repeats (session_rows iface now) row ≡ repeats (session_rows iface before) row =
            ap (λ (r : Routes). repeats (session_rows iface r) row) same in
            omega (arith, so_far, counts);
        others = is.ahead.others;
      },
    )

-- rows that follow twice
pub follow-trans : (iface : ℕ) (a b c : Routes) (first second third : EngineState)
    → RowsFollow iface a b first second → RowsFollow iface b c second third → RowsFollow iface a c first third
follow-trans iface a b c first second third one two = record {
  rows = λ row. omega (arith, one.rows row, two.rows row);
  others = sets-trans first second third one.others two.others;
}

pub follow_none : (iface : ℕ) (routes : Routes) (engine : EngineState) → RowsFollow iface routes routes engine engine
follow_none iface routes engine = record {
  rows = λ row. refl;
  others = record { roles = refl; pairs = refl; base = refl };
}

-- the rows of the session are still there
pub held_after : (iface : ℕ) (before after : Routes) (old new : EngineState) → RowsFollow iface before after old new
    → HasRowsOf iface before old → HasRowsOf iface after new
held_after iface before after old new follows held row = omega (arith, follows.rows row, held row)

-- one route was taken out, with its row
pub follow_removed : (iface : ℕ) (p : Block) (origin : Option ℕ) (before after : Routes) (old new : EngineState)
    → routes_at before p ≡ Some origin → ChangesAt p None before after → RemovesRow (row_of iface p origin) old new
    → RowsFollow iface before after old new
follow_removed iface p origin before after old new there change removes = record {
  rows = λ row.
      let taken : repeats old.world.rows row
      ≡ hit (row_of iface p origin) row + repeats new.world.rows row = removes.rows row in
      let changed = count_changed iface p None before after row change in
      let was : repeats (rows_at iface p (routes_at before p)) row ≡ repeats (rows_at iface p (Some origin)) row =
      ap (λ (v : Option (Option ℕ)). repeats (rows_at iface p v) row) there in
      omega (arith, taken, changed, was);
  others = record { roles = sym removes.roles; pairs = sym removes.pairs; base = sym removes.base };
}

-- a row of a route of the session is there
pub route_there : (iface : ℕ) (p : Block) (origin : Option ℕ) (routes : Routes) (engine : EngineState)
    → routes_at routes p ≡ Some origin → HasRowsOf iface routes engine
    → Has engine.world.rows (row_of iface p origin)
route_there iface p origin routes engine there held =
    let row = row_of iface p origin in
    let once : repeats (session_rows iface routes) row ≡ 1 = count_session iface routes row
    ∙ ap (λ (v : Option (Option ℕ)). route_count iface v row) there ∙ row_ties_itself row in
    row_there engine.world.rows row (omega (arith, once, held row))

-- a row that was added is there
pub added_there : {row : Row} {old new : EngineState} → AddsRow row old new → Has new.world.rows row
added_there {row} {old} {new} adds =
    let added : repeats new.world.rows row ≡ hit row row + repeats old.world.rows row = adds.rows row in
    row_there new.world.rows row (omega (arith, added, row_ties_itself row))

-- a route that was not there was taken out
pub follow_absent : (iface : ℕ) (p : Block) (before after : Routes) (engine : EngineState)
    → routes_at before p ≡ None → ChangesAt p None before after → RowsFollow iface before after engine engine
follow_absent iface p before after engine absent change = record {
  rows = λ row.
      let changed = count_changed iface p None before after row change in
      let was : repeats (rows_at iface p (routes_at before p)) row ≡ 0 =
      ap (λ (v : Option (Option ℕ)). repeats (rows_at iface p v) row) absent in
      omega (arith, changed, was);
  others = record { roles = refl; pairs = refl; base = refl };
}

-- rows that were taken away follow routes that were emptied
pub follow_emptied : (iface : ℕ) (before after : Routes) (old new : EngineState)
    → TakesRows (session_rows iface before) old new → ((p : Block) → routes_at after p ≡ None)
    → RowsFollow iface before after old new
follow_emptied iface before after old new takes none = record {
  rows = λ row.
      let left : repeats (session_rows iface after) row ≡ 0 = count_session iface after row
      ∙ ap (λ (v : Option (Option ℕ)). route_count iface v row) (none row.prefix) in
      omega (arith, takes.taken row, left);
  others = takes.others;
}

-- what an UPDATE logged, without the rows of the routes that it replaced
pub follow_logged : (iface : ℕ) (origin : Option ℕ) (log : Log) (before after : Routes) (begun old new : EngineState)
    → IsLogged iface origin log before after begun old → TakesRows (replaced_rows iface log) old new
    → RowsFollow iface before after begun new
follow_logged iface origin log before after begun old new is takes = record {
  rows = λ row. omega (arith, is.ahead.rows row, takes.taken row);
  others = sets-trans begun old new is.ahead.others takes.others;
}

-- the rows of the routes that were replaced are there
pub replaced_there : (iface : ℕ) (origin : Option ℕ) (log : Log) (before after : Routes) (begun engine : EngineState)
    → IsLogged iface origin log before after begun engine → HasRowsOf iface before begun
    → HasRows (replaced_rows iface log) engine
replaced_there iface origin log before after begun engine is held row = omega (arith, is.ahead.rows row, held row)

-- the next row to be taken away is there
pub next_there : (iface : ℕ) (routes : Routes) (left later : List (Block × Option ℕ)) (p : Block) (origin : Option ℕ)
    (begun engine : EngineState) → left ≡ (p, origin) ∷ later → HasRowsOf iface routes begun
    → ((row : Row) → repeats engine.world.rows row + repeats (session_rows iface routes) row
    ≡ repeats begun.world.rows row + repeats (rows_of iface left) row)
    → Has engine.world.rows (row_of iface p origin)
next_there iface routes left later p origin begun engine is held taken =
    let row = row_of iface p origin in
    let ahead : repeats (rows_of iface left) row ≡ hit row row + repeats (rows_of iface later) row =
    ap (λ (es : List (Block × Option ℕ)). repeats (rows_of iface es) row) is in
    row_there engine.world.rows row (omega (arith, taken row, held row, ahead, row_ties_itself row))

-- so is the row of the next route that was replaced
pub replaced_next : (iface : ℕ) (log left later : Log) (p : Block) (origin : Option ℕ) (begun engine : EngineState)
    → left ≡ (p, Some origin) ∷ later → HasRows (replaced_rows iface log) begun
    → ((row : Row) → repeats engine.world.rows row + repeats (replaced_rows iface log) row
    ≡ repeats begun.world.rows row + repeats (replaced_rows iface left) row)
    → Has engine.world.rows (row_of iface p origin)
replaced_next iface log left later p origin begun engine is held taken =
    let row = row_of iface p origin in
    let ahead : repeats (replaced_rows iface left) row ≡ hit row row + repeats (replaced_rows iface later) row =
    ap (λ (es : Log). repeats (replaced_rows iface es) row) is in
    row_there engine.world.rows row (omega (arith, taken row, held row, ahead, row_ties_itself row))

-- the last change of an open log can be taken back
pub open_given : (iface : ℕ) (origin : Option ℕ) (all log : Log) (p : Block) (o : Option (Option ℕ)) (now : Routes)
    (engine : EngineState) → all ≡ log ++ (p, o) ∷ [] → IsOpenLog iface origin all now engine
    → IsSome (routes_at now p)
open_given iface origin all log p o now engine is unfinished =
    let logged_so = subst (λ (l : Log). IsLogged iface origin l unfinished.before now unfinished.begun engine) is
    unfinished.logged_since in
    let given : routes_at now p ≡ Some origin = logged_so.has p
    (subst (λ (ps : List Block). Has ps p) (sym (logged-push log (p, o))) (push_last (logged log) p)) in
    subst IsSome (sym given) refl

pub open_there : (iface : ℕ) (origin : Option ℕ) (all log : Log) (p : Block) (o : Option (Option ℕ)) (now : Routes)
    (engine : EngineState) → all ≡ log ++ (p, o) ∷ [] → IsOpenLog iface origin all now engine
    → Has engine.world.rows (row_of iface p origin)
open_there iface origin all log p o now engine is unfinished =
    logged_there iface origin log p o unfinished.before now unfinished.begun engine
    (subst (λ (l : Log). IsLogged iface origin l unfinished.before now unfinished.begun engine) is
    unfinished.logged_since) unfinished.held

pub logged_popped : (iface : ℕ) (origin : Option ℕ) (all log : Log) (p : Block) (o : Option (Option ℕ))
    (before now new : Routes) (begun engine next : EngineState) → all ≡ log ++ (p, o) ∷ []
    → ChangesAt p o now new → RemovesRow (row_of iface p origin) engine next
    → IsLogged iface origin all before now begun engine → IsLogged iface origin log before new begun next
logged_popped iface origin all log p o before now new begun engine next is change removes logged_so =
    logged_less iface origin log p o before now new begun engine next
    (subst (λ (l : Log). IsLogged iface origin l before now begun engine) is logged_so) change removes

pub open_popped : (iface : ℕ) (origin : Option ℕ) (all log : Log) (p : Block) (o : Option (Option ℕ))
    (now new : Routes) (engine next : EngineState) → all ≡ log ++ (p, o) ∷ []
    → ChangesAt p o now new → RemovesRow (row_of iface p origin) engine next
    → IsOpenLog iface origin all now engine → IsOpenLog iface origin log new next
open_popped iface origin all log p o now new engine next is change removes unfinished = record {
  before = unfinished.before;
  begun = unfinished.begun;
  logged_since = logged_popped iface origin all log p o unfinished.before now new unfinished.begun engine next is change
      removes unfinished.logged_since;
  held = unfinished.held;
}
