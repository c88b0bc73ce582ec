-- The lines of a book name what is configured.
use Rattle.std.proofs.lemmas.Bool.Decides.{nat_tests}
use Rattle.std.proofs.Common.{◌≡◌, ℕ, ◌<◌, Bool, true, false, List, [], ◌∷◌, length, Option, Some, None, Result, Ok}
use Rattle.std.proofs.Common.{Err, refl, sym, ap, subst, ◌∙◌, inl, inr, arith, if◌then◌else◌}
use Rattle.std.specs.Prelude.{◌==◌, IsSome, cond, find, nat_lt, option_map}
use Rattle.std.specs.List.{AllZip}
use Rattle.urpf_base.specs.Address.{Block}
use Rattle.urpf_base.specs.declared.kinds.Kind.{Kind}
use Rattle.router_config.specs.Edits.{IsForConfigured}
use Rattle.router_config.specs.Kinds.{iface_in, kind_in}
use Rattle.router_config.specs.Settings.{Settings}
use Rattle.router_config.specs.declared.edits.Edit.TheVariants as edit
use Rattle.runbook.specs.declared.lines.BookLine.{BookLine}
use Rattle.runbook.specs.declared.lines.BookLine.TheVariants as line
use Rattle.runbook.specs.declared.lines.BookKind.{BookKind}
use Rattle.runbook.specs.declared.lines.BookKind.TheVariants.{Rounds, Session}
use Rattle.runbook.specs.declared.saying.Act.{Act}
use Rattle.runbook.specs.declared.saying.Act.TheVariants as act
use Rattle.runbook.specs.declared.saying.Alone.{Alone}
use Rattle.runbook.specs.declared.saying.Alone.TheVariants as alone
use Rattle.runbook.specs.declared.saying.PairAct.{PairAct}
use Rattle.runbook.specs.declared.saying.PairAct.TheVariants as pair
use Rattle.runbook.specs.declared.saying.Said.{Said}
use Rattle.runbook.specs.declared.saying.Said.TheVariants as said
use Rattle.runbook.specs.Book.{AreConfiguredFor, IsBook, IsConfiguredFor, IsLine}
use Rattle.runbook.specs.Lines.{Line, numbered}
use Rattle.runbook.specs.Says.{judged, judged_alone, judged_at, judged_pull, pair_edit}

-- an interface that is found has a kind
has_kind : (rows : List (ℕ × Kind)) (n m : ℕ) → iface_in rows n ≡ Some m → IsSome (kind_in rows m)
has_kind [] n m is = cc
has_kind (r ∷ rows) n m is =
    by_test (r.0 == n) refl (r.0 == m) refl (λ later. has_kind rows n m later)
  where
    ids : Bool → Option ℕ
    ids b = option_map (λ (row : ℕ × Kind). row.0) (cond b (Some r) (find (λ (row : ℕ × Kind). row.0 == n) rows))

    kinds : Bool → Option Kind
    kinds b = option_map (λ (row : ℕ × Kind). row.1) (cond b (Some r) (find (λ (row : ℕ × Kind). row.0 == m) rows))

    by_test : (b : Bool) → (r.0 == n) ≡ b → (c : Bool) → (r.0 == m) ≡ c
        → (iface_in rows n ≡ Some m → IsSome (kind_in rows m)) → IsSome (kinds (r.0 == m))
    by_test b e true f later = subst (λ (d : Bool). IsSome (kinds d)) (sym f) refl
    by_test true e false f later =
        let found : Some r.0 ≡ Some m = sym (ap ids e) ∙ is in
        let same : r.0 ≡ m = cc in
        let clash : true ≡ false = sym (grind (arith, nat_tests, same)) ∙ f in cc
    by_test false e false f later =
        subst (λ (d : Bool). IsSome (kinds d)) (sym f) (later (sym (ap ids e) ∙ is))

pull_named : (config : Settings) (session count : Option ℕ) (one : BookLine)
    → judged_pull (length config.sessions) session count ≡ Ok one → IsConfiguredFor config one
pull_named config None count one is = let same : line.Pull None count ≡ one = cc in
    subst (IsConfiguredFor config) same tt
pull_named config (Some session) count one is = by_test (nat_lt session (length config.sessions)) refl
  where
    outcome : Bool → Result BookLine BookKind
    outcome b = if b then Ok (line.Pull (Some session) count) else Err Session

    by_test : (b : Bool) → nat_lt session (length config.sessions) ≡ b → IsConfiguredFor config one
    by_test true e =
        let found : outcome true ≡ Ok one = sym (ap outcome e) ∙ is in
        let same : line.Pull (Some session) count ≡ one = cc in
        let below : session < length config.sessions = grind (arith, nat_tests, e) in
        subst (IsConfiguredFor config) same below
    by_test false e = let found : outcome false ≡ Ok one = sym (ap outcome e) ∙ is in cc

alone_named : (config : Settings) (rounds : ℕ) (word : Alone) (one : BookLine) → judged_alone rounds word ≡ Ok one
    → IsConfiguredFor config one
alone_named config rounds alone.Publish one is = let same : line.Publish ≡ one = cc in
    subst (IsConfiguredFor config) same tt
alone_named config rounds alone.Round one is = by_test (nat_lt rounds 65535) refl
  where
    outcome : Bool → Result BookLine BookKind
    outcome b = if b then Ok line.Round else Err Rounds

    by_test : (b : Bool) → nat_lt rounds 65535 ≡ b → IsConfiguredFor config one
    by_test true e =
        let found : outcome true ≡ Ok one = sym (ap outcome e) ∙ is in
        let same : line.Round ≡ one = cc in
        subst (IsConfiguredFor config) same tt
    by_test false e = let found : outcome false ≡ Ok one = sym (ap outcome e) ∙ is in cc
alone_named config rounds alone.Summary one is = let same : line.Summary ≡ one = cc in
    subst (IsConfiguredFor config) same tt

at_named : (config : Settings) (iface : ℕ) (found : Option ℕ) (what : Act) (one : BookLine)
    → iface_in config.interfaces iface ≡ found → judged_at found what ≡ Ok one → IsConfiguredFor config one
at_named config iface None what one found is = cc
at_named config iface (Some m) (act.Check addr) one found is = let same : line.Check m addr ≡ one = cc in
    subst (IsConfiguredFor config) same (has_kind config.interfaces iface m found)
at_named config iface (Some m) (act.Role role) one found is =
    let same : line.Change (edit.Role m role) ≡ one = cc in
    subst (IsConfiguredFor config) same (has_kind config.interfaces iface m found)
at_named config iface (Some m) (act.Mode mode) one found is =
    let same : line.Change (edit.Mode m mode) ≡ one = cc in
    subst (IsConfiguredFor config) same (has_kind config.interfaces iface m found)

pair_named : (config : Settings) (what : PairAct) (prefix : Block) (asn : ℕ)
    → IsForConfigured config.interfaces (pair_edit what prefix asn)
pair_named config pair.Add prefix asn = tt
pair_named config pair.Del prefix asn = tt

said_named : (config : Settings) (rounds : ℕ) (s : Said) (one : BookLine) → judged config rounds s ≡ Ok one
    → IsConfiguredFor config one
said_named config rounds (said.Pull session count) one is = pull_named config session count one is
said_named config rounds (said.Alone word) one is = alone_named config rounds word one is
said_named config rounds (said.At iface what) one is =
    at_named config iface (iface_in config.interfaces iface) what one refl is
said_named config rounds (said.Pair what prefix asn) one is =
    let same : line.Change (pair_edit what prefix asn) ≡ one = cc in
    subst (IsConfiguredFor config) same (pair_named config what prefix asn)

line_named : (config : Settings) (l : Line) (row : ℕ × BookLine) → IsLine config l row → IsConfiguredFor config row.1
line_named config l row is = elim is.1 [
  | inl found ↦ said_named config l.rounds found.0 row.1 found.2
  | inr none ↦ let clash : Ok row.1 ≡ Err _ = none.1 in cc
]

all_named : (config : Settings) (lines : List Line) (rows : List (ℕ × BookLine)) → AllZip (IsLine config) lines rows
    → AreConfiguredFor config rows
all_named config [] [] all = tt
all_named config [] (r ∷ rows) all = absurd all
all_named config (l ∷ lines) [] all = absurd all
all_named config (l ∷ lines) (r ∷ rows) all = (line_named config l r all.0, all_named config lines rows all.1)

pub book_named : (config : Settings) (text : List ℕ) (rows : List (ℕ × BookLine)) → IsBook config text rows
    → AreConfiguredFor config rows
book_named config text rows book = all_named config (numbered text) rows book
