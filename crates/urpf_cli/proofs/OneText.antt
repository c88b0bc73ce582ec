-- Runs that are alike have one text.
use Rattle.std.proofs.Common.{◌≡◌, ◌↔◌, ℕ, ◌+◌, List, [], ◌∷◌, ◌++◌, length, take, Option, Some, refl, ap, sym, subst}
use Rattle.std.proofs.Common.{◌∙◌}
use Rattle.std.specs.List.{AllZip, concat}
use Rattle.urpf_base.specs.Address.{Block}
use Rattle.urpf_base.specs.declared.address.Addr.{Addr}
use Rattle.urpf_base.specs.declared.cells.Cell.{Cell}
use Rattle.urpf_base.specs.declared.cells.CellChange.{CellChange}
use Rattle.urpf_base.specs.declared.kinds.Kind.{Kind}
use Rattle.router_config.specs.Settings.{Settings}
use Rattle.rpf_plain.specs.Cells.{IsCell, IsDifference}
use Rattle.rpf_plain.specs.Modes.{IsVerdict}
use Rattle.origin_pairs.specs.Pairs.{IsPairSet}
use Rattle.origin_pairs.proofs.Sets.{sets_equally_long}
use Rattle.roa_irr.specs.Tables.{Table}
use Rattle.rpf_plain.specs.World.{World}
use Rattle.rpf_plain.proofs.Differing.{one_difference}
use Rattle.rpf_plain.proofs.Verdicts.{one_verdict, same_verdict}
use Rattle.runbook.specs.declared.lines.BookLine.{BookLine}
use Rattle.report_text.specs.Lines.{check_line, done_line, publish_line, summary_line}
use Rattle.session_fsm.specs.declared.items.Effect.{Effect}
use Rattle.control_core.specs.Effects.{HoldsSoMany}
use Rattle.control_core.specs.Worlds.{pairs_after}
use Rattle.control_core.proofs.RunLaws.{one_count}
use Rattle.run_lines.specs.Inputs.{Input, Run, pairs_in, skipped_in}
use Rattle.run_lines.specs.Places.{Place, Reached, items_at, mark_at, next_place, opening, place_after, reached_at}
use Rattle.run_lines.specs.RunText.{AreTotals, CheckGives, GiveAll, Gives, IsHead, IsRunText, LeaveRoutes}
use Rattle.run_lines.specs.RunText.{PublishGives, head_text}
use Rattle.run_lines.specs.declared.run.Totals.{Totals}
use Rattle.run_lines.specs.Steps.{Step, pull, publish, round, check, change, summary, steps_of}
use Rattle.urpf_cli.proofs.SameRuns.{AreAlike, RunsAlike, after_alike, next_alike, pull_alike, same_cells, same_kinds}
use Rattle.urpf_cli.proofs.SameRuns.{same_pairs, same_rows}

-- where the cells are the same, so is what differs
same_difference : (old new v w : World) (changes : List CellChange)
    → ((p : Block) (c : Cell) → IsCell old p c ↔ IsCell v p c)
    → ((p : Block) (c : Cell) → IsCell new p c ↔ IsCell w p c) → IsDifference old new changes → IsDifference v w changes
same_difference old new v w changes before after differ = record {
  ascending = differ.ascending;
  each = λ p c. (
    λ h.
        let told = (differ.each p c).0 h in
        ((after p c).0 told.0, λ was. told.1 ((before p c).1 was)),
    λ h. (differ.each p c).1 ((after p c).1 h.0, λ was. h.1 ((before p c).0 was)),
  );
}

module _ (run other : Run) (alike : RunsAlike run other) where
  one_publication : (place : Place) (a b : List ℕ) → PublishGives run place a → PublishGives other place b → a ≡ b
  one_publication place a b one two =
      let number : ℕ = place.mark.number + 1 in
      let before =
      same_cells run other alike place place.mark one.old_kinds two.old_kinds one.old two.old one.was two.was in
      let after =
      same_cells run other alike place (mark_at place number) one.new_kinds two.new_kinds one.new two.new one.is
      two.is in
      let changes : one.changes ≡ two.changes =
      one_difference two.old two.new one.changes two.changes
      (same_difference one.old one.new two.old two.new one.changes before after one.difference) two.difference in
      one.same
      ∙ ap (λ (cs : List CellChange). publish_line number (length place.edits) (length cs) (items_at place)) changes
      ∙ sym two.same

  one_check : (place : Place) (iface : ℕ) (addr : Addr) (a b : List ℕ) → CheckGives run place iface addr a
      → CheckGives other place iface addr b → a ≡ b
  one_check place iface addr a b one two =
      let kinds : one.kinds ≡ two.kinds =
      same_kinds run other alike place place.mark one.kinds two.kinds one.world two.world one.is two.is in
      let moved : IsVerdict one.kinds two.world.rows two.world.pairs iface (Some addr) one.verdict =
      same_verdict one.kinds one.world.rows two.world.rows
      (same_rows run other alike place place.mark one.kinds two.kinds one.world two.world one.is two.is)
      one.world.pairs two.world.pairs
      (same_pairs run other alike place place.mark one.kinds two.kinds one.world two.world one.is two.is)
      iface (Some addr) one.verdict one.judges in
      let turned : IsVerdict two.kinds two.world.rows two.world.pairs iface (Some addr) one.verdict =
      subst
      (λ (ks : List (ℕ × Kind)). IsVerdict ks two.world.rows two.world.pairs iface (Some addr) one.verdict)
      kinds moved in
      let verdict =
      one_verdict two.kinds two.world.rows two.world.pairs iface (Some addr) one.verdict two.verdict turned
      two.judges in
      one.same ∙ ap (λ v. check_line iface addr v place.mark.number) verdict ∙ sym two.same

-- so many routes are left, and no other number
one_left : (xs ys : List Input) (sessions : List Reached) (m n : ℕ) → AllZip AreAlike xs ys → LeaveRoutes xs sessions m
    → LeaveRoutes ys sessions n → m ≡ n
one_left [] [] sessions m n alike one two = one ∙ sym two
one_left [] (y ∷ ys) sessions m n alike one two = absurd alike
one_left (x ∷ xs) [] sessions m n alike one two = absurd alike
one_left (x ∷ xs) (y ∷ ys) [] m n alike one two = one ∙ sym two
one_left (x ∷ xs) (y ∷ ys) (at ∷ sessions) m n alike one two =
    let own : one.0 ≡ two.0 =
    one_count (take at.taken y.course.effects) one.0 two.0
    (subst (λ (es : List Effect). HoldsSoMany (take at.taken es) one.0) alike.0.effects one.2) two.2 in
    let others : one.1 ≡ two.1 = one_left xs ys sessions one.1 two.1 alike.1 one.3 two.3 in
    one.4 ∙ ap (λ (k : ℕ). k + one.1) own ∙ ap (λ (k : ℕ). two.0 + k) others ∙ sym two.4

module _ (run other : Run) (alike : RunsAlike run other) where
  -- a step has one text
  one_given : (place : Place) (step : Step) (a b : List ℕ) → Gives run place step a → Gives other place step b → a ≡ b
  one_given place (pull session count) a b one two =
      one ∙ pull_alike run other alike session count (reached_at place session) ∙ sym two
  one_given place publish a b one two = one_publication run other alike place a b one two
  one_given place round a b one two = one ∙ sym two
  one_given place (check iface addr) a b one two = one_check run other alike place iface addr a b one two
  one_given place (change edit) a b one two = one ∙ sym two
  one_given place summary a b one two =
      let count : one.count ≡ two.count =
      one_left run.inputs other.inputs place.sessions one.count two.count alike.inputs one.left two.left in
      let pairs : length one.pairs ≡ length two.pairs =
      sets_equally_long (pairs_after place.edits (pairs_in other.table)) one.pairs two.pairs
      (subst (λ (t : Option Table). IsPairSet (pairs_after place.edits (pairs_in t)) one.pairs) alike.table one.set)
      two.set in
      one.same ∙ ap (λ (n : ℕ). summary_line n (length one.pairs)) count ∙ ap (summary_line two.count) pairs
      ∙ sym two.same

  -- so have several, one after the other
  all_given : (place : Place) (steps : List Step) (xs ys : List (List ℕ)) → GiveAll run place steps xs
      → GiveAll other place steps ys → xs ≡ ys
  all_given place [] [] [] one two = refl
  all_given place [] [] (y ∷ ys) one two = absurd two
  all_given place [] (x ∷ xs) ys one two = absurd one
  all_given place (step ∷ steps) [] ys one two = absurd one
  all_given place (step ∷ steps) (x ∷ xs) [] one two = absurd two
  all_given place (step ∷ steps) (x ∷ xs) (y ∷ ys) one two =
      let first : x ≡ y = one_given place step x y one.0 two.0 in
      let more : xs ≡ ys =
      all_given (next_place other.inputs step place) steps xs ys
      (subst (λ (p : Place). GiveAll run p steps xs) (next_alike run other alike step place) one.1) two.1 in
      λ i. first i ∷ more i

  -- a run begins with as much
  one_totals : (a b : Totals) → AreTotals run.config run.table a → AreTotals other.config other.table b → a ≡ b
  one_totals a b one two = λ i. record {
    interfaces = (one.interfaces ∙ ap (λ (c : Settings). length c.interfaces) alike.config ∙ sym two.interfaces) i;
    sessions = (one.sessions ∙ ap (λ (c : Settings). length c.sessions) alike.config ∙ sym two.sessions) i;
    pairs = (one.pairs
        ∙ sets_equally_long (pairs_in other.table) one.set two.set
        (subst (λ (t : Option Table). IsPairSet (pairs_in t) one.set) alike.table one.is) two.is
        ∙ sym two.pairs) i;
    skipped = (one.skipped ∙ ap skipped_in alike.table ∙ sym two.skipped) i;
  }

  -- a run has one head
  one_head : (a b : List ℕ) → IsHead run a → IsHead other b → a ≡ b
  one_head a b one two =
      one.same ∙ ap (λ (c : Settings). head_text one.totals c.sessions) alike.config
      ∙ ap (λ (t : Totals). head_text t other.config.sessions) (one_totals one.totals two.totals one.are two.are)
      ∙ sym two.same

  -- and one text
  pub one_text : (lines : List BookLine) (a b : List ℕ) → IsRunText run lines a → IsRunText other lines b → a ≡ b
  one_text lines a b one two =
      let begin = opening other.config.sessions in
      let steps = steps_of (length other.config.sessions) lines in
      let given : GiveAll run begin steps one.texts =
      subst (λ (c : Settings). GiveAll run (opening c.sessions) (steps_of (length c.sessions) lines) one.texts)
      alike.config one.given in
      let texts : one.texts ≡ two.texts = all_given begin steps one.texts two.texts given two.given in
      one.parts
      ∙ ap
      (λ (c : Settings). one.head ++ (concat one.texts
      ++ done_line (place_after run.inputs (steps_of (length c.sessions) lines) (opening c.sessions)).mark.number 0))
      alike.config
      ∙ ap
      (λ (ts : List (List ℕ)). one.head
      ++ (concat ts ++ done_line (place_after run.inputs steps begin).mark.number 0))
      texts
      ∙ ap (λ (p : Place). one.head ++ (concat two.texts ++ done_line p.mark.number 0))
      (after_alike run other alike steps begin)
      ∙ ap
      (λ (h : List ℕ). h ++ (concat two.texts ++ done_line (place_after other.inputs steps begin).mark.number 0))
      (one_head one.head two.head one.is_head two.is_head)
      ∙ sym two.parts
