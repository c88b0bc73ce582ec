-- A configuration, a runbook, a table of pairs and the events of the sessions have one output.
use Rattle.std.proofs.Common.{◌≡◌, ℕ, List, [], ◌∷◌, length, map, Option, None, refl, subst, sym, ◌∙◌, arith}
use Rattle.std.specs.List.{AllZip}
use Rattle.urpf_base.specs.declared.sessions.SessionConfig.{SessionConfig}
use Rattle.feed_io.specs.Events.{Event}
use Rattle.roa_irr.specs.Tables.{Table}
use Rattle.router_config.specs.Settings.{IsConfig, Settings}
use Rattle.runbook.specs.declared.lines.BookLine.{BookLine}
use Rattle.runbook.specs.Book.{IsBook}
use Rattle.runbook.proofs.BookLaws.{one_book}
use Rattle.control_core.specs.Items.{Item, SameButCuts, connection_at_end}
use Rattle.control_core.specs.Runs.{Runs}
use Rattle.control_core.proofs.ItemLaws.{are_items, items_after, items_by_cuts, left_once, only_items}
use Rattle.control_core.proofs.ItemLaws.{rest_by_cuts, some_rest}
use Rattle.control_core.proofs.RunLaws.{one_run}
use Rattle.control_core.proofs.SomeRun.{some_run}
use Rattle.run_lines.specs.Inputs.{Input, IsInput, Run}
use Rattle.urpf_cli.specs.Openings.{Texts}
use Rattle.urpf_cli.specs.Outputs.{HaveSameItems, IsOutput, Reads}
use Rattle.urpf_cli.specs.PairTables.{HasTable}
use Rattle.run_lines.specs.RunText.{IsRunText}
use Rattle.run_lines.specs.Steps.{lines_in}
use Rattle.urpf_cli.specs.Words.{PairsFrom}
use Rattle.urpf_cli.proofs.OneText.{one_text}
use Rattle.urpf_cli.proofs.OpeningLaws.{one_config}
use Rattle.urpf_cli.proofs.SameRuns.{AreAlike, RunsAlike}
use Rattle.run_lines.proofs.SomeText.{some_text}
use Rattle.urpf_cli.proofs.TableLaws.{one_has}

-- a session that is configured so has an input over these events
some_input : (config : SessionConfig) (events : List Event)
    → (input : Input) × IsInput config input × (input.course.events ≡ events)
some_input config events =
    let items = items_after None events in
    let (effects, last, runs) = some_run config items in
    let (rest, left) = some_rest (connection_at_end None events) in (
      record { course = record { config = config; events = events; effects = effects }; rest = rest },
      record {
        configured = refl;
        items = items;
        are = are_items None events;
        last = last;
        runs = runs;
        left = left;
      },
      refl,
    )

-- so has each of some sessions
pub some_inputs : (configs : List SessionConfig) (events : List (List Event)) → length events ≡ length configs
    → (inputs : List Input) × AllZip IsInput configs inputs × (map (λ (i : Input). i.course.events) inputs ≡ events)
some_inputs [] [] same = ([], tt, refl)
some_inputs [] (first ∷ events) same = absurd (omega (arith, same))
some_inputs (config ∷ configs) [] same = absurd (omega (arith, same))
some_inputs (config ∷ configs) (first ∷ events) same =
    let (input, is, told) = some_input config first in
    let (inputs, are, all) = some_inputs configs events (omega (arith, same)) in
    (input ∷ inputs, (is, are), λ i. told i ∷ all i)

pub some_output : (from : PairsFrom) (texts : Texts) (settings : Settings) (rows : List (ℕ × BookLine))
    (table : Option Table) (events : List (List Event)) → IsConfig texts.config settings
    → IsBook settings texts.book rows → HasTable from texts.pairs table → length events ≡ length settings.sessions
    → (output : List ℕ) × IsOutput from texts events output
some_output from texts settings rows table events configures lists has same =
    let (inputs, are, told) = some_inputs settings.sessions events same in
    let run : Run = record { config = settings; table = table; inputs = inputs } in
    let (text, is) = some_text run (lines_in rows) in (
      text,
      record {
        settings = settings;
        configures = configures;
        rows = rows;
        lists = lists;
        table = table;
        has = has;
        run = run;
        reads = record { configured = refl; tabled = refl; told = told; is = are };
        is = is;
      },
    )

-- events that differ in nothing but cuts have the same items and the same rest
pub same_by_cuts : (events others : List Event) → SameButCuts events others → HaveSameItems events others
same_by_cuts events others cuts =
    let items = items_after None events in
    let are = are_items None events in
    let (rest, left) = some_rest (connection_at_end None events) in (
      items,
      rest,
      are,
      items_by_cuts events others items cuts are,
      left,
      rest_by_cuts events others rest cuts left,
    )

-- inputs over events of the same items and the same rest are alike
input_alike : (config : SessionConfig) (x y : Input) → IsInput config x → IsInput config y
    → HaveSameItems x.course.events y.course.events → AreAlike x y
input_alike config x y p q same =
    let items : p.items ≡ q.items =
    only_items None x.course.events p.items p.are ∙ sym (only_items None x.course.events same.0 same.2)
    ∙ only_items None y.course.events same.0 same.3 ∙ sym (only_items None y.course.events q.items q.are) in
    record {
      config = p.configured ∙ sym q.configured;
      effects = (one_run config q.items x.course.effects y.course.effects p.last q.last
          (subst (λ (is : List Item). Runs config is x.course.effects p.last) items p.runs) q.runs).0;
      rest = left_once (connection_at_end None x.course.events) x.rest same.1 p.left same.4
          ∙ left_once (connection_at_end None y.course.events) same.1 y.rest same.5 q.left;
    }

inputs_alike : (configs : List SessionConfig) (xs ys : List Input) → AllZip IsInput configs xs
    → AllZip IsInput configs ys
    → AllZip HaveSameItems (map (λ (i : Input). i.course.events) xs) (map (λ (i : Input). i.course.events) ys)
    → AllZip AreAlike xs ys
inputs_alike [] [] [] p q same = tt
inputs_alike [] [] (y ∷ ys) p q same = absurd q
inputs_alike [] (x ∷ xs) ys p q same = absurd p
inputs_alike (config ∷ configs) [] ys p q same = absurd p
inputs_alike (config ∷ configs) (x ∷ xs) [] p q same = absurd q
inputs_alike (config ∷ configs) (x ∷ xs) (y ∷ ys) p q same =
    (input_alike config x y p.0 q.0 same.0, inputs_alike configs xs ys p.1 q.1 same.1)

-- runs of one configuration and one table over events of the same items and the same rests are alike
runs_alike : (run other : Run) (settings : Settings) (table : Option Table) (events others : List (List Event))
    → AllZip HaveSameItems events others → Reads run settings table events → Reads other settings table others
    → RunsAlike run other
runs_alike run other settings table events others same one two =
    let config : run.config ≡ other.config = one.configured ∙ sym two.configured in
    record {
      config = config;
      table = one.tabled ∙ sym two.tabled;
      inputs = inputs_alike other.config.sessions run.inputs other.inputs
          (subst (λ (c : Settings). AllZip IsInput c.sessions run.inputs) config one.is) two.is
          (rw (one.told, two.told) same);
    }

pub one_output : (from : PairsFrom) (texts : Texts) (events others : List (List Event)) (output other : List ℕ)
    → AllZip HaveSameItems events others → IsOutput from texts events output → IsOutput from texts others other
    → output ≡ other
one_output from texts events others output other same a b =
    let settings : a.settings ≡ b.settings = one_config texts.config a.settings b.settings a.configures b.configures in
    let rows : a.rows ≡ b.rows =
    one_book b.settings texts.book a.rows b.rows (subst (λ (c : Settings). IsBook c texts.book a.rows) settings a.lists)
    b.lists in
    let table : a.table ≡ b.table = one_has from texts.pairs a.table b.table a.has b.has in
    let reads : Reads a.run b.settings b.table events =
    subst (λ (t : Option Table). Reads a.run b.settings t events) table
    (subst (λ (c : Settings). Reads a.run c a.table events) settings a.reads) in
    let alike = runs_alike a.run b.run b.settings b.table events others same reads b.reads in
    one_text a.run b.run alike (lines_in b.rows) output other
    (subst (λ (rs : List (ℕ × BookLine)). IsRunText a.run (lines_in rs) output) rows a.is) b.is
