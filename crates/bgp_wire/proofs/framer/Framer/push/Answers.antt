use Rattle.std.proofs.Common.{◌-◌, ◌++◌, min, take, drop, arith, ap, sym, ◌∙◌, length}
use Rattle.std.proofs.lemmas.List.{take_rest}
use Rattle.bgp_wire.specs.Header.{header_fault, length_field}
use Rattle.bgp_wire.proofs.Filling.{IsPushed, pushed-held, pushed-stops, pushed-first, none_from_test}
use Rattle.bgp_wire.proofs.framer.Framer.push.Goals as goal

pushed : (c : goal.After-fill)
    → IsPushed c.args.self.now c.args.piece.now c.fill-head.result c.fill-head.new.self c.fill.result c.fill.new.self
pushed c =
    let mid = c.fill-head.new.self in
    let behind = take (length c.args.piece.now - c.fill-head.result) (drop c.fill-head.result c.args.piece.now) in
    let rest = take_rest c.args.piece.now c.fill-head.result in
    let same = c.held-held.ensures.held in
    let long = ap length same in
    record {
      head_is = c.fill-head.ensures.count;
      mid_is = c.fill-head.ensures.held;
      header = omega arith;
      good = ap header_fault (sym same) ∙ sym c.fault_of.ensures
          ∙ none_from_test _ (sym c.is_some.ensures ∙ c.if-is_some.false);
      count_is =
          c.fill.ensures.count
          ∙ ap (λ n. min (n - length mid) (length behind)) (c.length_of-count.ensures ∙ ap length_field same)
          ∙ ap (λ xs. min (length_field mid - length mid) (length xs)) rest;
      new_is = c.fill.ensures.held ∙ ap (λ xs. mid ++ take c.fill.result xs) rest;
    }

pub returns-clause-held : goal.returns-clause-held
returns-clause-held c = pushed-held (pushed c)

pub returns-clause-stops : goal.returns-clause-stops
returns-clause-stops c = pushed-stops (pushed c)

pub returns-clause-first : goal.returns-clause-first
returns-clause-first c = pushed-first (pushed c)
