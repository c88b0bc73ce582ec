use Rattle.std.proofs.Common.{◌≡◌, Err, ◌+◌, ◌∙◌, ap, length, take, arith, length-take, sym}
use Rattle.urpf_cli.proofs.Streams.{held_now, read_to_end, stopped_by_fault, stopped_by, progress_more, taken_now}
use Rattle.urpf_cli.proofs.Streams.{pushed_items}
use Rattle.urpf_cli.specs.Session.{FailsBy, IsUnsupported}
use Rattle.urpf_cli.specs.declared.session.SessionFault.TheVariants as SessionFault
use Rattle.urpf_cli.proofs.session.read_session.Goals as goal

pub returns-in-Partial-clause-read : goal.returns-in-Partial-clause-read
returns-in-Partial-clause-read c =
    let left = c.loop-held.left.now in
    let count = c.push-count.result in
    let now : c.push-count.new.self
    ≡ take count left =
    held_now c.loop-held.framer (take count left) c.push-count.new.self c.loop-held.invariant.empty
    c.push-count.ensures.held in
    read_to_end c.args.stream.now left count c.from-rest.result c.loop-held.items.items c.loop-held.invariant.progress
    c.push-count.ensures.took (λ less. rw now at (c.push-count.ensures.stops less))
    (rw now at c.in-Partial.ensures.state.0)
    (c.from-rest.ensures ∙ c.in-Partial.ensures.state.1 ∙ ap length now)

pub returns-in-Fault-clause-header : goal.returns-in-Fault-clause-header
returns-in-Fault-clause-header c = λ sub place is.
    let left = c.loop-held.left.now in
    let count = c.push-count.result in
    let now : c.push-count.new.self
    ≡ take count left =
    held_now c.loop-held.framer (take count left) c.push-count.new.self c.loop-held.invariant.empty
    c.push-count.ensures.held in
    let same : c.in-Fault.sub ≡ sub = cc in
    let here : c.len.result + 1 ≡ place = cc in
    stopped_by_fault c.args.stream.now left count sub place c.loop-held.items.items c.loop-held.invariant.progress
    (omega (arith, here, c.len.ensures, c.loop-held.items.ok.0)) (rw (now, same) at c.in-Fault.ensures.state)

pub returns-in-Err-clause-update : goal.returns-in-Err-clause-update
returns-in-Err-clause-update c = λ sub place is.
    let left = c.loop-held.left.now in
    let count = c.push-count.result in
    let now : c.push-count.new.self
    ≡ take count left =
    held_now c.loop-held.framer (take count left) c.push-count.new.self c.loop-held.invariant.empty
    c.push-count.ensures.held in
    let state = c.in-Whole.ensures.state in
    let taken =
    taken_now left c.push-count.new.self c.split_at.result.0.now c.split_at-in-Whole.result.1.now count
    c.in-Whole.kind now c.split_at.ensures.front state.0 state.1 c.split_at-in-Whole.ensures.back in
    let fault : c.in-Err.fault ≡ SessionFault.Update sub place = cc in
    let told = c.in-Err.ensures.update sub place (ap (λ f. Err f) fault) in
    stopped_by c.args.stream.now left count place c.loop-held.items.items c.in-Whole.kind
    c.split_at-in-Whole.result.1.now (λ kind body. FailsBy kind body sub) c.loop-held.invariant.progress
    (omega (arith, told.0, c.len-in-Whole.ensures, c.loop-held.items.ok.0)) taken told.1

pub returns-in-Err-clause-unsupported : goal.returns-in-Err-clause-unsupported
returns-in-Err-clause-unsupported c = λ place is.
    let left = c.loop-held.left.now in
    let count = c.push-count.result in
    let now : c.push-count.new.self
    ≡ take count left =
    held_now c.loop-held.framer (take count left) c.push-count.new.self c.loop-held.invariant.empty
    c.push-count.ensures.held in
    let state = c.in-Whole.ensures.state in
    let taken =
    taken_now left c.push-count.new.self c.split_at.result.0.now c.split_at-in-Whole.result.1.now count
    c.in-Whole.kind now c.split_at.ensures.front state.0 state.1 c.split_at-in-Whole.ensures.back in
    let fault : c.in-Err.fault ≡ SessionFault.Unsupported place = cc in
    let told = c.in-Err.ensures.unsupported place (ap (λ f. Err f) fault) in
    stopped_by c.args.stream.now left count place c.loop-held.items.items c.in-Whole.kind
    c.split_at-in-Whole.result.1.now (λ kind body. IsUnsupported kind) c.loop-held.invariant.progress
    (omega (arith, told.0, c.len-in-Whole.ensures, c.loop-held.items.ok.0)) taken told.1

pub returns-in-Err-clause-memory : goal.returns-in-Err-clause-memory
returns-in-Err-clause-memory c = λ is.
    let left = c.loop-held.left.now in
    let count = c.push-count.result in
    let now : c.push-count.new.self
    ≡ take count left =
    held_now c.loop-held.framer (take count left) c.push-count.new.self c.loop-held.invariant.empty
    c.push-count.ensures.held in
    let state = c.in-Whole.ensures.state in
    omega (arith, c.loop-held.invariant.room, state.0.header, ap length now, length-take count left)

pub loop-held-preserved : goal.loop-held-preserved
loop-held-preserved c =
    let left = c.loop-held.left.now in
    let count = c.push-count.result in
    let now : c.push-count.new.self
    ≡ take count left =
    held_now c.loop-held.framer (take count left) c.push-count.new.self c.loop-held.invariant.empty
    c.push-count.ensures.held in
    let state = c.in-Whole.ensures.state in
    let taken =
    taken_now left c.push-count.new.self c.split_at.result.0.now c.split_at-in-Whole.result.1.now count
    c.in-Whole.kind now c.split_at.ensures.front state.0 state.1 c.split_at-in-Whole.ensures.back in
    record {
      empty = c.next.ensures;
      progress =
          rw (
            c.split_at.ensures.back,
            pushed_items c.loop-held.items.items c.in-Ok.item c.push.new.self.items c.push.result c.push.ensures.items
                (sym c.if-is_err.ensures.value),
          )
          (progress_more c.args.stream.now left count c.loop-held.items.items c.in-Whole.kind
          c.split_at-in-Whole.result.1.now c.in-Ok.item c.loop-held.invariant.progress taken c.in-Ok.ensures.found);
      room = omega (
        arith,
        c.loop-held.invariant.room,
        c.split_at.ensures.back_len,
        taken.whole.header,
        length-take count left,
        c.push.ensures.upper_bound,
      );
    }
