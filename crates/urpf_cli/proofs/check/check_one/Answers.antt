use Rattle.std.proofs.Common.{Err, ap, map, inl, refl, arith}
use Rattle.std.specs.Prelude.{string_bytes}
use Rattle.urpf_cli.specs.CheckOne.{judged, misused}
use Rattle.urpf_cli.proofs.CheckEnds.{end_found, end_only, fault_known, fault_only, front_written, line_judged}
use Rattle.urpf_cli.proofs.CheckEnds.{line_written, memory_told, misuse_told, some_stream}
use Rattle.urpf_cli.proofs.check.check_one.Goals as goal

pub returns-in_default-clause-usage : goal.returns-in_default-clause-usage
returns-in_default-clause-usage g c =
    (λ _ source fit. let only = c.check_source.ensures.only source fit in cc, λ _. refl)

pub returns-in_default-clause-found : goal.returns-in_default-clause-found
returns-in_default-clause-found g c = λ end is never.
    end_found (map string_bytes c.args.words.now) (g.S.Source.left c.args.session.now) misused end
    (misuse_told (map string_bytes c.args.words.now) (g.S.Source.left c.args.session.now)
    (λ source fit. let only = c.check_source.ensures.only source fit in cc)) is

pub returns-in_default-clause-only : goal.returns-in_default-clause-only
returns-in_default-clause-only g c = λ end told read written.
    inl (end_only (map string_bytes c.args.words.now) (g.S.Source.left c.args.session.now) misused end
    (misuse_told (map string_bytes c.args.words.now) (g.S.Source.left c.args.session.now)
    (λ source fit. let only = c.check_source.ensures.only source fit in cc)) told)

pub returns-in-Err-clause-known : goal.returns-in-Err-clause-known
returns-in-Err-clause-known g c = fault_known c.in-Ok.stream.items c.in-Err.fault c.status_of.result c.status_of.ensures

pub returns-in-Err-clause-only : goal.returns-in-Err-clause-only
returns-in-Err-clause-only g c = λ end told read written.
    fault_only (map string_bytes c.args.words.now) (g.S.Source.left c.args.session.now) c.in-Ok.stream.items
    c.in-Some.source c.in-Err.fault end c.status_of.result c.status_of.ensures c.in-Ok.ensures.whole
    c.in-Some.ensures.found
    (omega (arith, c.in-Ok.stream.ok.0, c.in-Ok.ensures.within))
    (rw c.deref.ensures.value at c.in-Err.ensures.err) told

pub returns-in-Err-clause-memory : goal.returns-in-Err-clause-memory
returns-in-Err-clause-memory g c = λ is.
    some_stream (g.S.Source.left c.args.session.now) c.in-Ok.stream.items c.in-Ok.ensures.whole
    (rw c.deref.ensures.value at (c.in-Err.ensures.memory
    (ap (λ f. Err f) (memory_told c.in-Err.fault c.status_of.result c.status_of.ensures is))))

pub returns-in-Ok-write_all-clause-found : goal.returns-in-Ok-write_all-clause-found
returns-in-Ok-write_all-clause-found g c = λ end is never.
    end_found (map string_bytes c.args.words.now) (g.S.Source.left c.args.session.now) judged end
    (line_judged (map string_bytes c.args.words.now) (g.S.Source.left c.args.session.now) c.in-Ok.stream.items
    c.in-Some.source c.judge.new.line c.in-Ok.ensures.whole
    c.in-Some.ensures.found
    (omega (arith, c.in-Ok.stream.ok.0, c.in-Ok.ensures.within))
    (rw c.deref.ensures.value at c.in-Ok-judge.ensures.ok)) is

pub returns-in-Ok-write_all-clause-only : goal.returns-in-Ok-write_all-clause-only
returns-in-Ok-write_all-clause-only g c = λ end told read written.
    inl (end_only (map string_bytes c.args.words.now) (g.S.Source.left c.args.session.now) judged end
    (line_judged (map string_bytes c.args.words.now) (g.S.Source.left c.args.session.now) c.in-Ok.stream.items
    c.in-Some.source c.judge.new.line c.in-Ok.ensures.whole
    c.in-Some.ensures.found
    (omega (arith, c.in-Ok.stream.ok.0, c.in-Ok.ensures.within))
    (rw c.deref.ensures.value at c.in-Ok-judge.ensures.ok)) told)

pub returns-in-Ok-write_all-clause-done : goal.returns-in-Ok-write_all-clause-done
returns-in-Ok-write_all-clause-done g c = λ done.
    line_written (map string_bytes c.args.words.now) (g.S.Source.left c.args.session.now) c.in-Ok.stream.items
    c.in-Some.source c.judge.new.line (g.K.Sink.held c.args.out.now) (g.K.Sink.held c.write_all.new.sink)
    c.in-Ok.ensures.whole c.in-Some.ensures.found
    (rw c.deref.ensures.value at c.in-Ok-judge.ensures.ok)
    (rw c.bytes.ensures at c.in-Ok-write_all.ensures.ok)

pub returns-clause-cut_short : goal.returns-clause-cut_short
returns-clause-cut_short g c = λ fault.
    let cut = rw c.bytes.ensures at c.in-Err-write_all.ensures.err in
    front_written (map string_bytes c.args.words.now) (g.S.Source.left c.args.session.now) c.in-Ok.stream.items
    c.in-Some.source c.judge.new.line cut.0 (g.K.Sink.held c.args.out.now)
    (g.K.Sink.held c.write_all.new.sink) c.in-Ok.ensures.whole
    c.in-Some.ensures.found
    (rw c.deref.ensures.value at c.in-Ok-judge.ensures.ok) cut.2
