use Rattle.std.proofs.Common.{length, arith}
use Rattle.adj_rib.specs.Routes.{prefixes_of}
use Rattle.adj_rib.proofs.Routes.{is_distinct}
use Rattle.urpf_cli.proofs.CheckLines.{has_left, line_of}
use Rattle.urpf_cli.proofs.Streams.{read_some, say-length}
use Rattle.urpf_cli.proofs.check.judge.Goals as goal

pub returns-clause-ok : goal.returns-clause-ok
returns-clause-ok c =
    let session = c.in-Ok.session in
    let leaves = c.in-Ok.ensures.read in
    let routes = c.take_all.new.rib in
    record {
      said = session.items.items;
      rest = leaves.octets;
      read = leaves.read;
      prefixes = prefixes_of routes;
      distinct = is_distinct routes;
      left = has_left session.items.items routes (rw c.deref.ensures.value at c.in_default.ensures.ok);
      passes = c.any_covers-passes.result;
      verdict = c.any_covers-passes.ensures;
      text = line_of c.args.source.now c.any_covers-passes.result c.len-messages.result (length leaves.read.messages)
          c.len-prefixes.result (length (prefixes_of routes)) session.rest (length leaves.octets) c.put_one.new.to
          (omega (
            arith,
            c.len-messages.ensures,
            session.items.ok.0,
            say-length leaves.read.messages session.items.items leaves.read.say,
          )) c.len-prefixes.ensures.count
          leaves.left c.put_one.ensures;
    }

pub returns-in-Err-take_all-clause-memory : goal.returns-in-Err-take_all-clause-memory
returns-in-Err-take_all-clause-memory c = λ is.
    let leaves = c.in-Ok.ensures.read in
    read_some c.args.stream.now c.in-Ok.session.items.items leaves.octets leaves.read
    (rw c.deref.ensures.value at c.in-Err-take_all.ensures.memory)
