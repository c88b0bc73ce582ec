use Rattle.std.proofs.Common.{map, string_bytes}
use Rattle.urpf_cli.specs.Words.{request_of}
use Rattle.urpf_cli.proofs.Requests.{check_asked, offline_alone, offline_asked}
use Rattle.urpf_cli.proofs.words.read_command.Goals as goal

pub returns-in-Some-clause-found : goal.returns-in-Some-clause-found
returns-in-Some-clause-found c =
    let found = c.in-Some.ensures.found in
    offline_asked (map string_bytes c.args.words.now) (request_of c.in-Some.command) found.0 found.1

pub returns-in-Some-clause-only : goal.returns-in-Some-clause-only
returns-in-Some-clause-only c =
    offline_alone (map string_bytes c.args.words.now) (request_of c.in-Some.command) c.in-Some.ensures.found.0
    c.in-Some.ensures.only

pub returns-clause-found : goal.returns-clause-found
returns-clause-found c =
    check_asked (map string_bytes c.args.words.now) c.check_words.result c.check_words.ensures.found
