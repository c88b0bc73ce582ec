use Rattle.std.proofs.Common.{take, string_bytes}
use Rattle.std.specs.List.{All}
use Rattle.urpf_cli.specs.Words.{IsSessionWord}
use Rattle.urpf_cli.proofs.words.are_session_words.Given as goal

abbrev pub invariant-loop-word : goal.invariant-loop-word
invariant-loop-word l = All (λ w. IsSessionWord (string_bytes w)) (take l.word-index l.words)
