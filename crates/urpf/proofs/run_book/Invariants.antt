use Rattle.std.proofs.Common.{◌≡◌, vec_len}
use Rattle.urpf.proofs.run_book.Given as goal

abbrev pub invariant-loop-word : goal.invariant-loop-word
invariant-loop-word l = vec_len l.feeds ≡ l.word-index
