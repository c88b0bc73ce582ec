use Rattle.std.proofs.Common.{drop, [], ◌∷◌}
use Rattle.std.proofs.lemmas.Bool.Decides.{Decides-eqb}
use Rattle.std.proofs.lemmas.Slice.Eq.{starts_is}
use Rattle.urpf_cli.proofs.SessionWords.{mrt_decides}
use Rattle.urpf_cli.proofs.words.is_session_word.Goals as goal

pub returns-then-starts_with-2 : goal.returns-then-starts_with-2
returns-then-starts_with-2 c =
    let word = c.args.word.now in
    let starts = starts_is Decides-eqb word (109 ∷ 114 ∷ 116 ∷ 58 ∷ []) c.starts_with-2.result
    (rw c.as_bytes-octets.ensures.value at c.starts_with-2.ensures.value) in
    rw (← c.is_some-then-starts_with-2.ensures) at
    (mrt_decides word (drop 4 word) (starts.0 c.if-starts_with-2.true) c.read_mrt_word.result
    (rw c.as_bytes-octets.ensures.value at c.read_mrt_word.ensures.found)
    (rw c.as_bytes-octets.ensures.value at c.read_mrt_word.ensures.only))
