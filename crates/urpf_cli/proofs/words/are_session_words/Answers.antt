use Rattle.std.proofs.Common.{string_bytes, refl, subst, arith}
use Rattle.std.proofs.lemmas.List.Elements.{All-more}
use Rattle.urpf_cli.specs.Words.{IsSessionWord}
use Rattle.urpf_cli.proofs.Lines.{each_at, each_of_all}
use Rattle.urpf_cli.proofs.words.are_session_words.Goals as goal

pub returns-then-not-is_session_word : goal.returns-then-not-is_session_word
returns-then-not-is_session_word c = (
  λ is. absurd cc,
  λ all. let here = each_at string_bytes IsSessionWord c.args.words.now c.loop-word.word-index c.word-item.result
      (omega arith) c.word-item.is all in
      c.if-not-is_session_word.ensures.1 (rw c.as_str.ensures.value here),
)

pub loop-word-preserved : goal.loop-word-preserved
loop-word-preserved c =
    let here = subst IsSessionWord c.as_str.ensures.value (c.if-not-is_session_word.ensures.0 refl) in
    All-more (λ w. IsSessionWord (string_bytes w)) c.args.words.now c.loop-word.word-index c.word-item.result
    c.loop-word-test.true c.loop-word.invariant
    (subst (λ w. IsSessionWord (string_bytes w)) c.word-item.is here)

pub returns : goal.returns
returns c = (
  λ is. each_of_all string_bytes IsSessionWord c.args.words.now c.loop-word.word-index (omega arith)
      c.loop-word.invariant,
  λ all. refl,
)
