use Rattle.std.proofs.Common.{◌⊎◌, [], ℕ, OnErr, IfSome, subst}
use Rattle.urpf_base.specs.Faults.{Rose}
use Rattle.urpf_base.specs.declared.address.Addr.{Addr}
use Rattle.mrt_feed.specs.Places.{Halts}
use Rattle.mrt_feed.proofs.Runs.{ran_trans}
use Rattle.mrt_feed.proofs.feed.next_head.Goals as goal

pub returns-clause-ran : goal.returns-clause-ran
returns-clause-ran g c peer =
    ran_trans peer _ _ _ _ _ _ _ _ _ [] (c.pass_over.ensures.ran peer) (c.fill_whole.ensures.ran peer)

pub returns-clause-failed : goal.returns-clause-failed
returns-clause-failed g c =
    subst (λ (n : ℕ). OnErr c.fill_whole.result (Rose n (g.S.Source.faults c.fill_whole.new.input.source)
    ⊎ ((peer : Addr) → IfSome (g.S.Source.left c.fill_whole.new.input.source)
    (Halts peer c.fill_whole.new.place c.fill_whole.new.input.taken))))
    c.in_ok-pass_over.ensures.kept c.fill_whole.ensures.failed
