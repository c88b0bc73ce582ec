use Rattle.std.proofs.Common.{◌≡◌, ◌++◌, ◌∷◌, [], List, ℕ, ap, ◌∙◌, arith}
use Rattle.control_core.specs.Openings.{zeros}
use Rattle.control_core.specs.Worlds.{Position}
use Rattle.control_core.proofs.Opened.{zeros-push}
use Rattle.control_core.proofs.opening.first_mark.Goals as goal

pub sessions-preserved : goal.sessions-preserved
sessions-preserved c =
    c.in-Ok.ensures.items ∙ ap (λ (ns : List ℕ). ns ++ 0 ∷ []) c.sessions.invariant ∙ zeros-push c.sessions.counter

pub returns : goal.returns
returns c =
    let all : c.sessions.counter ≡ c.args.sessions = omega arith in
    let make : List ℕ → Position = λ ns. record { number = 0; edits = 0; items = ns } in
    c.new.ensures ∙ ap make (c.sessions.invariant ∙ ap zeros all)
