-- The rounds and the marks of a run, by the steps of its runbook. Our own choice.
use Rattle.std.specs.Prelude.{ℕ, zero, suc, ◌+◌, List, [], ◌∷◌}
use Rattle.run_lines.specs.Steps.{Step, pull, publish, round, check, change, summary}

-- how many rounds a step ends
abbrev pub rounds_by : Step → ℕ
rounds_by (pull session count) = 0
rounds_by publish = 0
rounds_by round = 1
rounds_by (check iface addr) = 0
rounds_by (change edit) = 0
rounds_by summary = 0

abbrev pub round_count : List Step → ℕ
round_count [] = 0
round_count (step ∷ steps) = rounds_by step + round_count steps

-- the number of the last mark before the step that ends this round, and of all marks where no step ends it; 0
-- for round 0
abbrev pub last_of : List Step → ℕ → ℕ
last_of steps zero = 0
last_of [] (suc r) = 0
last_of (pull session count ∷ steps) (suc r) = last_of steps (suc r)
last_of (publish ∷ steps) (suc r) = suc (last_of steps (suc r))
last_of (round ∷ steps) (suc r) = last_of steps r
last_of (check iface addr ∷ steps) (suc r) = last_of steps (suc r)
last_of (change edit ∷ steps) (suc r) = last_of steps (suc r)
last_of (summary ∷ steps) (suc r) = last_of steps (suc r)
