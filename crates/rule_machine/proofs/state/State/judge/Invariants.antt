use Rattle.rule_machine.proofs.state.State.judge.Given as goal

abbrev pub ghosts-judge_counted : goal.ghosts-judge_counted
ghosts-judge_counted a = record { name = a.blank.name; parts = a.blank.parts }
