use Rattle.std.proofs.Common.{List, ℕ, ◌++◌, string_bytes, ap, ◌∙◌, append_assoc}
use Rattle.std.proofs.lemmas.Result.{on_ok_weaker}
use Rattle.code_as_ocl.specs.ShownRules.{head_shown, line_shown}
use Rattle.code_as_ocl.proofs.rules.put_whole.Goals as goal

pub returns : goal.returns
returns c =
    let out = string_bytes c.args.out.now in
    let head = head_shown c.args.accepted.now.model c.args.accepted.now.unit c.args.rule in
    let line = line_shown c.args.accepted.now.model c.args.accepted.now.unit c.args.rule in
    on_ok_weaker c.put_line.result (λ put. put ∙ (ap (λ (x : List ℕ). x ++ line) c.in_ok-put_head.ensures ∙ append_assoc out head line)) c.put_line.ensures
