use Rattle.std.proofs.Common.{List, ℕ, ◌++◌, string_bytes, ap, ◌∙◌, append_assoc}
use Rattle.std.proofs.lemmas.Result.{on_ok_weaker}
use Rattle.code_as_ocl.specs.ShownRules.{head_shown, line_shown, mark_shown}
use Rattle.code_as_ocl.proofs.rules.put_marked.Goals as goal

pub returns : goal.returns
returns c =
    let out = string_bytes c.args.out.now in
    let head = head_shown c.args.accepted.now.model c.args.accepted.now.unit c.args.rule in
    let mark = mark_shown c.args.why.now in
    let line = line_shown c.args.accepted.now.model c.args.accepted.now.unit c.args.rule in
    let marked = c.in_ok-put_mark.ensures ∙ ap (λ (x : List ℕ). x ++ mark) c.in_ok-put_head.ensures in
    on_ok_weaker c.put_line.result (λ put. put ∙ (ap (λ (x : List ℕ). x ++ line) marked ∙ (append_assoc (out ++ head) mark line ∙ append_assoc out head (mark ++ line)))) c.put_line.ensures
